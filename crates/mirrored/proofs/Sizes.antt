-- The entries as placed are the file's entries and, once more, those off the diagonal. Assumes nothing.
use mathlib.Core.Bool.{Bool, true, false, cond, false≢true}
use mathlib.Core.List.{List, [], ◌∷◌}
use mathlib.Core.Path.{◌≡◌, refl, sym, ap, ◌∙◌}
use Prim.Native.Nat.{ℕ, zero, suc, ◌+◌, ◌≤◌, ◌<◌}
use native.Mathlib.Omega.{arith}
use lib.ListN.{length, length-append}
use Rattle.definition.proofs.Fill.{same_or}
use Rattle.lines.specs.declared.Kind.{Kind}
use Rattle.lines.specs.declared.Kind.TheVariants as K
use Rattle.market.specs.Market.{Entry, inside}
use Rattle.market.specs.Graph.{placed_of}
use Rattle.market.specs.Passes.{Stop, stop, doubles_with, scan_from, entries_in, Within, touch, neighbours, gathered_start}
use Rattle.market.proofs.Passes.{doubles-same, doubles_other}
use Rattle.market.proofs.Right.{Distinct}
use Rattle.market.proofs.Starts.{start_first, start-next}
use Rattle.mirrored.proofs.Counts.{touch-row, touch-column, touch-none}
use Rattle.mirrored.proofs.Lengths.{start-same}

-- how many of some entries are off the diagonal, of d before them
doubles_in : ℕ → List Entry → ℕ
doubles_in d [] = d
doubles_in d (e ∷ es) = doubles_in (doubles_with d e.row e.column) es

doubles-more : (d : ℕ) (es : List Entry) → doubles_in (suc d) es ≡ suc (doubles_in d es)
unfolding doubles_in
doubles-more d [] = refl
doubles-more d (e ∷ es) =
    same_or e.row e.column
    (λ h. ap (λ (x : ℕ). doubles_in x es) (doubles-same (suc d) e.row e.column h) ∙ doubles-more d es
    ∙ ap (λ (x : ℕ). suc (doubles_in x es)) (sym (doubles-same d e.row e.column h)))
    (λ h. ap (λ (x : ℕ). doubles_in x es) (doubles_other (suc d) e.row e.column h) ∙ doubles-more (suc d) es
    ∙ ap (λ (x : ℕ). suc (doubles_in x es)) (sym (doubles_other d e.row e.column h)))

-- ---- what one entry puts into the first n rows

touches : ℕ → Entry → ℕ
touches zero e = 0
touches (suc n) e = touches n e + length (touch n e)

module _ (e : Entry) (least : 1 ≤ e.column) (lower : e.column ≤ e.row) where
  size-row : (i : ℕ) → e.row ≡ suc i → length (touch i e) ≡ 1
  size-row i p = ap length (touch-row e i 0 p)

  size-column : (i : ℕ) → (e.row ≡ suc i → ⊥) → e.column ≡ suc i → length (touch i e) ≡ 1
  size-column i p q = ap length (touch-column e i 0 p q)

  size_none : (i : ℕ) → (e.row ≡ suc i → ⊥) → (e.column ≡ suc i → ⊥) → length (touch i e) ≡ 0
  size_none i p q = ap length (touch-none e i 0 p q)

  touches_none : (n : ℕ) → n < e.column → touches n e ≡ 0
  unfolding touches
  touches_none zero h = refl
  touches_none (suc n) h = omega (arith, touches_none n (omega arith), size_none n (λ p. omega arith) (λ p. omega arith))

  touches_one : (n : ℕ) → e.column ≤ n → n < e.row → touches n e ≡ 1
  unfolding touches
  touches_one zero p q = absurd (omega arith)
  touches_one (suc n) p q =
      same_or e.column (suc n)
      (λ h. omega (arith, touches_none n (omega arith), size-column n (λ u. omega arith) h))
      (λ h. omega (arith, touches_one n (omega arith) (omega arith), size_none n (λ u. omega arith) h))

  touches_all : (n : ℕ) → e.row ≤ n → touches n e ≡ doubles_with 1 e.row e.column
  unfolding touches
  touches_all zero p = absurd (omega arith)
  touches_all (suc n) p =
      same_or e.row (suc n)
      (λ h. same_or e.row e.column
      (λ s. omega (arith, touches_none n (omega arith), size-row n h, doubles-same 1 e.row e.column s))
      (λ s. omega (arith, touches_one n (omega arith) (omega arith), size-row n h, doubles_other 1 e.row e.column s)))
      (λ h. omega (arith, touches_all n (omega arith), size_none n h (λ u. omega arith)))

-- ---- all entries

gathered_cons : (e : Entry) (es : List Entry) (n : ℕ) → gathered_start (e ∷ es) n ≡ touches n e + gathered_start es n
unfolding neighbours touches
gathered_cons e es zero = omega (arith, start_first (e ∷ es), start_first es)
gathered_cons e es (suc n) =
    omega (arith, gathered_cons e es n, start-next (e ∷ es) n, start-next es n, length-append (touch n e) (neighbours n es))

gathered_nil : (n : ℕ) → gathered_start [] n ≡ 0
unfolding neighbours
gathered_nil zero = start_first []
gathered_nil (suc n) = omega (arith, gathered_nil n, start-next [] n)

gathered-size : (n : ℕ) (es : List Entry) → Within n es → gathered_start es n ≡ length es + doubles_in 0 es
unfolding Within doubles_in
gathered-size n [] w = gathered_nil n
gathered-size n (e ∷ es) w =
    let rest = gathered-size n es w.3 in
    let all = touches_all e w.0 w.1 n w.2 in
    same_or e.row e.column
    (λ h. omega (arith, gathered_cons e es n, rest, all, doubles-same 1 e.row e.column h, ap (λ (x : ℕ). doubles_in x es) (doubles-same 0 e.row e.column h)))
    (λ h. omega (arith, gathered_cons e es n, rest, all, doubles_other 1 e.row e.column h, ap (λ (x : ℕ). doubles_in x es) (doubles_other 0 e.row e.column h), doubles-more 0 es))

-- ---- a pass that ends right has counted them

record ScanCounts (e d : ℕ) (ks : List Kind) (s : Stop) : Type 0 where
  entries_are : s.entries ≡ e + length (entries_in ks)
  doubles_are : s.doubles ≡ doubles_in d (entries_in ks)

scan_counts : (n m e d k : ℕ) (ks : List Kind) → (scan_from n m e d k ks).right ≡ true → ScanCounts e d ks (scan_from n m e d k ks)
unfolding scan_from entries_in doubles_in
scan_counts n m e d k [] h = record { entries_are = omega arith; doubles_are = refl }
scan_counts n m e d k (K.Blank ∷ ks) h =
    let g = scan_counts n m e d (suc k) ks h in record { entries_are = g.entries_are; doubles_are = g.doubles_are }
scan_counts n m e d k (K.Comment ∷ ks) h = absurd (false≢true h)
scan_counts n m e d k (K.Entry r c ∷ ks) h = go (inside n m e r c) h (λ q. scan_counts n m (suc e) (doubles_with d r c) (suc k) ks q)
  where
    go : (b : Bool) → (cond b (scan_from n m (suc e) (doubles_with d r c) (suc k) ks) (stop false k e d)).right ≡ true
        → ((scan_from n m (suc e) (doubles_with d r c) (suc k) ks).right ≡ true → ScanCounts (suc e) (doubles_with d r c) ks (scan_from n m (suc e) (doubles_with d r c) (suc k) ks))
        → ScanCounts e d (K.Entry r c ∷ ks) (cond b (scan_from n m (suc e) (doubles_with d r c) (suc k) ks) (stop false k e d))
    go true q f = let g = f q in record { entries_are = omega (arith, g.entries_are); doubles_are = g.doubles_are }
    go false q f = absurd (false≢true q)
scan_counts n m e d k (K.Size r c s ∷ ks) h = absurd (false≢true h)
scan_counts n m e d k (K.Other ∷ ks) h = absurd (false≢true h)

pub placed-size : (n m k : ℕ) (ks : List Kind) (s : Stop) → s ≡ scan_from n m 0 0 k ks → s.right ≡ true → Within n (entries_in ks) → Distinct (entries_in ks)
    → placed_of n (entries_in ks) ≡ s.entries + s.doubles
placed-size n m k ks s p h w d =
    let g = scan_counts n m 0 0 k ks (rw p at h) in
    let a : s.entries ≡ (scan_from n m 0 0 k ks).entries = ap (λ (x : Stop). x.entries) p in
    let b : s.doubles ≡ (scan_from n m 0 0 k ks).doubles = ap (λ (x : Stop). x.doubles) p in
    omega (arith, a, b, g.entries_are, g.doubles_are, gathered-size n (entries_in ks) w, start-same n (entries_in ks) w d n)
