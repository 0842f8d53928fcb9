-- A triangle has room: where fewer entries than its n (n + 1) / 2 cells are there, one of its cells is none of them. Assumes nothing.
use mathlib.Core.Path.{◌≡◌, refl, sym, ap, ap₂, ◌∙◌}
use mathlib.Core.Bool.{Bool, true, false, cond, ◌&&◌, ◌||◌, false≢true}
use mathlib.Core.List.{List, [], ◌∷◌, ◌++◌}
use Prim.Native.Nat.{ℕ, zero, suc, ◌+◌, ◌*◌, ◌≤◌, ◌<◌}
use native.Mathlib.Omega.{arith}
use lib.Dec.{eqb}
use lib.ListN.{length, length-append}
use Rattle.digits.proofs.Bytes.{right_or, neither, settle}
use Rattle.market.specs.Market.{Entry, is, has}
use Rattle.market.proofs.Bools.{decide}
use Rattle.market.proofs.Right.{entry, is_same, has_append, has_first}
use Rattle.grammar.specs.Grammar.{NoRepeats}
use Rattle.grammar.proofs.Entries.{or_neither, In}

-- ---- one of some entries

or_second : (a b : Bool) → a ≡ false → (a || b) ≡ true → b ≡ true
or_second a b p q = sym (ap (λ (t : Bool). t || b) p) ∙ q

has-later : (d : Entry) (es : List Entry) (r c : ℕ) → has es r c ≡ true → has (d ∷ es) r c ≡ true
unfolding has
has-later d es r c h = right_or (is d r c) (has es r c) h

has-cases : {P : Type 0} (d : Entry) (es : List Entry) (r c : ℕ) → has (d ∷ es) r c ≡ true → (d.row ≡ r → d.column ≡ c → P) → (has es r c ≡ true → P) → P
unfolding has
has-cases d es r c h f g =
    decide (is d r c) (λ e. let s = is_same d r c e in f s.0 s.1) (λ e. g (or_second (is d r c) (has es r c) e h))

-- ---- the cells, row by row

cells_to : ℕ → ℕ → List Entry
cells_to r zero = []
cells_to r (suc c) = entry r (suc c) ∷ cells_to r c

cells : ℕ → List Entry
cells zero = []
cells (suc n) = cells_to (suc n) (suc n) ++ cells n

in_row : (r k a b : ℕ) → has (cells_to r k) a b ≡ true → (a ≡ r) × (1 ≤ b) × (b ≤ k)
unfolding cells_to has
in_row r zero a b h = absurd (false≢true h)
in_row r (suc k) a b h =
    has-cases (entry r (suc k)) (cells_to r k) a b h (λ p q. (sym p, omega arith, omega arith))
    (λ t. let i = in_row r k a b t in (i.0, i.1, omega arith))

in_cells : (n a b : ℕ) → has (cells n) a b ≡ true → In n (entry a b)
unfolding cells has
in_cells zero a b h = absurd (false≢true h)
in_cells (suc n) a b h =
    decide (has (cells_to (suc n) (suc n)) a b) (λ t. let i = in_row (suc n) (suc n) a b t in (i.1, omega arith, omega arith))
    (λ f.
    let g = or_second (has (cells_to (suc n) (suc n)) a b) (has (cells n) a b) f (sym (has_append (cells_to (suc n) (suc n)) (cells n) a b) ∙ h) in
    let i = in_cells n a b g in
    (i.0, i.1, omega arith))

-- none twice
none_append : (xs ys : List Entry) → NoRepeats xs → NoRepeats ys → ((a b : ℕ) → has xs a b ≡ true → has ys a b ≡ false) → NoRepeats (xs ++ ys)
unfolding NoRepeats
none_append [] ys p q f = q
none_append (x ∷ xs) ys p q f = (
  has_append xs ys x.row x.column
      ∙ neither (has xs x.row x.column) (has ys x.row x.column) p.0 (f x.row x.column (has_first x xs)),
  none_append xs ys p.1 q (λ a b h. f a b (has-later x xs a b h)),
)

row-once : (r k : ℕ) → NoRepeats (cells_to r k)
unfolding cells_to NoRepeats
row-once r zero = tt
row-once r (suc k) = (settle (has (cells_to r k) r (suc k)) (λ h. omega (arith, (in_row r k r (suc k) h).2)), row-once r k)

cells_once : (n : ℕ) → NoRepeats (cells n)
unfolding cells NoRepeats
cells_once zero = tt
cells_once (suc n) =
    none_append (cells_to (suc n) (suc n)) (cells n) (row-once (suc n) (suc n)) (cells_once n)
    (λ a b h. settle (has (cells n) a b) (λ g. omega (arith, (in_row (suc n) (suc n) a b h).0, (in_cells n a b g).2)))

-- how many
row-length : (r k : ℕ) → length (cells_to r k) ≡ k
unfolding cells_to
row-length r zero = refl
row-length r (suc k) = ap suc (row-length r k)

cells_length : (n : ℕ) → 2 * length (cells n) ≡ n * (n + 1)
unfolding cells
cells_length zero = refl
cells_length (suc n) =
    omega (arith, length-append (cells_to (suc n) (suc n)) (cells n), row-length (suc n) (suc n), cells_length n)

-- ---- of more cells than entries one is no entry

without : Entry → List Entry → List Entry
without d [] = []
without d (x ∷ xs) = cond (is x d.row d.column) xs (x ∷ without d xs)

module _ (d x : Entry) (xs : List Entry) where
  without_it : is x d.row d.column ≡ true → without d (x ∷ xs) ≡ xs
  unfolding without
  without_it e = ap (λ (t : Bool). cond t xs (x ∷ without d xs)) e

  without_other : is x d.row d.column ≡ false → without d (x ∷ xs) ≡ x ∷ without d xs
  unfolding without
  without_other e = ap (λ (t : Bool). cond t xs (x ∷ without d xs)) e

without_length : (d : Entry) (xs : List Entry) → has xs d.row d.column ≡ true → suc (length (without d xs)) ≡ length xs
unfolding has
without_length d [] h = absurd (false≢true h)
without_length d (x ∷ xs) h =
    decide (is x d.row d.column) (λ e. ap (λ (l : List Entry). suc (length l)) (without_it d x xs e))
    (λ e.
    ap (λ (l : List Entry). suc (length l)) (without_other d x xs e)
    ∙ ap suc (without_length d xs (or_second (is x d.row d.column) (has xs d.row d.column) e h)))

-- another entry is there if it was
without_keeps : (d : Entry) (xs : List Entry) (r c : ℕ) → is d r c ≡ false → has (without d xs) r c ≡ false → has xs r c ≡ false
unfolding has
without_keeps d [] r c o h = refl
without_keeps d (x ∷ xs) r c o h =
    decide (is x d.row d.column)
    (λ e.
    let s = is_same x d.row d.column e in
    neither (is x r c) (has xs r c) (ap₂ (λ (a b : ℕ). eqb a r && eqb b c) s.0 s.1 ∙ o)
    (sym (ap (λ (l : List Entry). has l r c) (without_it d x xs e)) ∙ h))
    (λ e.
    let g = or_neither (is x r c) (has (without d xs) r c) (sym (ap (λ (l : List Entry). has l r c) (without_other d x xs e)) ∙ h) in
    neither (is x r c) (has xs r c) g.0 (without_keeps d xs r c o g.1))

missing : (cs seen : List Entry) → NoRepeats cs → length seen < length cs
    → (e : Entry) × (has cs e.row e.column ≡ true) × (has seen e.row e.column ≡ false)
unfolding NoRepeats
missing [] seen q l = absurd (omega arith)
missing (d ∷ cs) seen q l =
    decide (has seen d.row d.column)
    (λ t.
    let i = missing cs (without d seen) q.1 (omega (arith, without_length d seen t)) in
    let e = i.0 in
    let other : is d e.row e.column ≡ false = settle (is d e.row e.column) (λ h.
    let s = is_same d e.row e.column h in false≢true (sym q.0 ∙ ap₂ (has cs) s.0 s.1 ∙ i.1))
    in
    (e, has-later d cs e.row e.column i.1, without_keeps d seen e.row e.column other i.2))
    (λ f. (d, has_first d cs, f))

pub fresh : (n : ℕ) (seen : List Entry) → 2 * length seen < n * (n + 1) → (e : Entry) × In n e × (has seen e.row e.column ≡ false)
fresh n seen l =
    let i = missing (cells n) seen (cells_once n) (omega (arith, cells_length n)) in
    (i.0, in_cells n i.0.row i.0.column i.1, i.2)
