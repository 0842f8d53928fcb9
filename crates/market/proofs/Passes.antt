-- What the passes over the text find, each by itself, is together what the definition says. Assumes nothing.
use mathlib.Core.Bool.{Bool, true, false, cond, not, ◌&&◌}
use mathlib.Core.List.{List, [], ◌∷◌, ◌++◌, append-nil, append_assoc}
use mathlib.Core.Path.{◌≡◌, refl, sym, ap, ◌∙◌}
use Prim.Native.Nat.{ℕ, suc, ◌≤◌}
use native.Mathlib.Omega.{arith}
use borrow.Author.Tests.{eq-eqb, ne_eqb, lt-ltb, le-ltb, le-leb, lt-leb}
use lib.Dec.{leb}
use lib.ListN.{length, length-append}
use Rattle.lines.specs.declared.Kind.{Kind}
use Rattle.lines.specs.declared.Kind.TheVariants as K
use Rattle.market.specs.Market.{Entry, has, Read, fault, inside, body}
use Rattle.market.specs.Passes.{Stop, stop, doubles_with, scan_from, repeat_from, entries_in, read_by}

-- ---- one more entry, on the diagonal or off it

pub doubles-same : (d r c : ℕ) → r ≡ c → doubles_with d r c ≡ d
unfolding doubles_with
doubles-same d r c h = rw (eq-eqb r c h) refl

pub doubles_other : (d r c : ℕ) → (r ≡ c → ⊥) → doubles_with d r c ≡ suc d
unfolding doubles_with
doubles_other d r c h = rw (ne_eqb r c h) refl

-- ---- repeats

-- from the limit on nothing is looked at
pub repeat_over : (seen : List Entry) (k limit : ℕ) (ks : List Kind) → limit ≤ k → repeat_from seen k limit ks ≡ limit
unfolding repeat_from
repeat_over seen k limit [] h = refl
repeat_over seen k limit (K.Blank ∷ ks) h = rw (le-leb limit k h) refl
repeat_over seen k limit (K.Comment ∷ ks) h = rw (le-leb limit k h) refl
repeat_over seen k limit (K.Entry r c ∷ ks) h = rw (le-leb limit k h) refl
repeat_over seen k limit (K.Size r c m ∷ ks) h = rw (le-leb limit k h) refl
repeat_over seen k limit (K.Other ∷ ks) h = rw (le-leb limit k h) refl

-- ---- the passes together

-- the line of a stop is no earlier than where the pass began
pub line-least : (n m e d k : ℕ) (ks : List Kind) → k ≤ (scan_from n m e d k ks).line
unfolding scan_from
line-least n m e d k [] = omega arith
line-least n m e d k (K.Blank ∷ ks) = omega (arith, line-least n m e d (suc k) ks)
line-least n m e d k (K.Comment ∷ ks) = omega arith
line-least n m e d k (K.Entry r c ∷ ks) = go (inside n m e r c) (line-least n m (suc e) (doubles_with d r c) (suc k) ks)
  where
    go : (b : Bool) → suc k ≤ (scan_from n m (suc e) (doubles_with d r c) (suc k) ks).line
        → k ≤ (cond b (scan_from n m (suc e) (doubles_with d r c) (suc k) ks) (stop false k e d)).line
    go true h = omega arith
    go false h = omega arith
line-least n m e d k (K.Size r c s ∷ ks) = omega arith
line-least n m e d k (K.Other ∷ ks) = omega arith

-- a stop at line k, and no repeat before it
stopped : (n k e d : ℕ) (es : List Entry) → read_by n (stop false k e d) k es ≡ fault k
unfolding read_by
stopped n k e d es = rw (le-ltb k k (omega arith)) refl

-- one more entry at the end
pub length_snoc : (seen : List Entry) (x : Entry) (e : ℕ) → length seen ≡ e → length (seen ++ (x ∷ [])) ≡ suc e
length_snoc seen x e p = omega (arith, length-append seen (x ∷ []))

-- an entry's line, whose three ways are a fault of its own, a repeat, and what stands behind it
entry_part : (n k e d : ℕ) (is_inside is_there : Bool) (s : Stop) (rest : Read) (later : ℕ → ℕ) (es : List Entry) → suc k ≤ s.line
    → rest ≡ read_by n s (later s.line) es
    → cond (is_inside && not is_there) rest (fault k)
    ≡ read_by n (cond is_inside s (stop false k e d))
    (cond (leb (cond is_inside s (stop false k e d)).line k) (cond is_inside s (stop false k e d)).line (cond is_there k (later (cond is_inside s (stop false k e d)).line))) es
unfolding read_by
entry_part n k e d true true s rest later es h q = rw (lt-leb s.line k (omega arith), lt-ltb k s.line (omega arith)) refl
entry_part n k e d true false s rest later es h q = rw (lt-leb s.line k (omega arith)) q
entry_part n k e d false is_there s rest later es h q = rw (le-leb k k (omega arith), le-ltb k k (omega arith)) refl

pub by_parts : (n m : ℕ) (seen : List Entry) (e d k : ℕ) (ks : List Kind) → length seen ≡ e
    → body n m seen k ks ≡ read_by n (scan_from n m e d k ks) (repeat_from seen k (scan_from n m e d k ks).line ks) (seen ++ entries_in ks)
unfolding body scan_from repeat_from entries_in read_by
by_parts n m seen e d k [] p = rw (p, le-ltb k k (omega arith), append-nil) refl
by_parts n m seen e d k (K.Blank ∷ ks) p =
    rw (lt-leb (scan_from n m e d (suc k) ks).line k (omega (arith, line-least n m e d (suc k) ks))) (by_parts n m seen e d (suc k) ks p)
by_parts n m seen e d k (K.Comment ∷ ks) p = rw (le-leb k k (omega arith)) (sym (stopped n k e d (seen ++ entries_in ks)))
by_parts n m seen e d k (K.Entry r c ∷ ks) p =
    let x : Entry = record { row = r; column = c } in
    let s = scan_from n m (suc e) (doubles_with d r c) (suc k) ks in
    rw p (entry_part n k e d (inside n m e r c) (has seen r c) s (body n m (seen ++ (x ∷ [])) (suc k) ks)
    (λ limit. repeat_from (seen ++ (x ∷ [])) (suc k) limit ks) (seen ++ (x ∷ entries_in ks))
    (line-least n m (suc e) (doubles_with d r c) (suc k) ks)
    (by_parts n m (seen ++ (x ∷ [])) (suc e) (doubles_with d r c) (suc k) ks (length_snoc seen x e p)
    ∙ ap (read_by n s (repeat_from (seen ++ (x ∷ [])) (suc k) s.line ks)) (append_assoc seen (x ∷ []) (entries_in ks))))
by_parts n m seen e d k (K.Size r c s ∷ ks) p = rw (le-leb k k (omega arith)) (sym (stopped n k e d (seen ++ entries_in ks)))
by_parts n m seen e d k (K.Other ∷ ks) p = rw (le-leb k k (omega arith)) (sym (stopped n k e d (seen ++ entries_in ks)))
