-- Laws of a graph's rows: the starts rise, and which row has an entry. Assumes nothing.
use mathlib.Core.Path.{◌≡◌, ap, ◌∙◌}
use mathlib.Core.Bool.{Bool, cond}
use mathlib.Core.List.{List}
use Prim.Native.Nat.{ℕ, zero, suc, ◌+◌, ◌-◌, ◌≤◌, ◌<◌}
use native.Mathlib.Omega.{arith}
use borrow.Author.Tests.{le-leb, lt-leb}
use lib.ListN.{get_or}
use Rattle.definition.specs.Memory.{row_holding, wholes_of}
use Rattle.definition.specs.Requirements.{Starts}
use Rattle.definition.proofs.Fill.{split}

-- starts that do not fall from one row to the next: a later one is no lower
module _ (starts : List ℕ) (first end : ℕ) (rising : (i : ℕ) → first ≤ i → i < end → get_or starts i 0 ≤ get_or starts (i + 1) 0) where
  climb : (i d : ℕ) → first ≤ i → i + d ≤ end → get_or starts i 0 ≤ get_or starts (i + d) 0
  climb i zero p q = let e : i + 0 ≡ i = omega arith in rw e (omega arith)
  climb i (suc d) p q =
      let e : i + suc d ≡ i + d + 1 = omega arith in
      rw e (omega (arith, climb i d p (omega arith), rising (i + d) (omega arith) (omega arith)))

  pub rising-up : (i j : ℕ) → first ≤ i → i ≤ j → j ≤ end → get_or starts i 0 ≤ get_or starts j 0
  rising-up i j p q r = let e : i + (j - i) ≡ j = omega arith in (rw e at (climb i (j - i) p (omega arith)))

module _ (starts : List ℕ) (first end m : ℕ) (h : Starts starts first end m) where
  pub starts-up : (i j : ℕ) → first ≤ i → i ≤ j → j ≤ end → get_or starts i 0 ≤ get_or starts j 0
  starts-up = rising-up starts first end h.rising

  -- the row that has an entry is the one that `row_holding` finds
  pub row-holding : (r i p : ℕ) → first ≤ i → i < first + r → first + r ≤ end → get_or starts i 0 ≤ p → p < get_or starts (i + 1) 0
      → row_holding (wholes_of starts) first r p ≡ i
  unfolding row_holding
  row-holding zero i p a b c d f = absurd (omega arith)
  row-holding (suc r) i p a b c d f =
      split i (first + r)
      (λ l. ap (λ (t : Bool). cond t (first + r) (row_holding (wholes_of starts) first r p)) (lt-leb (get_or starts (first + r) 0) p (omega (arith, starts-up (i + 1) (first + r) (omega arith) (omega arith) (omega arith))))
      ∙ row-holding r i p a l (omega arith) d f)
      (λ l. let e : first + r ≡ i = omega arith in
      ap (λ (t : Bool). cond t (first + r) (row_holding (wholes_of starts) first r p)) (le-leb (get_or starts (first + r) 0) p (rw e d)) ∙ e)
