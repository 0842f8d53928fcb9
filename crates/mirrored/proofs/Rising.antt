-- The definition's rows rise strictly. Assumes nothing.
use mathlib.Core.Bool.{Bool, true, false, cond}
use mathlib.Core.List.{List, ◌∷◌}
use Prim.Native.Nat.{ℕ, zero, suc, ◌+◌, ◌≤◌, ◌<◌}
use native.Mathlib.Omega.{arith}
use lib.ListN.{length, get_or}
use Rattle.edges.specs.Sorting.{Rising}
use Rattle.market.specs.Market.{Entry}
use Rattle.market.specs.Graph.{linked, passing, row_of}
use Rattle.mirrored.specs.Graph.{Strict}

-- what passes, of the m numbers from a on, is from a on and below a + m
pub record Between (a e : ℕ) (l : List ℕ) : Type 0 where
  pub least : (j : ℕ) → j < length l → a ≤ get_or l j 0
  pub most : (j : ℕ) → j < length l → get_or l j 0 < e

module _ (p : ℕ → Bool) where
  pub passing-between : (a m : ℕ) → Between a (a + m) (passing p a m)
  unfolding passing
  passing-between a zero = record { least = λ j h. absurd (omega arith); most = λ j h. absurd (omega arith) }
  passing-between a (suc m) = go (p a) (passing p (suc a) m) (passing-between (suc a) m)
    where
      from_a : (l : List ℕ) → Between (suc a) (suc a + m) l → (j : ℕ) → j < length (a ∷ l) → a ≤ get_or (a ∷ l) j 0
      from_a l h zero q = omega arith
      from_a l h (suc k) q = omega (arith, h.least k (omega arith))

      to_end : (l : List ℕ) → Between (suc a) (suc a + m) l → (j : ℕ) → j < length (a ∷ l) → get_or (a ∷ l) j 0 < a + suc m
      to_end l h zero q = omega arith
      to_end l h (suc k) q = omega (arith, h.most k (omega arith))

      go : (b : Bool) (l : List ℕ) → Between (suc a) (suc a + m) l → Between a (a + suc m) (cond b (a ∷ l) l)
      go true l h = record { least = from_a l h; most = to_end l h }
      go false l h = record { least = λ j q. omega (arith, h.least j q); most = λ j q. omega (arith, h.most j q) }

  pub passing_strict : (a m : ℕ) → Strict (passing p a m)
  unfolding passing
  passing_strict a zero = record { up = λ i j h q. absurd (omega arith) }
  passing_strict a (suc m) = go (p a) (passing p (suc a) m) (passing-between (suc a) m) (passing_strict (suc a) m)
    where
      ahead : (l : List ℕ) → Between (suc a) (suc a + m) l → Strict l → (i j : ℕ) → i < j → j < length (a ∷ l) → get_or (a ∷ l) i 0 < get_or (a ∷ l) j 0
      ahead l h s i zero p q = absurd (omega arith)
      ahead l h s zero (suc j) p q = omega (arith, h.least j (omega arith))
      ahead l h s (suc i) (suc j) p q = s.up i j (omega arith) (omega arith)

      go : (b : Bool) (l : List ℕ) → Between (suc a) (suc a + m) l → Strict l → Strict (cond b (a ∷ l) l)
      go true l h s = record { up = ahead l h s }
      go false l h s = s

pub strict_rising : (l : List ℕ) → Strict l → Rising (λ x. x) l
strict_rising l s = record { up = λ i j h q. omega (arith, s.up i j h q) }

pub row_strict : (n : ℕ) (es : List Entry) (i : ℕ) → Strict (row_of n es i)
unfolding row_of
row_strict n es i = passing_strict (linked es i) 0 n

pub row_below : (n : ℕ) (es : List Entry) (i j : ℕ) → j < length (row_of n es i) → get_or (row_of n es i) j 0 < n
unfolding row_of
row_below n es i j h = omega (arith, (passing-between (linked es i) 0 n).most j h)
