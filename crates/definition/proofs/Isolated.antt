-- The isolated count: a row is counted exactly where its inverse weight came from the second case, 1e-12 because the root was not above it.
-- Assumes nothing.
use mathlib.Core.Path.{◌≡◌, refl, ap, ap₂}
use mathlib.Core.Bool.{Bool, true, false, cond}
use Prim.Native.Nat.{ℕ, zero, suc, ◌+◌, ◌≤◌, ◌<◌}
use native.Mathlib.Numerals.{add-one}
use native.Mathlib.Omega.{arith}
use Rattle.definition.specs.Arith.{Arith}
use Rattle.definition.specs.ChunkedColumnReduce.{Vector}
use Rattle.definition.specs.SpectralEmbedding.{above_floor, degree_root, inverse_of, inverse_weight, isolated_rows}

module _ (A : Arith) where
  pub isolated-none : (root : Vector A) → isolated_rows A 0 root ≡ 0
  unfolding isolated_rows
  isolated-none root = refl

  pub isolated-more : (i : ℕ) (root : Vector A) → isolated_rows A (i + 1) root ≡ isolated_rows A i root + cond (above_floor A (root i)) 0 1
  unfolding isolated_rows
  isolated-more i root = ap (λ (n : ℕ). isolated_rows A n root) (add-one i)

  -- ---- by which case a root gives a row its inverse weight, and what the row adds to the count in that case
  pub data Weighed (root : A.F) : A.F → ℕ → Type 0 where
    by_root : above_floor A root ≡ true → Weighed root (A.div A.one root) 0
    by_floor : above_floor A root ≡ false → Weighed root A.weight_floor 1

  pub record Counted (start : ℕ → ℕ) (value : ℕ → A.F) (i : ℕ) : Type 0 where
    pub adds : ℕ
    pub weighed : Weighed (degree_root A start value i) (inverse_weight A start value i) adds
    pub count : isolated_rows A (i + 1) (degree_root A start value) ≡ isolated_rows A i (degree_root A start value) + adds

  by-case : (root : A.F) (b : Bool) → above_floor A root ≡ b → Weighed root (cond b (A.div A.one root) A.weight_floor) (cond b 0 1)
  by-case root true e = by_root e
  by-case root false e = by_floor e

  pub row-counted : (start : ℕ → ℕ) (value : ℕ → A.F) (i : ℕ) → Counted start value i
  unfolding inverse_weight inverse_of
  row-counted start value i = record {
    adds = cond (above_floor A (degree_root A start value i)) 0 1;
    weighed = by-case (degree_root A start value i) (above_floor A (degree_root A start value i)) refl;
    count = isolated-more i (degree_root A start value);
  }

  -- ---- at most n, and of the roots below n alone
  one-most : (b : Bool) → cond {A = ℕ} b 0 1 ≤ 1
  one-most true = omega arith
  one-most false = omega arith

  pub isolated-most : (n : ℕ) (root : Vector A) → isolated_rows A n root ≤ n
  unfolding isolated_rows
  isolated-most zero root = omega arith
  isolated-most (suc n) root = omega (arith, isolated-most n root, one-most (above_floor A (root n)))

  pub isolated_cong : (n : ℕ) (f g : Vector A) → ((i : ℕ) → i < n → f i ≡ g i) → isolated_rows A n f ≡ isolated_rows A n g
  unfolding isolated_rows
  isolated_cong zero f g q = refl
  isolated_cong (suc n) f g q =
      ap₂ ◌+◌ (isolated_cong n f g (λ i l. q i (omega arith))) (ap (λ (x : A.F). cond {A = ℕ} (above_floor A x) 0 1) (q n (omega arith)))
