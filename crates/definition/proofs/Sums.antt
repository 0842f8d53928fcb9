-- Laws of sums in order. Assumes nothing.
use mathlib.Core.Path.{◌≡◌, refl, ap, ◌∙◌}
use Prim.Native.Nat.{ℕ, zero, suc, ◌+◌, ◌-◌, ◌≤◌, ◌<◌}
use native.Mathlib.Nat.{sub_self}
use native.Mathlib.Omega.{arith}
use Rattle.definition.specs.Arith.{Arith}
use Rattle.definition.specs.Numbers.{chunks, first_row}
use Rattle.definition.specs.ChunkedColumnReduce.{Vector, add_up, sum_up, partial_sum, chunked_sum}
use Rattle.definition.proofs.Chunks.{first-most}

module _ (A : Arith) where
  -- no summand, and one more
  pub add_none : (z : A.F) (f : ℕ → A.F) (a : ℕ) → add_up A z f a 0 ≡ z
  unfolding add_up
  add_none z f a = refl

  pub add-more : (z : A.F) (f : ℕ → A.F) (a m : ℕ) → add_up A z f a (m + 1) ≡ A.add (add_up A z f a m) (f (a + m))
  unfolding add_up
  add-more z f a m = let e : m + 1 ≡ suc m = omega arith in ap (add_up A z f a) e

  -- summands that agree where they are asked
  pub add_cong : (z : A.F) (f g : ℕ → A.F) (a m : ℕ) → ((i : ℕ) → a ≤ i → i < a + m → f i ≡ g i) → add_up A z f a m ≡ add_up A z g a m
  unfolding add_up
  add_cong z f g a zero q = refl
  add_cong z f g a (suc m) q =
      ap (λ (x : A.F). A.add x (f (a + m))) (add_cong z f g a m (λ i l u. q i l (omega arith)))
      ∙ ap (A.add (add_up A z g a m)) (q (a + m) (omega arith) (omega arith))

  pub sum-none : (f : ℕ → A.F) (a : ℕ) → sum_up A f a a ≡ A.zero
  unfolding sum_up add_up
  sum-none f a = ap (add_up A A.zero f a) (sub_self a)

  pub sum_more : (f : ℕ → A.F) (a i : ℕ) → a ≤ i → sum_up A f a (i + 1) ≡ A.add (sum_up A f a i) (f i)
  unfolding sum_up add_up
  sum_more f a i p =
      let e : i + 1 - a ≡ suc (i - a) = omega arith in
      let q : a + (i - a) ≡ i = omega arith in
      ap (add_up A A.zero f a) e ∙ ap (λ (k : ℕ). A.add (add_up A A.zero f a (i - a)) (f k)) q

  pub sum_cong : (f g : ℕ → A.F) (a e : ℕ) → ((i : ℕ) → a ≤ i → i < e → f i ≡ g i) → sum_up A f a e ≡ sum_up A g a e
  unfolding sum_up
  sum_cong f g a e q = add_cong A.zero f g a (e - a) (λ i l u. q i l (omega arith))

  -- the chunked sum looks at the first n rows only
  pub partial_cong : (n : ℕ) (f g : Vector A) (h : ℕ) → ((i : ℕ) → i < n → f i ≡ g i) → partial_sum A n f h ≡ partial_sum A n g h
  unfolding partial_sum
  partial_cong n f g h q = sum_cong f g (first_row n h) (first_row n (h + 1)) (λ i l u. q i (omega (arith, first-most n (h + 1))))

  pub chunked_cong : (n : ℕ) (f g : Vector A) → ((i : ℕ) → i < n → f i ≡ g i) → chunked_sum A n f ≡ chunked_sum A n g
  unfolding chunked_sum
  chunked_cong n f g q = sum_cong (partial_sum A n f) (partial_sum A n g) 0 (chunks n) (λ h l u. partial_cong n f g h q)
