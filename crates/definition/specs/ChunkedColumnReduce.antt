-- `chunked_column_reduce` and `column_norm`: sums in order, from +0. Definitions only.
use Rattle.std.specs.Prelude.{ℕ, zero, suc, ◌+◌, ◌-◌}
use Rattle.definition.specs.Arith.{Arith}
use Rattle.definition.specs.Numbers.{chunks, first_row}

module _ (A : Arith) where
  -- a number for each row, or for each row and column
  abbrev pub Vector : Type 0
  Vector = ℕ → A.F

  abbrev pub Block : Type 0
  Block = ℕ → ℕ → A.F

  -- ((z + f a) + f (a + 1)) + .. : m summands
  unfoldable pub add_up : A.F → (ℕ → A.F) → ℕ → ℕ → A.F
  add_up z f a zero = z
  add_up z f a (suc m) = A.add (add_up z f a m) (f (a + m))

  -- f over the places from a up to e, upward, from +0
  unfoldable pub sum_up : (ℕ → A.F) → ℕ → ℕ → A.F
  sum_up f a e = add_up A.zero f a (e - a)

  -- the partial of chunk h: its rows upward
  unfoldable pub partial_sum : ℕ → Vector → ℕ → A.F
  partial_sum n f h = sum_up f (first_row n h) (first_row n (h + 1))

  -- the total: the partials upward
  unfoldable pub chunked_sum : ℕ → Vector → A.F
  chunked_sum n f = sum_up (partial_sum n f) 0 (chunks n)

  abbrev pub square : A.F → A.F
  square x = A.mul x x

  -- the root of the sum of squares of column c
  unfoldable pub column_norm : ℕ → Block → ℕ → A.F
  column_norm n v c = A.root (chunked_sum n (λ i. square (v i c)))
