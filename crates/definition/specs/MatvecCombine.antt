-- `matvec_combine`: one pass of the operator, row by row. Definitions only.
use Rattle.std.specs.Prelude.{ℕ, ◌+◌}
use Rattle.definition.specs.Arith.{Arith}
use Rattle.definition.specs.ChunkedColumnReduce.{Vector, Block, sum_up}

module _ (A : Arith) where
  -- Row i has the entries from start i up to start (i + 1), each with the row that it names (its column) and its weight.
  pub record Operator : Type 0 where
    pub start : ℕ → ℕ
    pub column : ℕ → ℕ → ℕ
    pub weight : ℕ → ℕ → A.F
    pub inverse : Vector A

  pub record Multipliers : Type 0 where
    pub of_mv : A.F
    pub of_v : A.F
    pub of_prev : A.F

  -- acc from +0, adding weight x v entry by entry
  unfoldable pub gather : Operator → Block A → ℕ → ℕ → A.F
  gather op v i c = sum_up A (λ e. A.mul (op.weight i e) (v (op.column i e) c)) (op.start i) (op.start (i + 1))

  -- mv = 0.5 x (v + inverse weight x acc)
  unfoldable pub shifted : A.F → A.F → A.F → A.F
  shifted inverse v acc = A.mul A.half (A.add v (A.mul inverse acc))

  -- ((mul_mv x mv) + (mul_v x v)) + (mul_prev x prev)
  unfoldable pub mixed_with : Multipliers → A.F → A.F → A.F → A.F
  mixed_with by mv v prev = A.add (A.add (A.mul by.of_mv mv) (A.mul by.of_v v)) (A.mul by.of_prev prev)

  unfoldable pub matvec_combine : Operator → Multipliers → Block A → Block A → Block A
  matvec_combine op by v prev i c = mixed_with by (shifted (op.inverse i) (v i c) (gather op v i c)) (v i c) (prev i c)
