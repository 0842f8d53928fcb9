-- A pass of the operator over lists in memory: the operator that they keep, the numbers that a pass writes, and what it asks. Definitions only.
use Rattle.std.specs.Prelude.{List, ℕ, ◌*◌, ◌≤◌, length}
use Rattle.definition.specs.Arith.{Arith}
use Rattle.definition.specs.ChunkedColumnReduce.{Block, sum_up}
use Rattle.definition.specs.MatvecCombine.{Operator, Multipliers, matvec_combine}
use Rattle.definition.specs.Memory.{wholes_of, vector_of, block_of, number_at}
use Rattle.definition.specs.Requirements.{Span, Width, Starts, Columns}

module _ (A : Arith) where
  -- row starts, edge columns and edge weights, and inverse weights
  abbrev pub operator_of : List ℕ → List ℕ → List A.F → List A.F → Operator A
  operator_of starts columns weights inverse = record {
    start = wholes_of starts;
    column = λ i p. wholes_of columns p;
    weight = λ i p. vector_of A.none weights p;
    inverse = vector_of A.none inverse;
  }

  abbrev pub multipliers : A.F → A.F → A.F → Multipliers A
  multipliers mul_mv mul_v mul_prev = record { of_mv = mul_mv; of_v = mul_v; of_prev = mul_prev }

  -- what a pass over the blocks v and prev leaves at a place of the block that it writes
  abbrev pub combined_at : ℕ → ℕ → Operator A → Multipliers A → List A.F → List A.F → ℕ → A.F
  combined_at n k op by v prev = number_at n k (matvec_combine A op by (block_of A.none n k v) (block_of A.none n k prev))

  -- column c of the entries from a up to e, gathered in order from +0
  unfoldable pub gathered : List ℕ → List A.F → Block A → ℕ → ℕ → ℕ → A.F
  gathered columns weights v a e c = sum_up A (λ p. A.mul (vector_of A.none weights p) (v (wholes_of columns p) c)) a e

module _ {E : Type 0} where
  -- what the entries from a up to e ask, to be gathered from a block of n rows
  pub record Entries (n k a e : ℕ) (columns : List ℕ) (weights v : List E) : Type 0 where
    pub narrow : k ≤ 15
    pub ordered : a ≤ e
    pub columns_enough : e ≤ length columns
    pub weights_enough : e ≤ length weights
    pub v_enough : n * k ≤ length v
    pub columns_below : Columns columns a e n

  -- what a pass over the rows from `first` up to `end` asks of what it reads
  pub record Pass (n k first end : ℕ) (starts columns : List ℕ) (weights inverse v prev : List E) : Type 0 where
    pub width : Width k
    pub span : Span first end n
    pub column_starts : Starts starts first end (length columns)
    pub weight_starts : Starts starts first end (length weights)
    pub columns_below : Columns columns (wholes_of starts first) (wholes_of starts end) n
    pub inverse_enough : n ≤ length inverse
    pub v_enough : n * k ≤ length v
    pub prev_enough : n * k ≤ length prev
