-- What the row functions and the chunk functions ask of a block or a part of it. Definitions only.
use Rattle.std.specs.Prelude.{List, ℕ, ◌+◌, ◌*◌, ◌≤◌, ◌<◌, length, Float}
use Rattle.definition.specs.Numbers.{dims_most, rows_most, rounds_most}
use Rattle.definition.specs.Requirements.{Span, Width, Columns}

-- a part that keeps `rows` rows of k numbers, with a column c
pub record Part (k c rows : ℕ) (part : List Float) : Type 0 where
  pub column : c < k
  pub width : Width k
  pub enough : rows * k ≤ length part

-- a block that keeps n rows of k numbers, with a column c, and the rows from `first` up to `end` of it
pub record Within (n k c first end : ℕ) (block : List Float) : Type 0 where
  pub span : Span first end n
  pub column : c < k
  pub width : Width k
  pub enough : n * k ≤ length block

-- the sizes at which the index of a fresh number is far below 2^64
pub record Fresh (n k round : ℕ) : Type 0 where
  pub rows : n ≤ rows_most
  pub width : Width k
  pub early : round < rounds_most

-- output that keeps n rows of d numbers, and the rows from `first` up to `end` of it
pub record Output (n d first end : ℕ) (output : List Float) : Type 0 where
  pub span : Span first end n
  pub some : 1 ≤ d
  pub few : d ≤ dims_most
  pub enough : n * d ≤ length output

-- what is rotated: a basis of n rows of k numbers, the inverse weights, and an order whose first d places name columns
pub record Turned (n k d : ℕ) (v inverse : List Float) (order : List ℕ) : Type 0 where
  pub most : k ≤ 15
  pub narrow : d ≤ k
  pub basis : n * k ≤ length v
  pub weights : n ≤ length inverse
  pub columns : Columns order 0 d k

-- f from place `first` on
abbrev pub shifted : {E : Type 0} → ℕ → (ℕ → E) → ℕ → E
shifted first f r = f (first + r)
