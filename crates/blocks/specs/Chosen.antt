-- The three blocks: which of them a number names, and what the stages ask of them and of the lists that a pass reads. Definitions only.
use Rattle.std.specs.Prelude.{List, ℕ, zero, suc, ◌+◌, ◌*◌, ◌≤◌, Float, length, get_or}
use Rattle.definition.specs.Numbers.{first_row}
use Rattle.definition.specs.Requirements.{Starts, Columns}
use Rattle.machine.specs.State.{Asked, wide}

-- the first, the second or, for any other number, the third
unfoldable pub chosen : ℕ → List Float → List Float → List Float → List Float
chosen zero block0 block1 block2 = block0
chosen (suc zero) block0 block1 block2 = block1
chosen (suc (suc b)) block0 block1 block2 = block2

-- each keeps n rows of k numbers
pub record BlocksReady (a : Asked) (block0 block1 block2 : List Float) : Type 0 where
  pub first : a.rows * wide a ≤ length block0
  pub second : a.rows * wide a ≤ length block1
  pub third : a.rows * wide a ≤ length block2

-- what a pass over chunk h's rows reads beside the blocks: their starts, their entries, and the inverse weights
pub record EdgesReady (a : Asked) (h : ℕ) (starts edge_columns : List ℕ) (edge_weights inverse : List Float) : Type 0 where
  pub rising : Starts starts (first_row a.rows h) (first_row a.rows (h + 1)) a.entries
  pub below : Columns edge_columns (get_or starts (first_row a.rows h) 0) (get_or starts (first_row a.rows (h + 1)) 0) a.rows
  pub columns_enough : a.entries ≤ length edge_columns
  pub weights_enough : a.entries ≤ length edge_weights
  pub inverse_enough : a.rows ≤ length inverse
