-- What is shown of every accepted file: the graph that the call leaves in front of the lent lists. Definitions only.
use Rattle.std.specs.Prelude.{take, ◌+◌}
use Rattle.mirrored.specs.Graph.{Symmetric}
use Rattle.matrix_market.specs.Outcome.{Outcome}

-- "an accepted file's graph passes 2 to 7, has no column twice in a row, and is symmetric bit for bit"
abbrev pub LeavesSymmetric : Outcome → Type 0
LeavesSymmetric o = Symmetric o.rows (take (o.rows + 1) o.starts) (take o.entries o.columns) (take o.entries o.values)
