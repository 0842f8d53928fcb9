-- The invariant: no column before e is high.
use mathlib.Core.Path.{◌≡◌}
use Prim.Native.Nat.{◌-◌}
use lib.ListN.{length}
use Rattle.definition.specs.Refusals.{first_from}
use Rattle.input.specs.Said.{high}
use Rattle.input.proofs.scan.test_columns.Given as goal

abbrev pub invariant-loop-e : goal.invariant-loop-e
invariant-loop-e l = first_from (high l.n l.columns) 0 (length l.columns) ≡ first_from (high l.n l.columns) l.e (length l.columns - l.e)
