-- The invariant: no value before e is NaN or infinite.
use mathlib.Core.Path.{◌≡◌}
use Prim.Native.Nat.{◌-◌}
use lib.ListN.{length}
use Rattle.definition.specs.Refusals.{first_from}
use Rattle.input.specs.Said.{unfinite}
use Rattle.input.proofs.scan.test_values.Given as goal

abbrev pub invariant-loop-e : goal.invariant-loop-e
invariant-loop-e l = first_from (unfinite l.values) 0 (length l.values) ≡ first_from (unfinite l.values) l.e (length l.values - l.e)
