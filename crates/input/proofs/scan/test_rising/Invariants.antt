-- The invariant: no start before i falls.
use mathlib.Core.Path.{◌≡◌}
use Prim.Native.Nat.{◌-◌}
use lib.ListN.{length}
use Rattle.definition.specs.Refusals.{first_from, falls}
use Rattle.input.proofs.scan.test_rising.Given as goal

abbrev pub invariant-loop-i : goal.invariant-loop-i
invariant-loop-i l = first_from (falls l.starts) 1 (length l.starts - 1) ≡ first_from (falls l.starts) l.i (length l.starts - l.i)
