-- The invariant: the digits counted and those of `rest` make up the decimal.
use mathlib.Core.Path.{◌≡◌}
use Prim.Native.Nat.{◌+◌, ◌≤◌}
use lib.ListN.{length}
use Rattle.digits.specs.Digits.{decimal}
use Rattle.digits.proofs.decimal_length.Given as goal

abbrev pub invariant-loop-rest : goal.invariant-loop-rest
invariant-loop-rest l = (l.rest ≤ l.x) × (1 ≤ l.count) × (l.count + length (decimal l.rest) ≡ length (decimal l.x) + 1)

abbrev pub decreases-loop-rest : goal.decreases-loop-rest
decreases-loop-rest l = l.rest
