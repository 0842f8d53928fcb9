-- The invariant: the digits still to come follow on `value`.
use mathlib.Core.Path.{◌≡◌}
use Prim.Native.Nat.{◌+◌, ◌≤◌}
use lib.ListN.{length}
use Rattle.digits.specs.Digits.{value_from}
use Rattle.digits.specs.ReadDecimal.{digits_at}
use Rattle.digits.proofs.number_up_to.Given as goal

abbrev pub invariant-loop-i : goal.invariant-loop-i
invariant-loop-i l = (l.i + length (digits_at l.bytes l.i) ≡ l.end) × (l.value ≤ l.most) × (value_from l.value (digits_at l.bytes l.i) ≡ value_from 0 (digits_at l.bytes l.from))
