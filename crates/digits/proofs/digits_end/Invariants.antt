-- The invariant: the digits passed and those still to come end at one place.
use mathlib.Core.Path.{◌≡◌}
use Prim.Native.Nat.{◌+◌}
use lib.ListN.{length}
use Rattle.digits.specs.ReadDecimal.{digits_at}
use Rattle.digits.proofs.digits_end.Given as goal

abbrev pub invariant-loop-i : goal.invariant-loop-i
invariant-loop-i l = l.from + length (digits_at l.bytes l.from) ≡ l.i + length (digits_at l.bytes l.i)
