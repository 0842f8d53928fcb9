-- The invariant: the name stands where what is left of it does.
use mathlib.Core.Path.{◌≡◌}
use Prim.Native.Nat.{◌+◌, ◌≤◌}
use lib.ListN.{length, drop}
use Rattle.reading.specs.ReadLine.{stands_at}
use Rattle.reading.proofs.stands_at.Given as goal

abbrev pub invariant-loop-i : goal.invariant-loop-i
invariant-loop-i l = (l.i ≤ length l.name) × (stands_at l.name l.bytes l.at ≡ stands_at (drop l.i l.name) l.bytes (l.at + l.i))
