-- The invariant: the floats up to i are copied.
use mathlib.Core.Path.{◌≡◌}
use Prim.Native.Nat.{◌≤◌}
use lib.ListN.{length, take}
use Rattle.reading.specs.ReadRun.{floats_of}
use Rattle.reading.proofs.values_of.Given as goal

abbrev pub invariant-loop-i : goal.invariant-loop-i
invariant-loop-i l = (l.i ≤ 1024) × (length l.values ≡ 1024) × (take l.i l.values ≡ floats_of (take l.i l.bits))
