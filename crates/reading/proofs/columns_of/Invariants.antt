-- The invariant: the columns up to i are copied.
use mathlib.Core.Path.{◌≡◌}
use Prim.Native.Nat.{◌≤◌}
use lib.ListN.{length, take}
use Rattle.reading.proofs.columns_of.Given as goal

abbrev pub invariant-loop-i : goal.invariant-loop-i
invariant-loop-i l = (l.i ≤ 1024) × (length l.columns ≡ 1024) × (take l.i l.columns ≡ take l.i l.numbers)
