-- The invariant: the bytes passed and those still to come end at one place.
use mathlib.Core.Path.{◌≡◌}
use Prim.Native.Nat.{◌+◌}
use lib.ListN.{length}
use Rattle.lines.specs.Parts.{line_at}
use Rattle.lines.proofs.line_end.Given as goal

abbrev pub invariant-loop-i : goal.invariant-loop-i
invariant-loop-i l = l.at + length (line_at l.text l.at) ≡ l.i + length (line_at l.text l.i)
