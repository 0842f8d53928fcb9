-- The invariant: the bytes passed are digits, and `value` is their number.
use Rattle.lines.specs.Parts.{ReadsDigits}
use Rattle.lines.proofs.read_digits.Given as goal

abbrev pub invariant-loop-i : goal.invariant-loop-i
invariant-loop-i l = ReadsDigits l.text l.from l.value l.i
