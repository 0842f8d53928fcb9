-- The invariant is `Turn`: q and r are the root and the remainder of the radicand's bits brought down so far.
use Rattle.std.proofs.Common.{◌-◌}
use Rattle.numbers.proofs.Digits.{Turn}
use Rattle.numbers.proofs.whole.first_digits.Given as goal

abbrev pub invariant-loop-i : goal.invariant-loop-i
invariant-loop-i l = Turn l.a l.bits l.q l.r l.i
