-- The invariant: the digits still to come follow on `value`.
use Rattle.lines.proofs.Numbers.{NumberScan}
use Rattle.lines.proofs.read_number.Given as goal

abbrev pub invariant-loop-i : goal.invariant-loop-i
invariant-loop-i l = NumberScan l.words l.value l.i
