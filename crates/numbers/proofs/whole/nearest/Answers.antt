-- The remainder says on which side of the half-way point the root lies.
use Rattle.numbers.proofs.Digits.{rounded_down, rounded_up}
use Rattle.numbers.proofs.whole.nearest.Goals as goal

pub returns-then-r-q : goal.returns-then-r-q
returns-then-r-q c = rounded_up c.args.q c.args.r c.if-r-q.true c.requires.2

pub returns-else-r-q : goal.returns-else-r-q
returns-else-r-q c = rounded_down c.args.q c.args.r c.requires.0 c.if-r-q.false
