-- For an even exponent and for an odd one.
use Rattle.numbers.proofs.Values.{radicand_even, radicand_odd}
use Rattle.numbers.proofs.pattern.radicand.Goals as goal

pub returns-then-exp-eq0 : goal.returns-then-exp-eq0
returns-then-exp-eq0 c = radicand_even c.args.sig c.args.exp c.requires c.if-exp-eq0.true

pub returns-else-exp-eq0 : goal.returns-else-exp-eq0
returns-else-exp-eq0 c = radicand_odd c.args.sig c.args.exp c.requires c.if-exp-eq0.false
