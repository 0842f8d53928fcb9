-- For a subnormal and for a normal value.
use Rattle.numbers.proofs.Values.{normal-split, small-split}
use Rattle.numbers.proofs.pattern.parts.Goals as goal

pub returns-then-field-eq0 : goal.returns-then-field-eq0
returns-then-field-eq0 c = small-split c.args.bits c.shifted_up.result.sig c.shifted_up.result.exp c.if-field-eq0.true c.shifted_up.ensures.normal c.shifted_up.ensures.exp_value

pub returns-else-field-eq0 : goal.returns-else-field-eq0
returns-else-field-eq0 c = normal-split c.args.bits c.requires.1 c.if-field-eq0.false
