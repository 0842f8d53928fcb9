use Rattle.std.proofs.Common.{rules}
use Rattle.definition.specs.Arith.{ieee64}
use Rattle.columns.proofs.output.centre_rows.Goals as goal

pub returns : goal.returns
returns c = c.change_rows.ensures ieee64.sub (λ x y z e. search rules)
