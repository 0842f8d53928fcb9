use Rattle.std.proofs.Common.{rules}
use Rattle.definition.specs.Arith.{ieee64}
use Rattle.definition.specs.SpectralEmbedding.{scaled}
use Rattle.columns.proofs.output.scale_rows.Goals as goal

pub returns : goal.returns
unfolding scaled
returns c = c.change_rows.ensures ieee64.mul (λ x y z e. search rules)
