use mathlib.Core.Path.{ap, ◌∙◌}
use Rattle.definition.specs.Arith.{ieee64}
use Rattle.definition.specs.SpectralEmbedding.{scale_of, spread}
use Rattle.columns.proofs.output.column_scale.Goals as goal

pub returns : goal.returns
unfolding spread
returns c = c.scale_of.ensures ∙ ap (scale_of ieee64 c.args.target) c.root.ensures
