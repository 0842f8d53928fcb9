use mathlib.Core.Path.{refl}
use lib.Ieee.{nan}
use Rattle.definition.specs.Arith.{ieee64}
use Rattle.definition.specs.SpectralEmbedding.{scaled}
use Rattle.columns.proofs.Lent.{each_back}
use Rattle.columns.proofs.output.scale_chunk.Goals as goal

pub returns : goal.returns
unfolding scaled
returns c = each_back _ _ _ _ c.requires.span _ nan ieee64.mul _ _ c.requires.some c.requires.enough (λ j h. refl) c.scale_rows.ensures
