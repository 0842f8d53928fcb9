use mathlib.Core.Path.{ap, ◌∙◌}
use native.Mathlib.Omega.{arith}
use mathlib.Core.List.{List}
use lib.ListN.{get_or}
use lib.Ieee.{Float, nan}
use Rattle.definition.specs.Arith.{ieee64}
use Rattle.definition.specs.SpectralEmbedding.{centred}
use Rattle.definition.proofs.Fill.{fill_in}
use Rattle.columns.proofs.Lent.{each_back}
use Rattle.columns.proofs.output.centre_chunk.Goals as goal

pub returns : goal.returns
unfolding centred
returns c =
    each_back _ _ _ _ c.requires.output.span _ nan ieee64.sub _ _ c.requires.output.some c.requires.output.enough
    (λ j h. ap (λ (l : List Float). get_or l j nan) c.column_means-means.ensures ∙ fill_in 0 _ _ _ j nan (omega arith) h (omega arith))
    c.centre_rows.ensures
