-- The part that was lent is put back.
use mathlib.Core.Path.{ap}
use Rattle.definition.specs.Arith.{ieee64}
use Rattle.definition.specs.SpectralEmbedding.{v0_of}
use Rattle.definition.proofs.Fill.{fill_part}
use Rattle.definition.proofs.Parts.{part_at}
use Rattle.rows.proofs.degrees.v0_chunk.Goals as goal

pub returns : goal.returns
returns c =
    fill_part c.args.first c.args.end _ _ _ c.requires.ordered c.requires.within
    (λ i h. ap (v0_of ieee64 _) (part_at _ _ _ i ieee64.none h)) c.v0_rows.ensures
