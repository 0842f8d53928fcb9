-- The parts that were lent are put back.
use mathlib.Core.Path.{refl}
use Rattle.definition.proofs.Fill.{fill_part}
use Rattle.rows.proofs.degrees.degrees_chunk.Goals as goal

pub returns : goal.returns
returns c =
    let rows = c.degrees_rows.ensures in record {
      inverse_after = fill_part c.args.first c.args.end _ _ _ c.requires.span.ordered c.requires.span.within (λ i h. refl) rows.inverse_after;
      v0_after = fill_part c.args.first c.args.end _ _ _ c.requires.span_2.ordered c.requires.span_2.within (λ i h. refl) rows.v0_after;
    }
