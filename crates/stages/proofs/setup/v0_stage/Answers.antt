use mathlib.Core.Path.{ap, ◌∙◌}
use mathlib.Core.List.{List}
use lib.Ieee.{Float}
use Rattle.state.specs.Said.{lent_in}
use Rattle.stages.proofs.Written.{span, rows_written}
use Rattle.stages.proofs.setup.v0_stage.Goals as goal

pub v0_chunk-requires : goal.v0_chunk-requires
v0_chunk-requires c = span c.args.asked.rows c.args.h c.first_row.ensures c.end_row.ensures _ c.requires

pub returns : goal.returns
returns c =
    λ inverse edge_columns edge_weights block0 block1 block2 partials output.
    ap (λ (l : List Float). lent_in inverse l edge_columns edge_weights block0 block1 block2 partials output)
    (c.v0_chunk.ensures ∙ rows_written c.args.asked.rows c.args.h c.first_row.ensures c.end_row.ensures _ _)
