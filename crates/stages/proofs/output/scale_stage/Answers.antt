use Rattle.state.specs.Said.{asked_in, lent_in}
use Rattle.blocks.proofs.Own.{span_of}
use Rattle.stages.proofs.Written.{output-written}
use Rattle.stages.proofs.output.scale_stage.Goals as goal

pub scale_chunk-requires : goal.scale_chunk-requires
scale_chunk-requires c =
    let r = c.requires.asked_ready in
    rw (c.own_rows.ensures.n, c.own_rows.ensures.width)
    (record {
      span = span_of c.args.asked.rows c.args.h c.own_rows.ensures.first c.own_rows.ensures.end;
      some = r.dims-least;
      few = r.dims-most;
      enough = c.requires.dims_in_bounds;
    })

pub returns : goal.returns
returns c =
    let a = asked_in c.args.asked in
    λ inverse v0 edge_columns edge_weights block0 block1 block2 partials.
    output-written a c.args.h (lent_in inverse v0 edge_columns edge_weights block0 block1 block2 partials c.args.output.now)
    c.own_rows.ensures.first c.own_rows.ensures.end _ c.requires.asked_ready.dims-least (rw (c.own_rows.ensures.n, c.own_rows.ensures.width) at c.scale_chunk.ensures)
