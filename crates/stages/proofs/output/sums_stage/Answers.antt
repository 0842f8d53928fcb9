use Rattle.definition.specs.Arith.{ieee64}
use Rattle.definition.specs.Memory.{block_of}
use Rattle.state.specs.Said.{asked_in, lent_in}
use Rattle.blocks.proofs.Own.{span_of}
use Rattle.stages.proofs.Written.{partial_room, partial_written}
use Rattle.stages.proofs.output.sums_stage.Goals as goal

pub sums_partial-requires : goal.sums_partial-requires
sums_partial-requires c =
    let a = asked_in c.args.asked in
    let r = c.requires.asked_ready in
    rw (c.own_rows.ensures.n, c.own_rows.ensures.width, c.own_partial.ensures)
    (record {
      span = span_of a.rows c.args.h c.own_rows.ensures.first c.own_rows.ensures.end;
      le_d = (r.dims-least, r.dims-most, c.requires.h_bound.1, partial_room a c.args.h r c.requires.h_bound.0 c.requires.h_bound.2);
    })

pub returns : goal.returns
returns c =
    let a = asked_in c.args.asked in
    λ inverse v0 edge_columns edge_weights block0 block1 block2.
    partial_written a c.args.h (lent_in inverse v0 edge_columns edge_weights block0 block1 block2 c.args.partials.now c.args.output.now)
    c.own_rows.ensures.first c.own_rows.ensures.end a.dims (λ q i. block_of ieee64.none a.rows a.dims c.args.output.now i q) (rw (c.own_rows.ensures.n, c.own_rows.ensures.width, c.own_partial.ensures) at c.sums_partial.ensures)
