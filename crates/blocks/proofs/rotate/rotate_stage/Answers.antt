use native.Mathlib.Omega.{arith}
use Rattle.state.specs.Said.{asked_in, progress_in, lent_in}
use Rattle.blocks.proofs.Chosen.{chosen-enough}
use Rattle.blocks.proofs.Own.{asked-width, span_of}
use Rattle.blocks.proofs.Writes.{rotate_lent}
use Rattle.blocks.proofs.rotate.rotate_stage.Goals as goal

pub rotate_chunk-requires : goal.rotate_chunk-requires
rotate_chunk-requires c =
    let b = c.args.blocks in
    let r = b.chunk.asked_ready in
    rw (c.rows.ensures.n, c.width.ensures)
    (record {
      output = record {
        span = span_of _ _ c.rows.ensures.first c.rows.ensures.end;
        some = r.dims-least;
        few = r.dims-most;
        enough = c.requires.rows_in_bounds.1;
      };
      turned = record {
        most = (asked-width r).most;
        narrow = omega arith;
        basis = chosen-enough _ b.ready c.pick-v.ensures;
        weights = c.requires.rows_in_bounds.0;
        columns = record { below = λ j p q. c.requires.by_index j (omega (arith, q, r.dims-most)) };
      };
    })

pub returns : goal.returns
returns c =
    let b = c.args.blocks in
    λ v0 columns weights partials.
    rotate_lent (asked_in b.chunk.asked) (progress_in b.chunk.progress) b.chunk.number
    (lent_in c.args.inverse.now v0 columns weights b.block0.now b.block1.now b.block2.now partials c.args.output.now)
    c.args.vectors.now c.args.order.now c.rows.ensures.first c.rows.ensures.end b.chunk.asked_ready.dims-least c.pick-v.ensures (rw (c.rows.ensures.n, c.width.ensures) at c.rotate_chunk.ensures)
