use native.Mathlib.Omega.{arith}
use Rattle.machine.specs.State.{wide, chunk_count}
use Rattle.state.specs.Said.{asked_in, progress_in, lent_in}
use Rattle.blocks.proofs.Chosen.{chosen-enough}
use Rattle.definition.proofs.Places.{square-least}
use Rattle.blocks.proofs.Own.{asked-width, partial_end, span_of}
use Rattle.blocks.proofs.Reductions.{dots-lent}
use Rattle.blocks.proofs.partials.dots_stage.Goals as goal

pub dots_partial-requires : goal.dots_partial-requires
dots_partial-requires c =
    let b = c.args.blocks in
    let h = b.chunk in
    let a = asked_in h.asked in
    rw (c.rows.ensures.n, c.rows.ensures.width, c.partial.ensures)
    (record {
      span = span_of _ _ c.rows.ensures.first c.rows.ensures.end;
      width = asked-width h.asked_ready;
      c_lt_k = (
        h.progress_ready.column,
        c.requires.rows_in_bounds,
        chosen-enough _ b.ready c.pick.ensures,
        omega (arith, h.progress_ready.column, square-least (wide a) (omega arith), partial_end h.number (wide a) (chunk_count a) h.one_of c.requires.partials_enough),
      );
    })

pub returns : goal.returns
returns c =
    let b = c.args.blocks in
    λ inverse columns weights output.
    dots-lent (asked_in b.chunk.asked) b.chunk.number
    (lent_in inverse c.args.v0.now columns weights b.block0.now b.block1.now b.block2.now c.args.partials.now output)
    c.rows.ensures.first c.rows.ensures.end (progress_in b.chunk.progress) c.pick.ensures (rw (c.rows.ensures.n, c.rows.ensures.width, c.partial.ensures) at c.dots_partial.ensures)
