use native.Mathlib.Omega.{arith}
use Rattle.machine.specs.State.{wide, chunk_count}
use Rattle.state.specs.Said.{asked_in, progress_in, lent_in}
use Rattle.blocks.proofs.Chosen.{chosen-enough}
use Rattle.definition.proofs.Places.{square-least}
use Rattle.blocks.proofs.Own.{asked-width, partial_end, span_of}
use Rattle.blocks.proofs.Reductions.{norm-lent}
use Rattle.blocks.proofs.partials.norm_stage.Goals as goal

pub norm_partial-requires : goal.norm_partial-requires
norm_partial-requires c =
    let b = c.args.blocks in
    let h = b.chunk in
    let a = asked_in h.asked in
    rw (c.rows.ensures.n, c.rows.ensures.width, c.partial.ensures)
    (record {
      span = span_of _ _ c.rows.ensures.first c.rows.ensures.end;
      width = asked-width h.asked_ready;
      c_lt_k = (
        h.progress_ready.column,
        chosen-enough _ b.ready c.pick.ensures,
        omega (arith, square-least (wide a) (omega arith), partial_end h.number (wide a) (chunk_count a) h.one_of c.requires),
      );
    })

pub returns : goal.returns
returns c =
    let b = c.args.blocks in
    λ inverse v0 columns weights output.
    norm-lent (asked_in b.chunk.asked) b.chunk.number
    (lent_in inverse v0 columns weights b.block0.now b.block1.now b.block2.now c.args.partials.now output)
    c.rows.ensures.first c.rows.ensures.end (progress_in b.chunk.progress) c.pick.ensures (rw (c.rows.ensures.n, c.rows.ensures.width, c.partial.ensures) at c.norm_partial.ensures)
