use mathlib.Core.Path.{◌∙◌, ap}
use Rattle.machine.specs.State.{wide, chunk_count}
use Rattle.state.specs.Said.{asked_in, progress_in, lent_in}
use Rattle.blocks.specs.Chosen.{chosen}
use Rattle.blocks.proofs.Chosen.{chosen-enough}
use Rattle.blocks.proofs.Own.{asked-width, partial_end, span_of}
use Rattle.blocks.proofs.Reductions.{products-lent}
use Rattle.blocks.proofs.partials.products_stage.Goals as goal

pub products_partial-requires : goal.products_partial-requires
products_partial-requires c =
    let b = c.args.blocks in
    let h = b.chunk in
    let a = asked_in h.asked in
    rw (c.rows.ensures.n, c.rows.ensures.width, c.partial.ensures)
    (record {
      span = span_of _ _ c.rows.ensures.first c.rows.ensures.end;
      width = asked-width h.asked_ready;
      k_in_bounds = (
        chosen-enough _ b.ready c.pick-v.ensures,
        chosen-enough _ b.ready c.pick-w.ensures,
        partial_end h.number (wide a) (chunk_count a) h.one_of c.requires,
      );
    })

pub returns : goal.returns
returns c =
    let b = c.args.blocks in
    λ inverse v0 columns weights output.
    products-lent (asked_in b.chunk.asked) b.chunk.number
    (lent_in inverse v0 columns weights b.block0.now b.block1.now b.block2.now c.args.partials.now output)
    c.rows.ensures.first c.rows.ensures.end (progress_in b.chunk.progress) c.pick-v.ensures
    (c.pick-w.ensures ∙ ap (λ j. chosen j b.block0.now b.block1.now b.block2.now) c.free_block.ensures) (rw (c.rows.ensures.n, c.rows.ensures.width, c.partial.ensures) at c.products_partial.ensures)
