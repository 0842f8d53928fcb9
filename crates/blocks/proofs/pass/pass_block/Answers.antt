use native.Mathlib.Omega.{arith}
use Rattle.state.specs.Said.{asked_in}
use Rattle.blocks.proofs.Chosen.{chosen-enough}
use Rattle.blocks.proofs.Own.{rows_of}
use Rattle.blocks.proofs.Passes.{pass_ready}
use Rattle.blocks.proofs.pass.pass_block.Goals as goal

pub matvec_combine-requires : goal.matvec_combine-requires
matvec_combine-requires c =
    let h = c.args.edges.chunk in
    let b = rw c.requires.chunk_same at c.args.blocks.ready in
    rw (c.rows.ensures.n, c.rows.ensures.width)
    (record {
      pass = pass_ready (asked_in h.asked) h.number h.asked_ready c.args.edges.ready c.rows.ensures.first c.rows.ensures.end
          (chosen-enough _ b c.pick.ensures) (chosen-enough _ b c.pick-2.ensures);
      k_in_bounds = c.requires.asked_in_bounds;
    })

pub returns : goal.returns
returns c =
    rw (← c.pick.ensures, ← c.pick-2.ensures)
    (rows_of _ _ c.rows.ensures.first c.rows.ensures.end _ _ _ (omega arith) (rw (c.rows.ensures.n, c.rows.ensures.width) at c.matvec_combine.ensures))
