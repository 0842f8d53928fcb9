use native.Mathlib.Omega.{arith}
use Rattle.state.specs.Said.{asked_in, progress_in, lent_in}
use Rattle.blocks.proofs.Writes.{subtract_lent}
use Rattle.blocks.proofs.column.subtract_stage.Goals as goal

pub returns-in-0 : goal.returns-in-0
returns-in-0 c =
    λ inverse columns weights partials output.
    subtract_lent (asked_in c.args.chunk.asked) (progress_in c.args.chunk.progress) c.args.chunk.number
    (lent_in inverse c.args.v0.now columns weights c.args.block0.now c.args.block1.now c.args.block2.now partials output)
    0 c.args.totals.now c.in-0.is c.subtract_block.ensures

pub returns-in-1 : goal.returns-in-1
returns-in-1 c =
    λ inverse columns weights partials output.
    subtract_lent (asked_in c.args.chunk.asked) (progress_in c.args.chunk.progress) c.args.chunk.number
    (lent_in inverse c.args.v0.now columns weights c.args.block0.now c.args.block1.now c.args.block2.now partials output)
    1 c.args.totals.now c.in-1.is c.subtract_block-in-1.ensures

pub returns-in_default : goal.returns-in_default
returns-in_default c =
    λ inverse columns weights partials output.
    subtract_lent (asked_in c.args.chunk.asked) (progress_in c.args.chunk.progress) c.args.chunk.number
    (lent_in inverse c.args.v0.now columns weights c.args.block0.now c.args.block1.now c.args.block2.now partials output)
    2 c.args.totals.now (omega (arith, c.args.chunk.progress_ready.current)) c.subtract_block-in_default.ensures
