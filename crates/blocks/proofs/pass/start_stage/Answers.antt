use mathlib.Core.Path.{ap}
use native.Mathlib.Omega.{arith}
use Rattle.state.specs.Said.{lent_in}
use Rattle.blocks.proofs.Own.{span_of, rows_of}
use Rattle.blocks.proofs.pass.start_stage.Goals as goal

pub start_block_chunk-requires : goal.start_block_chunk-requires
start_block_chunk-requires c = rw (c.rows.ensures.n, c.rows.ensures.width) (record { span = span_of _ _ c.rows.ensures.first c.rows.ensures.end; k_in_bounds = c.requires.asked_in_bounds })

pub returns : goal.returns
returns c =
    λ inverse v0 columns weights block1 block2 partials output.
    ap (λ l. lent_in inverse v0 columns weights l block1 block2 partials output)
    (rows_of _ _ c.rows.ensures.first c.rows.ensures.end _ _ _ (omega arith) (rw (c.rows.ensures.n, c.rows.ensures.width) at c.start_block_chunk.ensures))
