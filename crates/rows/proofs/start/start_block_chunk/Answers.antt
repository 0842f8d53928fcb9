-- The part that was lent is put back.
use Rattle.definition.specs.Arith.{ieee64}
use Rattle.definition.proofs.Blocks.{rows_back}
use Rattle.rows.proofs.Starting.{start-at}
use Rattle.rows.proofs.start.start_block_chunk.Goals as goal
use Rattle.rows.proofs.start.start_block_chunk.Goals.{Start}

pub returns : goal.returns
returns c = rows_back _ _ c.args.own.first c.args.own.end _ c.requires.span c.requires.k_in_bounds _ _ (λ p h. start-at ieee64 _ _ _ p) c.start_block_rows.ensures
