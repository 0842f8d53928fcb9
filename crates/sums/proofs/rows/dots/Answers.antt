use native.Mathlib.Omega.{arith}
use Rattle.definition.specs.Arith.{ieee64}
use Rattle.definition.specs.Memory.{block_of, place}
use Rattle.sums.proofs.Partials.{summed-none, summed-more, summed_to}
use Rattle.sums.proofs.rows.dots.Goals as goal
use Rattle.sums.proofs.rows.dots.Goals.{In-loop-i}

pub loop-i-init : goal.loop-i-init
loop-i-init c = (omega arith, omega arith, summed-none ieee64 _ _ _)

pub loop-i-preserved : goal.loop-i-preserved
unfolding block_of place
loop-i-preserved c = (omega arith, omega arith, summed-more ieee64 _ _ _ _ (omega arith) c.loop-i.invariant.2 c.add_dots.ensures)

pub returns : goal.returns
returns c = summed_to ieee64 _ _ _ c.loop-i.invariant.2 (omega arith)
