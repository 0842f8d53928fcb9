use native.Mathlib.Omega.{arith}
use Rattle.blocks.proofs.Own.{partial_most}
use Rattle.stages.proofs.output.own_partial.Goals as goal

pub overflow_mul-result-2 : goal.overflow_mul-result-2
overflow_mul-result-2 c = rw c.width-k.ensures (omega (arith, partial_most c.args.h c.requires.asked_ready c.requires.one_of))
