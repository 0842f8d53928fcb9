-- The sums, copied.
use native.Mathlib.Omega.{arith}
use Rattle.definition.specs.Arith.{ieee64}
use Rattle.sums.proofs.Partials.{summed-put}
use Rattle.sums.proofs.dots_partial.Goals as goal

pub returns : goal.returns
returns c = summed-put ieee64 _ _ _ _ _ _ (omega arith) c.dots-sums.ensures c.put_partial.ensures
