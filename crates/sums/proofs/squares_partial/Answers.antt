-- The sums, copied.
use Rattle.std.proofs.Common.{rules}
use native.Mathlib.Omega.{arith}
use Rattle.definition.specs.Arith.{ieee64}
use Rattle.definition.specs.Memory.{block_of, place}
use Rattle.definition.specs.ChunkedColumnReduce.{square}
use Rattle.sums.proofs.Partials.{summed-put}
use Rattle.sums.proofs.squares_partial.Goals as goal

pub returns : goal.returns
unfolding block_of place
returns c = summed-put ieee64 _ _ _ _ _ _ (omega arith) (c.terms.ensures (square ieee64) (λ x y e. search rules)) c.put_partial.ensures
