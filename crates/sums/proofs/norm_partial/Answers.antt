-- One sum, stored at the partial's place.
use native.Mathlib.Nat.{le_refl}
use Rattle.definition.specs.Memory.{block_of, place}
use Rattle.definition.proofs.Fill.{fill_start, fill_step}
use Rattle.sums.proofs.norm_partial.Goals as goal

pub returns : goal.returns
unfolding block_of place
returns c = fill_step _ _ _ _ (le_refl _) (fill_start _ _ _) c.square_sum.ensures
