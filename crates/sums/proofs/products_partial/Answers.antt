-- The sums, copied.
use native.Mathlib.Omega.{arith}
use Rattle.definition.specs.Arith.{ieee64}
use Rattle.definition.proofs.Places.{square-most}
use Rattle.sums.proofs.Partials.{summed-put}
use Rattle.sums.proofs.products_partial.Goals as goal

pub returns : goal.returns
returns c =
    summed-put ieee64 _ _ _ _ _ _ (square-most c.args.own.width (omega arith)) c.products-sums.ensures
    c.put_partial.ensures
