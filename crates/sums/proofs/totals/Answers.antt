-- The partials are rows of k * k numbers.
use Rattle.std.proofs.Common.{rules}
use Rattle.sums.specs.Accumulators.{summed}
use Rattle.sums.proofs.totals.Goals as goal

pub returns : goal.returns
unfolding summed
returns c = c.terms.ensures (λ x. x) (λ x y e. search rules)
