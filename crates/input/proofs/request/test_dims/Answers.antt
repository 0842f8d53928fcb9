use mathlib.Core.Path.{ap, ◌∙◌}
use mathlib.Core.Bool.{Bool, not}
use Rattle.definition.specs.Refusals.{given, test_dims}
use Rattle.input.proofs.request.test_dims.Goals as goal

pub returns : goal.returns
unfolding test_dims
returns c = c.refuse_if.ensures ∙ ap (λ (b : Bool). given (not b) 1 0) c.within.ensures
