use mathlib.Core.Path.{ap, ◌∙◌}
use mathlib.Core.Bool.{Bool, not}
use Rattle.definition.specs.Refusals.{given, test_degree}
use Rattle.input.proofs.request.test_degree.Goals as goal

pub returns : goal.returns
unfolding test_degree
returns c = c.refuse_if.ensures ∙ ap (λ (b : Bool). given (not b) 9 0) c.within.ensures
