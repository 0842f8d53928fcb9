use mathlib.Core.Path.{ap, ◌∙◌}
use mathlib.Core.Bool.{Bool, not}
use Rattle.definition.specs.Refusals.{given, test_rounds}
use Rattle.input.proofs.request.test_rounds.Goals as goal

pub returns : goal.returns
unfolding test_rounds
returns c = c.refuse_if.ensures ∙ ap (λ (b : Bool). given (not b) 8 0) c.within.ensures
