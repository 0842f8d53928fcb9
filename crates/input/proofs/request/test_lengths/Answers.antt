use Rattle.definition.specs.Refusals.{test_lengths}
use Rattle.input.proofs.request.test_lengths.Goals as goal

pub returns : goal.returns
unfolding test_lengths
returns c = c.refuse_if.ensures
