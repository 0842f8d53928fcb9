use Rattle.definition.specs.Refusals.{test_rows}
use Rattle.input.proofs.request.test_rows.Goals as goal

pub returns : goal.returns
unfolding test_rows
returns c = c.refuse_if.ensures
