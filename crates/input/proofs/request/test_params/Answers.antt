-- Each test passes until one refuses.
use Rattle.definition.specs.Refusals.{test_params}
use Rattle.input.proofs.Verdicts.{stops, goes_past}
use Rattle.input.proofs.request.test_params.Goals as goal

pub returns-in_err-test_rounds : goal.returns-in_err-test_rounds
unfolding test_params
returns-in_err-test_rounds c = stops _ _ c.from_residual.ensures.1 _ c.in_err-test_rounds.ensures

pub returns-in_err-test_degree : goal.returns-in_err-test_degree
unfolding test_params
returns-in_err-test_degree c = goes_past c.in_ok-test_rounds.ensures (stops _ _ c.from_residual-in_err-test_degree.ensures.1 _ c.in_err-test_degree.ensures)

pub returns : goal.returns
unfolding test_params
returns c = goes_past c.in_ok-test_rounds.ensures (goes_past c.in_ok-test_degree.ensures c.test_seed_std.ensures)
