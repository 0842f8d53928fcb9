use Rattle.files.specs.RunText.{test_file}
use Rattle.input.proofs.Verdicts.{stops, goes_past}
use Rattle.writing.proofs.test_file.Goals as goal

pub returns-in_err-test_dims : goal.returns-in_err-test_dims
unfolding test_file
returns-in_err-test_dims c = stops _ _ c.from_residual.ensures.1 _ c.in_err-test_dims.ensures

pub returns-in_err-test_graph : goal.returns-in_err-test_graph
unfolding test_file
returns-in_err-test_graph c = goes_past c.in_ok-test_dims.ensures (stops _ _ c.from_residual-in_err-test_graph.ensures.1 _ c.in_err-test_graph.ensures)

pub returns : goal.returns
unfolding test_file
returns c = goes_past c.in_ok-test_dims.ensures (goes_past c.in_ok-test_graph.ensures c.test_params.ensures)
