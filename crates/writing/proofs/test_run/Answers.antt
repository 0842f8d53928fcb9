use Rattle.files.specs.RunText.{test_run}
use Rattle.input.proofs.Verdicts.{stops, goes_past}
use Rattle.writing.proofs.test_run.Goals as goal

pub returns-in_err-test_sizes : goal.returns-in_err-test_sizes
unfolding test_run
returns-in_err-test_sizes c = stops _ _ c.from_residual.ensures.1 _ c.in_err-test_sizes.ensures

pub returns : goal.returns
unfolding test_run
returns c = goes_past c.in_ok-test_sizes.ensures c.test_file.ensures
