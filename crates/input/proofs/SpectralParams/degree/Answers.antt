use Rattle.definition.specs.Refusals.{set_degree}
use Rattle.input.proofs.Verdicts.{refused_set, passed_set}
use Rattle.input.proofs.SpectralParams.degree.Goals as goal

pub returns-in_err-test_degree : goal.returns-in_err-test_degree
unfolding set_degree
returns-in_err-test_degree c = refused_set _ _ _ c.from_residual.ensures.1 _ c.in_err-test_degree.ensures

pub returns : goal.returns
unfolding set_degree
returns c = passed_set _ _ c.in_ok-test_degree.ensures
