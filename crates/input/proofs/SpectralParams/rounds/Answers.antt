use Rattle.definition.specs.Refusals.{set_rounds}
use Rattle.input.proofs.Verdicts.{refused_set, passed_set}
use Rattle.input.proofs.SpectralParams.rounds.Goals as goal

pub returns-in_err-test_rounds : goal.returns-in_err-test_rounds
unfolding set_rounds
returns-in_err-test_rounds c = refused_set _ _ _ c.from_residual.ensures.1 _ c.in_err-test_rounds.ensures

pub returns : goal.returns
unfolding set_rounds
returns c = passed_set _ _ c.in_ok-test_rounds.ensures
