use Rattle.definition.specs.Refusals.{set_seed_std}
use Rattle.input.proofs.Verdicts.{refused_set, passed_set}
use Rattle.input.proofs.SpectralParams.seed_std.Goals as goal

pub returns-in_err-test_seed_std : goal.returns-in_err-test_seed_std
unfolding set_seed_std
returns-in_err-test_seed_std c = refused_set _ _ _ c.from_residual.ensures.1 _ c.in_err-test_seed_std.ensures

pub returns : goal.returns
unfolding set_seed_std
returns c = passed_set _ _ c.in_ok-test_seed_std.ensures
