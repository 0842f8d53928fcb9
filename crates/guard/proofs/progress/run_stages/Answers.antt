use mathlib.Core.Path.{◌∙◌}
use native.Mathlib.Omega.{arith}
use Rattle.guard.proofs.Owed.{run-rounds}
use Rattle.guard.proofs.progress.run_stages.Goals as goal

pub after_rounds-requires : goal.after_rounds-requires
after_rounds-requires c = record { asked = c.args.a.ready; rounds-few = omega arith; refreshed-few = c.requires; more-few = omega arith }

pub returns : goal.returns
returns c = record { value = c.after_rounds.ensures.value ∙ run-rounds _ _; upper_bound = c.after_rounds.ensures.upper_bound }
