use mathlib.Core.Path.{refl}
use Rattle.machine.specs.Progress.{round_stages}
use Rattle.guard.proofs.progress.round_stages.Goals as goal

pub returns : goal.returns
unfolding round_stages
returns c = rw c.width.ensures refl
