use Rattle.machine.specs.State.{begun_at}
use Rattle.run.proofs.opening.begun_at.Goals as goal

pub returns : goal.returns
unfolding begun_at
returns c = rw c.first_alpha-alpha.ensures
