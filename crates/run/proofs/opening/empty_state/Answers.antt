use Rattle.machine.specs.State.{empty_state}
use Rattle.run.proofs.opening.empty_state.Goals as goal

pub returns : goal.returns
unfolding empty_state
returns c = c.begun_at.ensures
