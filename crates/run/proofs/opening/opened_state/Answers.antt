use mathlib.Core.Path.{◌∙◌}
use Rattle.machine.specs.State.{opened_state}
use Rattle.run.proofs.opening.opened_state.Goals as goal

pub returns : goal.returns
unfolding opened_state
returns c = c.begun_at.ensures ∙ rw c.row_count.ensures
