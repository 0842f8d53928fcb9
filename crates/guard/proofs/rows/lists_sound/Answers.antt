use mathlib.Core.Path.{ap, ◌∙◌}
use Rattle.definition.specs.Refusals.{passes}
use Rattle.input.proofs.Verdicts.{ok_passes}
use Rattle.guard.specs.Rows.{lists_test}
use Rattle.guard.proofs.Chains.{failed, passed}
use Rattle.guard.proofs.rows.lists_sound.Goals as goal

pub returns-then-lists_enough : goal.returns-then-lists_enough
unfolding lists_test
returns-then-lists_enough c = passed c.lists_enough.ensures c.if-lists_enough.true (c.is_ok.ensures.value ∙ ok_passes _ ∙ ap passes c.test_lent.ensures)

pub returns-else-lists_enough : goal.returns-else-lists_enough
unfolding lists_test
returns-else-lists_enough c = failed c.lists_enough.ensures _ c.if-lists_enough.false
