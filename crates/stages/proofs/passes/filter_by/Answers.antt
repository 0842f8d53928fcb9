use mathlib.Core.Path.{◌∙◌}
use Rattle.stages.proofs.Arms.{filter_first, filter_later}
use Rattle.stages.proofs.passes.filter_by.Goals as goal

pub returns-then-pass-eq0 : goal.returns-then-pass-eq0
returns-then-pass-eq0 c = c.first_multipliers.ensures ∙ filter_first _ c.if-pass-eq0.true

pub returns : goal.returns
returns c = c.later_multipliers.ensures ∙ filter_later _ c.if-pass-eq0.false c.next_alpha-following.ensures
