use mathlib.Core.Path.{◌∙◌}
use Rattle.lines.proofs.Words.{holds_any}
use Rattle.lines.proofs.holds_return.Goals as goal

pub returns : goal.returns
returns c = c.contains.ensures.value ∙ holds_any 13 _
