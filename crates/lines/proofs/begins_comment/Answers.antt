use mathlib.Core.Path.{◌∙◌}
use Rattle.lines.proofs.Words.{begins_with}
use Rattle.lines.proofs.begins_comment.Goals as goal

pub returns : goal.returns
returns c = c.starts_with.ensures.value ∙ begins_with 37 _
