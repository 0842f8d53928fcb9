use mathlib.Core.Path.{◌∙◌}
use Rattle.reading.proofs.Steps.{one_found, one-wrong}
use Rattle.reading.proofs.read_one.Goals as goal

pub returns-in_err-line : goal.returns-in_err-line
returns-in_err-line c = c.from_residual.ensures ∙ one-wrong _ _ _ c.read_line.ensures c.in_err-line.was

pub returns : goal.returns
returns c = one_found _ _ _ _ c.read_line.ensures c.in_ok-line.was
