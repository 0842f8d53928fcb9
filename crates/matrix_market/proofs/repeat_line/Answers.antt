use mathlib.Core.Path.{sym}
use Rattle.matrix_market.proofs.repeat_line.Goals as goal

pub returns-then-rising : goal.returns-then-rising
returns-then-rising c = sym (c.requires.1 c.if-rising.true)
