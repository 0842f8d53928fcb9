use mathlib.Core.Path.{sym, ap, ◌∙◌}
use native.Mathlib.Omega.{arith}
use borrow.Author.Tests.{le-leb}
use lib.ListN.{drop_of_length-le}
use Rattle.lines.specs.Parts.{line_goes_on}
use Rattle.lines.proofs.Ends.{goes_nil, goes_other, goes_newline, goes_last, goes_return}
use Rattle.lines.proofs.line_goes_on.Goals as goal

pub returns-then-text-i : goal.returns-then-text-i
returns-then-text-i c = sym (ap line_goes_on (drop_of_length-le _ c.if-text-i.true) ∙ goes_nil)

pub returns-then-text-i-gt13 : goal.returns-then-text-i-gt13
returns-then-text-i-gt13 c = goes_other _ _ c.if-text-i.false (λ e. absurd (omega arith)) (λ e. absurd (omega arith))

pub returns-in-10 : goal.returns-in-10
returns-in-10 c = goes_newline _ _ c.if-text-i.false (omega arith)

pub returns-in_default : goal.returns-in_default
returns-in_default c = goes_other _ _ c.if-text-i.false (λ e. absurd (omega arith)) (λ e. absurd (omega arith))

pub returns-then-text-i-2 : goal.returns-then-text-i-2
returns-then-text-i-2 c = le-leb _ _ c.if-text-i-2.true ∙ goes_last _ _ c.if-text-i.false (λ e. absurd (omega arith)) c.if-text-i-2.true

pub returns-else-text-i-2 : goal.returns-else-text-i-2
returns-else-text-i-2 c = goes_return _ _ c.if-text-i.false (λ e. absurd (omega arith)) (omega arith) c.if-text-i-2.false
