use mathlib.Core.Path.{◌∙◌}
use native.Mathlib.Omega.{arith}
use borrow.Author.Tests.{lt-ltb, le-ltb}
use Rattle.definition.proofs.First.{first-here, first-later, first-none}
use Rattle.input.proofs.Verdicts.{first_refused, none_refused}
use Rattle.input.proofs.scan.test_enough.Goals as goal

pub returns-then-lent-j : goal.returns-then-lent-j
returns-then-lent-j c = first_refused _ _ _ _ (c.loop-j.invariant ∙ first-here _ _ _ (omega arith) (lt-ltb _ _ c.if-lent-j.true)) (omega arith)

pub loop-j-preserved : goal.loop-j-preserved
loop-j-preserved c = c.loop-j.invariant ∙ first-later _ _ _ (omega arith) (le-ltb _ _ c.if-lent-j.false)

pub returns : goal.returns
returns c = none_refused _ _ _ _ (omega (arith, c.loop-j.invariant ∙ first-none _ _ _ (omega arith)))
