use mathlib.Core.Path.{◌∙◌}
use native.Mathlib.Omega.{arith}
use borrow.Author.Tests.{lt-ltb, le-ltb}
use Rattle.definition.proofs.First.{first-here, first-later, first-none}
use Rattle.input.proofs.Verdicts.{first_refused, none_refused}
use Rattle.input.proofs.scan.test_rising.Goals as goal

pub returns-then-starts-i : goal.returns-then-starts-i
returns-then-starts-i c = first_refused _ _ _ _ (c.loop-i.invariant ∙ first-here _ _ _ (omega arith) (lt-ltb _ _ c.if-starts-i.true)) (omega arith)

pub loop-i-preserved : goal.loop-i-preserved
loop-i-preserved c = c.loop-i.invariant ∙ first-later _ _ _ (omega arith) (le-ltb _ _ c.if-starts-i.false)

pub returns : goal.returns
returns c = none_refused _ _ _ _ (omega (arith, c.loop-i.invariant ∙ first-none _ _ _ (omega arith)))
