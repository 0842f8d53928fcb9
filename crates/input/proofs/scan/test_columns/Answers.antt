use mathlib.Core.Path.{◌∙◌}
use native.Mathlib.Omega.{arith}
use borrow.Author.Tests.{le-leb, lt-leb}
use Rattle.definition.specs.Refusals.{test_columns}
use Rattle.definition.proofs.First.{first-start, first-here, first-later, first-none}
use Rattle.input.proofs.Verdicts.{first_refused, none_refused}
use Rattle.input.proofs.scan.test_columns.Goals as goal

pub loop-e-init : goal.loop-e-init
loop-e-init c = first-start _ _

pub overflow_cast-column : goal.overflow_cast-column
overflow_cast-column c = omega (arith, c.type_inv.columns c.loop-e.e)

pub returns-then-n-column : goal.returns-then-n-column
unfolding test_columns
returns-then-n-column c = first_refused _ _ _ _ (c.loop-e.invariant ∙ first-here _ _ _ (omega arith) (le-leb _ _ c.if-n-column.true)) (omega arith)

pub loop-e-preserved : goal.loop-e-preserved
loop-e-preserved c = c.loop-e.invariant ∙ first-later _ _ _ (omega arith) (lt-leb _ _ c.if-n-column.false)

pub returns : goal.returns
unfolding test_columns
returns c = none_refused _ _ _ _ (omega (arith, c.loop-e.invariant ∙ first-none _ _ _ (omega arith)))
