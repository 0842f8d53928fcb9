use mathlib.Core.Path.{sym, ap, ◌∙◌}
use mathlib.Core.Bool.{not}
use native.Mathlib.Omega.{arith}
use Rattle.definition.specs.Refusals.{test_values}
use Rattle.definition.proofs.First.{first-start, first-here, first-later, first-none}
use Rattle.input.proofs.Verdicts.{first_refused, none_refused}
use Rattle.input.proofs.scan.test_values.Goals as goal

pub loop-e-init : goal.loop-e-init
loop-e-init c = first-start _ _

pub returns-then-not-is_finite : goal.returns-then-not-is_finite
unfolding test_values
returns-then-not-is_finite c = first_refused _ _ _ _ (c.loop-e.invariant ∙ first-here _ _ _ (omega arith) (ap not (sym c.is_finite.ensures ∙ c.if-not-is_finite.true))) (omega arith)

pub loop-e-preserved : goal.loop-e-preserved
loop-e-preserved c = c.loop-e.invariant ∙ first-later _ _ _ (omega arith) (ap not (sym c.is_finite.ensures ∙ c.if-not-is_finite.false))

pub returns : goal.returns
unfolding test_values
returns c = none_refused _ _ _ _ (omega (arith, c.loop-e.invariant ∙ first-none _ _ _ (omega arith)))
