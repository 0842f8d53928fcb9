use mathlib.Core.Path.{sym, ap, ◌∙◌}
use mathlib.Core.List.{List}
use native.Mathlib.Omega.{arith}
use lib.ListN.{take}
use Rattle.market.specs.Market.{Entry, has}
use Rattle.market.specs.Passes.{entries_in}
use Rattle.market.proofs.Entries.{met, skipped, other_of}
use Rattle.repeated.proofs.Keys.{again_none, again_over, again_here}
use Rattle.repeated.proofs.among_first.Goals as goal

pub loop-kind-preserved-in_default : goal.loop-kind-preserved-in_default
loop-kind-preserved-in_default c =
    let a = c.args in
    (tt, tt, c.loop-kind.invariant.2 ∙ ap (λ (es : List Entry). has (take c.loop-kind.left es) a.row a.column) (skipped c.in-Some.ensures.steps (other_of _ c.in_default.not-Entry)))

pub returns-then-left-eq0 : goal.returns-then-left-eq0
returns-then-left-eq0 c = sym (c.loop-kind.invariant.2 ∙ again_over _ _ _ _ c.if-left-eq0.true)

pub returns-then-is_pair : goal.returns-then-is_pair
returns-then-is_pair c = sym (c.loop-kind.invariant.2 ∙ again_here _ _ _ (met c.in-Some.ensures.steps c.in-Entry.is) c.if-left-eq0.false ∙ rw (sym c.is_pair.ensures ∙ c.if-is_pair.true))

pub overflow_sub-left : goal.overflow_sub-left
overflow_sub-left c = omega (arith, c.if-left-eq0.false)

pub loop-kind-preserved : goal.loop-kind-preserved
loop-kind-preserved c = (tt, tt, c.loop-kind.invariant.2 ∙ again_here _ _ _ (met c.in-Some.ensures.steps c.in-Entry.is) c.if-left-eq0.false ∙ rw (sym c.is_pair.ensures ∙ c.if-is_pair.false))

pub returns : goal.returns
unfolding entries_in
returns c =
    let a = c.args in
    sym (c.loop-kind.invariant.2 ∙ again_none c.loop-kind.left a.row a.column (ap entries_in c.in-None.ensures.steps.0))
