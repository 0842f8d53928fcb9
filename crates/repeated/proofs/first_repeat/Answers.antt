use mathlib.Core.Path.{refl, sym, ◌∙◌}
use native.Mathlib.Omega.{arith}
use Rattle.lines.proofs.Ends.{kinds_end}
use Rattle.market.proofs.Passes.{repeat_over}
use Rattle.repeated.proofs.Repeats.{repeat_end}
use Rattle.repeated.proofs.Chains.{table_none}
use Rattle.repeated.proofs.first_repeat.Goals as goal

pub loop-at-init : goal.loop-at-init
loop-at-init c = (c.requires.1, c.requires.0, refl)

pub returns-then-end-line : goal.returns-then-end-line
returns-then-end-line c = let l = c.loop-at in sym (l.invariant.2 ∙ repeat_over _ _ _ _ c.if-end-line.true)

pub loop-at-smaller : goal.loop-at-smaller
loop-at-smaller c = let p = c.pass-r in omega (arith, p.ensures)

pub loop-at-preserved : goal.loop-at-preserved
loop-at-preserved c = let e = c.pass-r.ensures in (e.below, e.within, c.loop-at.invariant.2 ∙ e.same)

pub returns : goal.returns
returns c = let l = c.loop-at in sym (l.invariant.2 ∙ repeat_end _ _ _ (kinds_end _ l.at (omega arith)))

pub invariant_of-table : goal.invariant_of-table
invariant_of-table c = table_none
