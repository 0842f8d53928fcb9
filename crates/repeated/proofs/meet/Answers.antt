use mathlib.Core.Path.{refl, sym, ◌∙◌}
use native.Mathlib.Numerals.{add-one}
use native.Mathlib.Omega.{arith}
use Rattle.lines.proofs.Ends.{kinds_end}
use Rattle.repeated.proofs.Repeats.{meet_over, meet_hit, meet_on, meet_end}
use Rattle.repeated.proofs.meet.Goals as goal

pub loop-at-init : goal.loop-at-init
loop-at-init c = (c.requires.2, c.requires.1, refl)

pub returns-then-limit-line : goal.returns-then-limit-line
returns-then-limit-line c = let l = c.loop-at in sym (l.invariant.2 ∙ meet_over _ _ _ _ c.if-limit-line.true)

pub among-requires : goal.among-requires
among-requires c = (c.requires.0, c.requires.3)

pub returns-then-among : goal.returns-then-among
returns-then-among c =
    let l = c.loop-at in
    sym (l.invariant.2 ∙ meet_hit _ l.line _ _ _ c.read_line-r.ensures.lines c.among.ensures (omega arith) c.if-among.true)

pub overflow_add-line : goal.overflow_add-line
overflow_add-line c = omega (arith, c.read_line-r.ensures)

pub loop-at-smaller : goal.loop-at-smaller
loop-at-smaller c = omega (arith, c.read_line-r.ensures)

pub loop-at-preserved : goal.loop-at-preserved
loop-at-preserved c =
    let l = c.loop-at in (
      omega (arith, c.read_line-r.ensures),
      c.read_line-r.ensures.within,
      l.invariant.2 ∙ meet_on _ l.line _ _ _ c.read_line-r.ensures.lines c.among.ensures (omega arith) c.if-among.false ∙ rw add-one,
    )

pub returns : goal.returns
returns c = let l = c.loop-at in sym (l.invariant.2 ∙ meet_end _ _ _ (kinds_end _ l.at (omega arith)))
