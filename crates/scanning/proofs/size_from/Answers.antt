use mathlib.Core.Path.{refl, sym, ap, ◌∙◌}
use mathlib.Core.Logic.{inl, inr, ⊎_elim}
use Rattle.scanning.proofs.Heads.{variant, find_end, find_on, find_off, find_size, find_wrong}
use Rattle.scanning.proofs.size_from.Goals as goal

pub loop-at-init : goal.loop-at-init
loop-at-init c = record { is = refl; within = c.requires.within; line_low = c.requires.line }

pub read_line-read-requires : goal.read_line-read-requires
read_line-read-requires c = c.loop-at-test.true

pub loop-at-preserved : goal.loop-at-preserved
loop-at-preserved c =
    find_on _ _ _ _ c.loop-at.invariant _ c.read_line-read.ensures
    (⊎_elim (λ e. inl (ap variant e)) (λ e. inr (ap variant e)) c.in-Blank.is)

pub returns-then-not-right_size : goal.returns-then-not-right_size
returns-then-not-right_size c =
    find_wrong _ _ _ _ c.loop-at.invariant _ c.read_line-read.ensures
    _ _ _ c.in-Size.is (sym c.if-not-right_size.true ∙ c.right_size.ensures)

pub returns-in-Size : goal.returns-in-Size
returns-in-Size c =
    find_size _ _ _ _ c.loop-at.invariant _ c.read_line-read.ensures
    _ _ _ c.in-Size.is (sym c.if-not-right_size.false ∙ c.right_size.ensures)

pub returns-in-Entry : goal.returns-in-Entry
returns-in-Entry c =
    find_off _ _ _ _ c.loop-at.invariant _ c.read_line-read.ensures
    (⊎_elim (λ w. inl (ap variant w.2)) (λ e. inr (ap variant e)) c.in-Entry.is)

pub returns : goal.returns
returns c = find_end _ _ _ _ c.loop-at.invariant c.loop-at-test.false
