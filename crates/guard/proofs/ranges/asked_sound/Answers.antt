-- The tests one after the other, until one fails.
use mathlib.Core.Path.{refl, ap, ◌∙◌}
use borrow.Author.Tests.{le-leb, lt-leb}
use Rattle.definition.specs.Refusals.{passes}
use Rattle.input.proofs.Verdicts.{ok_passes}
use Rattle.machine.specs.Ranges.{asked_sound}
use Rattle.guard.proofs.Chains.{failed, passed}
use Rattle.guard.proofs.ranges.asked_sound.Goals as goal

pub returns-then-within-4 : goal.returns-then-within-4
unfolding asked_sound
returns-then-within-4 c =
    passed c.within.ensures c.if-within.true
    (passed c.within-then-within.ensures c.if-within-2.true
    (passed refl (le-leb _ _ c.if-a-le-ENTRIES_MOST.true)
    (passed c.within-then-a-le-ENTRIES_MOST.ensures c.if-within-3.true
    (passed c.within-then-within-3.ensures c.if-within-4.true (c.is_ok.ensures.value ∙ ok_passes _ ∙ ap passes c.test_seed_std.ensures)))))

pub returns-else-within-4 : goal.returns-else-within-4
unfolding asked_sound
returns-else-within-4 c =
    passed c.within.ensures c.if-within.true
    (passed c.within-then-within.ensures c.if-within-2.true
    (passed refl (le-leb _ _ c.if-a-le-ENTRIES_MOST.true)
    (passed c.within-then-a-le-ENTRIES_MOST.ensures c.if-within-3.true (failed c.within-then-within-3.ensures _ c.if-within-4.false))))

pub returns-else-within-3 : goal.returns-else-within-3
unfolding asked_sound
returns-else-within-3 c =
    passed c.within.ensures c.if-within.true
    (passed c.within-then-within.ensures c.if-within-2.true
    (passed refl (le-leb _ _ c.if-a-le-ENTRIES_MOST.true) (failed c.within-then-a-le-ENTRIES_MOST.ensures _ c.if-within-3.false)))

pub returns-else-a-le-ENTRIES_MOST : goal.returns-else-a-le-ENTRIES_MOST
unfolding asked_sound
returns-else-a-le-ENTRIES_MOST c = passed c.within.ensures c.if-within.true (passed c.within-then-within.ensures c.if-within-2.true (failed refl _ (lt-leb _ _ c.if-a-le-ENTRIES_MOST.false)))

pub returns-else-within-2 : goal.returns-else-within-2
unfolding asked_sound
returns-else-within-2 c = passed c.within.ensures c.if-within.true (failed c.within-then-within.ensures _ c.if-within-2.false)

pub returns-else-within : goal.returns-else-within
unfolding asked_sound
returns-else-within c = failed c.within.ensures _ c.if-within.false
