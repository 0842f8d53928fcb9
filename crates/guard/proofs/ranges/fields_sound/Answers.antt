-- What was asked is tested first, so that nothing after it overflows.
use mathlib.Core.Path.{sym, ◌∙◌}
use Rattle.machine.specs.Ranges.{state_sound}
use Rattle.definition.specs.Arith.{ieee64}
use Rattle.ready.proofs.Tested.{asked_ready}
use Rattle.guard.proofs.Chains.{failed, passed}
use Rattle.guard.proofs.ranges.fields_sound.Goals as goal

pub returns-then-not-asked_sound : goal.returns-then-not-asked_sound
unfolding state_sound
returns-then-not-asked_sound c = sym c.if-not-asked_sound.true ∙ failed c.asked_sound.ensures _ c.if-not-asked_sound.true

pub invariant_of-a : goal.invariant_of-a
invariant_of-a c = record { ready = asked_ready ieee64 _ (sym c.asked_sound.ensures ∙ c.if-not-asked_sound.false) }

pub returns-then-counts_sound : goal.returns-then-counts_sound
unfolding state_sound
returns-then-counts_sound c =
    passed c.asked_sound.ensures c.if-not-asked_sound.false
    (passed c.progress_sound.ensures c.if-progress_sound.true
    (passed c.counts_sound.ensures c.if-counts_sound.true c.order_sound.ensures))

pub returns-else-counts_sound : goal.returns-else-counts_sound
unfolding state_sound
returns-else-counts_sound c =
    passed c.asked_sound.ensures c.if-not-asked_sound.false
    (passed c.progress_sound.ensures c.if-progress_sound.true (failed c.counts_sound.ensures _ c.if-counts_sound.false))

pub returns-else-progress_sound : goal.returns-else-progress_sound
unfolding state_sound
returns-else-progress_sound c = passed c.asked_sound.ensures c.if-not-asked_sound.false (failed c.progress_sound.ensures _ c.if-progress_sound.false)
