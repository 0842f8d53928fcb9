use mathlib.Core.Path.{◌≡◌, sym, ◌∙◌}
use mathlib.Core.Bool.{true}
use Rattle.definition.specs.Arith.{ieee64}
use Rattle.machine.specs.Ranges.{state_sound, is_open}
use Rattle.state.specs.Said.{state_in}
use Rattle.guard.proofs.Asked.{state-asked}
use Rattle.guard.proofs.Verdicts.{begun-damaged, begun-none, begun-short, begun-taken}
use Rattle.guard.proofs.tests.test_begun.Goals as goal
use Rattle.guard.proofs.tests.test_begun.Goals.{Else-not-fields_sound, Else-not-is_open}

sound : (c : Else-not-fields_sound) → state_sound ieee64 (state_in c.args.state.now) ≡ true
sound c = sym c.fields_sound.ensures ∙ c.if-not-fields_sound.false

opened : (c : Else-not-is_open) → is_open ieee64 (state_in c.args.state.now) ≡ true
unfolding is_open
opened c = sym c.is_open.ensures ∙ c.if-not-is_open.false

pub returns-then-not-fields_sound : goal.returns-then-not-fields_sound
returns-then-not-fields_sound c = begun-damaged _ _ _ (sym c.fields_sound.ensures ∙ c.if-not-fields_sound.true)

pub returns-then-not-is_open : goal.returns-then-not-is_open
unfolding is_open
returns-then-not-is_open c = begun-none _ _ _ (sound (goal.at.returns-then-not-is_open c).Else-not-fields_sound) (sym c.is_open.ensures ∙ c.if-not-is_open.true)

pub invariant_of-a : goal.invariant_of-a
invariant_of-a c = record { ready = state-asked (state_in c.args.state.now) (sound (goal.at.invariant_of-a c).Else-not-fields_sound) }

pub returns-then-not-lists_sound : goal.returns-then-not-lists_sound
returns-then-not-lists_sound c =
    let at = goal.at.returns-then-not-lists_sound c in
    begun-short _ _ _ (sound at.Else-not-fields_sound) (opened at.Else-not-is_open) (sym c.lists_sound.ensures ∙ c.if-not-lists_sound.true)

pub returns : goal.returns
returns c =
    let at = goal.at.returns c in
    begun-taken _ _ _ (sound at.Else-not-fields_sound) (opened at.Else-not-is_open) (sym c.lists_sound.ensures ∙ c.if-not-lists_sound.false)
