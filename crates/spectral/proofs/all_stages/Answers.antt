use mathlib.Core.Path.{refl, sym, ap, ◌∙◌, subst}
use Prim.Native.Nat.{ℕ, ◌*◌, ◌≤◌}
use lib.ListN.{length}
use Rattle.definition.specs.Arith.{ieee64}
use Rattle.machine.specs.State.{Asked, Lent, stage_of, wide, chunk_count}
use Rattle.machine.specs.Closing.{closed_by}
use Rattle.state.specs.Said.{asked_in, state_in}
use native.Mathlib.Omega.{arith}
use Rattle.state.proofs.Places.{same_places, places_on}
use Rattle.spectral.proofs.Stages.{none-closed, opened-marks, to_come, chunks_ready, marks-here, closable, marks-done, closed-next, ended, never_out}
use Rattle.spectral.proofs.all_stages.Goals as goal

pub loop-closed-init : goal.loop-closed-init
loop-closed-init c = (none-closed _ _ _ _ _ _ c.requires.state_value, refl, refl, same_places _)

pub returns-then-stage-number : goal.returns-then-stage-number
returns-then-stage-number c =
    let e = ended c.requires.accepted c.loop-closed.invariant.0 (c.if-stage-number.true ∙ c.number.ensures) in
    record { result_value = e.0; memory_after = e.1.0; same_places = c.loop-closed.invariant.3; marks_unchanged = e.1.1 }

pub all_chunks-requires : goal.all_chunks-requires
all_chunks-requires c =
    let at = c.loop-closed.invariant.0 in
    let ok = c.requires.accepted in
    record { by_index = chunks_ready ok at; asked_in_bounds = marks-here ok at }

-- as many numbers as the partials have at least
abbrev parts_most : Asked → ℕ
parts_most a = chunk_count a * wide a * wide a

-- what closing reads is what the chunks have left
pub close_stage-reached-requires : goal.close_stage-reached-requires
close_stage-reached-requires c =
    let at = c.loop-closed.invariant.0 in
    let ok = c.requires.accepted in
    let d = c.all_chunks.ensures in
    let k = closable ok at d.memory_after in
    let e = sym c.view-seen.ensures in
    record {
      state_ready = k.state;
      rows_in_bounds = (subst (λ (m : Lent ieee64). c.loop-closed.reached.asked.rows ≤ length m.v0) e k.v0, subst (λ (m : Lent ieee64). parts_most (asked_in c.loop-closed.reached.asked) ≤ length m.partials) e k.partials);
      asked_in_bounds = marks-done ok at d.marks_after;
      asked_in_bounds_2 = k.ritz_record;
    }

pub loop-closed-preserved : goal.loop-closed-preserved
loop-closed-preserved c =
    let i = c.loop-closed.invariant in
    let ok = c.requires.accepted in
    let d = c.all_chunks in
    let t = c.close_stage-reached in
    let k = d.auto in (
      closed-next ok i.0 d.ensures.memory_after d.ensures.marks_after (to_come ok i.0 (λ p. c.if-stage-number.false (p ∙ sym c.number.ensures)))
          (t.ensures.result_value ∙ ap (λ (m : Lent ieee64). closed_by ieee64 (stage_of c.loop-closed.reached.progress.stage) (state_in c.loop-closed.reached) m.v0 m.partials) c.view-seen.ensures)
          t.ensures.marks_after t.ensures.ritz_record_after (opened-marks _ _ _ _ c.requires.state_value c.requires.marks_value),
      t.auto.marks ∙ k.marks ∙ i.1,
      t.auto.ritz_record ∙ i.2,
      places_on i.3 d.ensures.same_places,
    )

pub returns : goal.returns
returns c =
    let i = c.loop-closed.invariant in
    absurd (never_out c.requires.accepted i.0 (omega (arith, c.loop-closed-test.false)))
