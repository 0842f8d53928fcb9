-- A refused request leaves all as it is, an accepted one is run to its end.
use mathlib.Core.Path.{◌≡◌, ◌∙◌, subst}
use Rattle.definition.specs.Arith.{ieee64}
use Rattle.machine.specs.State.{Lent, with_record}
use Rattle.machine.specs.Calls.{open_call}
use Rattle.input.specs.Said.{verdict_of, params_of}
use Rattle.state.specs.Said.{state_in, lists_of, all_of, outcome_in}
use Rattle.spectral.proofs.Paths.{Opened, refused, taken, stages_accepted, stages_opened, stages_marks, whole-taken}
use Rattle.spectral.proofs.spectral_embedding.Goals as goal
use Rattle.spectral.proofs.spectral_embedding.Goals.{After-open-opened}

-- what opening answered, said of the memory that it saw
opening : (t : After-open-opened) → let a = t.args in
    outcome_in t.open-opened.result (all_of a.memory.now a.ritz_record.now) t.open-opened.new.marks
    ≡ open_call ieee64 a.d (params_of a.params) (lists_of a.graph) (all_of a.memory.now a.ritz_record.now) a.marks.now
opening t =
    let a = t.args in
    subst (λ (m : Lent ieee64). outcome_in t.open-opened.result (with_record ieee64 a.ritz_record.now m) t.open-opened.new.marks
    ≡ open_call ieee64 a.d (params_of a.params) (lists_of a.graph) (with_record ieee64 a.ritz_record.now m) a.marks.now) t.view.ensures t.open-opened.ensures

-- an accepted opening
opened : (t : After-open-opened) → t.open-opened.result.verdict.number ≡ 0 → let a = t.args in
    Opened a.d (params_of a.params) (lists_of a.graph)
    (all_of a.memory.now a.ritz_record.now) a.marks.now
    (verdict_of t.open-opened.result.verdict) (state_in t.open-opened.result.state) t.open-opened.new.marks
opened t z = taken _ _ _ _ _ (opening t) z

pub returns-then-is_refused-clause-answer : goal.returns-then-is_refused-clause-answer
returns-then-is_refused-clause-answer c = refused _ _ _ _ _ (opening (goal.at.returns-then-is_refused-clause-answer c).After-open-opened) c.if-is_refused.true

pub all_stages-counts-requires : goal.all_stages-counts-requires
all_stages-counts-requires c =
    let o = opened (goal.at.all_stages-counts-requires c).After-open-opened c.if-is_refused.false in
    record { accepted = stages_accepted o; state_value = stages_opened o; marks_value = stages_marks o }

pub shape_of-marks : goal.shape_of-marks
shape_of-marks c = c.all_stages-counts.auto.marks ∙ c.open-opened.auto.marks

pub returns-clause-answer : goal.returns-clause-answer
returns-clause-answer c =
    let e = c.all_stages-counts.ensures in
    whole-taken (opened (goal.at.returns-clause-answer c).After-open-opened c.if-is_refused.false) e.result_value e.memory_after e.marks_unchanged
