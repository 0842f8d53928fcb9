-- A refused closing leaves all as it is, an accepted one has what `close_stage` asks.
use mathlib.Core.Path.{◌≡◌, refl, sym, ◌∙◌}
use Rattle.definition.specs.Arith.{ieee64}
use Rattle.input.specs.Said.{verdict_of}
use Rattle.machine.specs.Ranges.{test_close}
use Rattle.state.specs.Said.{state_in, lists_of, all_seen}
use Rattle.ready.proofs.Ready.{close_ready}
use Rattle.run.proofs.Paths.{no_refusal, a_refusal, zero-passes, close-refused, close-taken}
use Rattle.run.proofs.stage_end.close.Goals as goal
use Rattle.run.proofs.stage_end.close.Goals.{After-from-verdict}

-- what the code found is the machine's test
found : (t : After-from-verdict) → let a = t.args in
    verdict_of t.from-verdict.result
    ≡ test_close ieee64 (state_in a.state) (lists_of a.graph)
    (all_seen a.memory a.ritz_record.now) a.marks.now
found t = let a = t.args in t.from-verdict.ensures ∙ t.test_close-tested.ensures (all_seen a.memory a.ritz_record.now) refl (sym t.other_lengths.ensures)

pub returns-then-is_err : goal.returns-then-is_err
returns-then-is_err c =
    close-refused ieee64 _ _ _ _ (found (goal.at.returns-then-is_err c).After-from-verdict) (a_refusal _ c.from-verdict.ensures (sym c.is_err.ensures.value ∙ c.if-is_err.true))

pub close_stage-next-requires : goal.close_stage-next-requires
close_stage-next-requires c =
    let R = close_ready ieee64 _ _ _ _ (zero-passes (found (goal.at.close_stage-next-requires c).After-from-verdict) (no_refusal _ c.from-verdict.ensures (sym c.is_err.ensures.value ∙ c.if-is_err.false))) in
    record {
      state_ready = R.0.state;
      rows_in_bounds = (R.0.v0, R.0.partials);
      asked_in_bounds = R.3;
      asked_in_bounds_2 = R.0.ritz_record;
    }

pub returns : goal.returns
returns c =
    close-taken ieee64 _ _ _ _ (found (goal.at.returns c).After-from-verdict) (no_refusal _ c.from-verdict.ensures (sym c.is_err.ensures.value ∙ c.if-is_err.false))
    c.close_stage-next.ensures.result_value c.close_stage-next.ensures.marks_after c.close_stage-next.ensures.ritz_record_after
