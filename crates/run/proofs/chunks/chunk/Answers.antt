-- A refused chunk leaves all as it is, an accepted one has what `work_chunk` asks.
use mathlib.Core.Path.{◌≡◌, refl, sym, ap, ◌∙◌}
use Rattle.definition.specs.Arith.{ieee64}
use Rattle.input.specs.Said.{verdict_of}
use Rattle.machine.specs.State.{Lent, with_record}
use Rattle.machine.specs.Ranges.{test_chunk}
use Rattle.state.specs.Said.{state_in, lists_of, all_of, all_seen}
use Rattle.ready.proofs.Ready.{chunk_ready, ready_beside}
use Rattle.stages.proofs.Parts.{parts_ready}
use Rattle.run.proofs.Paths.{zero-passes, chunk-refused, chunk-taken}
use Rattle.run.proofs.chunks.chunk.Goals as goal
use Rattle.run.proofs.chunks.chunk.Goals.{After-from-verdict}

-- what the code found is the machine's test
found : (t : After-from-verdict) → let a = t.args in
    verdict_of t.from-verdict.result
    ≡ test_chunk ieee64 (state_in a.state) a.number (lists_of a.graph)
    (all_of a.memory.now a.ritz_record.now) a.marks.now
found t =
    let a = t.args in
    t.from-verdict.ensures ∙ t.test_chunk-tested.ensures (all_seen t.view-seen.result a.ritz_record.now) refl (sym t.other_lengths.ensures)
    ∙ ap (λ (m : Lent ieee64). test_chunk ieee64 (state_in a.state) a.number (lists_of a.graph) (with_record ieee64 a.ritz_record.now m) a.marks.now) t.view-seen.ensures

pub returns-then-is_refused-clause-answer : goal.returns-then-is_refused-clause-answer
returns-then-is_refused-clause-answer c =
    chunk-refused ieee64 _ _ _ _ _ (found (goal.at.returns-then-is_refused-clause-answer c).After-from-verdict) c.if-is_refused.true

pub work_chunk-requires : goal.work_chunk-requires
work_chunk-requires c =
    let R = chunk_ready ieee64 _ _ _ _ _ (zero-passes (found (goal.at.work_chunk-requires c).After-from-verdict) c.if-is_refused.false) in
    record { ready = parts_ready ieee64 (ready_beside ieee64 _ _ _ c.args.ritz_record.now _ R.0); h_in_bounds = R.4 }

pub returns-clause-answer : goal.returns-clause-answer
returns-clause-answer c =
    chunk-taken ieee64 _ _ _ _ _ (found (goal.at.returns-clause-answer c).After-from-verdict) c.if-is_refused.false
    c.work_chunk.ensures.memory_after c.work_chunk.ensures.marks_after
