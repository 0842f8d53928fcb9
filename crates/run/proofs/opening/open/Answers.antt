-- A refused request leaves all as it is, an accepted one clears its marks.
use mathlib.Core.Path.{◌≡◌, sym, ap, ◌∙◌}
use mathlib.Core.List.{List}
use Prim.Native.Nat.{ℕ, ◌-◌}
use native.Mathlib.Omega.{arith}
use lib.ListN.{length}
use Rattle.definition.specs.Arith.{ieee64}
use Rattle.definition.specs.Memory.{wholes_of}
use Rattle.definition.specs.Numbers.{chunks}
use Rattle.definition.specs.Refusals.{test_request}
use Rattle.input.specs.Said.{verdict_of, params_of}
use Rattle.held.specs.Marks.{cleared}
use Rattle.state.specs.Said.{lists_of, all_seen}
use Rattle.run.proofs.Paths.{no_refusal, a_refusal, test_open, open_marks, open_refused, open_taken}
use Rattle.run.proofs.opening.open.Goals as goal
use Rattle.run.proofs.opening.open.Goals.{After-from-verdict, After-chunk_count}

-- what the code found is the machine's test
found : (t : After-from-verdict) → let a = t.args in
    verdict_of t.from-verdict.result
    ≡ test_open ieee64 a.d (params_of a.params) (lists_of a.graph)
    (all_seen a.memory a.ritz_record.now) a.marks.now
found t =
    let a = t.args in
    t.from-verdict.ensures ∙ t.test_request-tested.ensures
    ∙ ap (λ (l : List ℕ). test_request ieee64 a.d (params_of a.params) a.graph.starts.now a.graph.columns.now a.graph.values.now (wholes_of l)) t.lengths-lengths.ensures

-- the code's count of chunks is the machine's
counted : (c : After-chunk_count) → c.chunk_count.result ≡ chunks (length c.args.graph.starts.now - 1)
counted c = c.chunk_count.ensures ∙ ap chunks c.row_count-n.ensures

pub returns-then-is_err : goal.returns-then-is_err
returns-then-is_err c =
    let a = c.args in
    open_refused ieee64 a.d (params_of a.params) (lists_of a.graph)
    (all_seen a.memory a.ritz_record.now) a.marks.now
    (found (goal.at.returns-then-is_err c).After-from-verdict) (a_refusal _ c.from-verdict.ensures (sym c.is_err.ensures.value ∙ c.if-is_err.true)) c.empty_state-state.ensures

pub clear_marks-requires : goal.clear_marks-requires
clear_marks-requires c =
    let a = c.args in
    omega (
      arith,
      counted (goal.at.clear_marks-requires c).After-chunk_count,
      open_marks ieee64 a.d (params_of a.params) (lists_of a.graph)
          (all_seen a.memory a.ritz_record.now) a.marks.now
          (found (goal.at.clear_marks-requires c).After-from-verdict) (no_refusal _ c.from-verdict.ensures (sym c.is_err.ensures.value ∙ c.if-is_err.false)),
    )

pub returns : goal.returns
unfolding cleared
returns c =
    let a = c.args in
    open_taken ieee64 a.d (params_of a.params) (lists_of a.graph)
    (all_seen a.memory a.ritz_record.now) a.marks.now
    (found (goal.at.returns c).After-from-verdict) (no_refusal _ c.from-verdict.ensures (sym c.is_err.ensures.value ∙ c.if-is_err.false))
    c.opened_state-state.ensures
    (c.clear_marks.ensures ∙ ap (λ (n : ℕ). cleared n a.marks.now) (counted (goal.at.returns c).After-chunk_count))
