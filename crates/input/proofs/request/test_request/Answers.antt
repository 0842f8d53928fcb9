-- each test passes until one refuses, and no size overflows after the limits have passed.
use mathlib.Core.Path.{ap, ◌∙◌}
use Prim.Native.Nat.{ℕ}
use native.Mathlib.Omega.{arith}
use lib.ListN.{length}
use Rattle.definition.specs.Arith.{ieee64}
use Rattle.definition.specs.Memory.{wholes_of}
use Rattle.definition.specs.Refusals.{test_lent, test_request}
use Rattle.input.proofs.Accepted.{dims_valid, graph_valid, params_valid}
use Rattle.input.proofs.Verdicts.{passed, stops, goes_past}
use Rattle.input.proofs.request.test_request.Goals as goal

pub returns-in_err-test_dims : goal.returns-in_err-test_dims
unfolding test_request
returns-in_err-test_dims c = stops _ _ c.from_residual.ensures.1 _ c.in_err-test_dims.ensures

pub returns-in_err-test_graph : goal.returns-in_err-test_graph
unfolding test_request
returns-in_err-test_graph c = goes_past c.in_ok-test_dims.ensures (stops _ _ c.from_residual-in_err-test_graph.ensures.1 _ c.in_err-test_graph.ensures)

pub returns-in_err-test_params : goal.returns-in_err-test_params
unfolding test_request
returns-in_err-test_params c =
    goes_past c.in_ok-test_dims.ensures
    (goes_past c.in_ok-test_graph.ensures (stops _ _ c.from_residual-in_err-test_params.ensures.1 _ c.in_err-test_params.ensures))

pub test_lent-requires : goal.test_lent-requires
test_lent-requires c =
    let s = c.args in
    let dims = dims_valid s.d (passed c.in_ok-test_dims.ensures) in
    let graph = graph_valid ieee64 s.graph.starts.now s.graph.columns.now s.graph.values.now (passed c.in_ok-test_graph.ensures) in
    let set = params_valid _ (passed c.in_ok-test_params.ensures) in
    record { dims = dims.1; rounds-few = set.rounds-most; rows = omega (arith, graph.rows-most, c.row_count.ensures); entries = graph.entries-most }

pub returns : goal.returns
unfolding test_request
returns c =
    let s = c.args in
    goes_past c.in_ok-test_dims.ensures
    (goes_past c.in_ok-test_graph.ensures
    (goes_past c.in_ok-test_params.ensures
    (c.test_lent.ensures ∙ ap (λ (n : ℕ). test_lent s.d s.params.rounds n (length s.graph.columns.now) (wholes_of s.lent)) c.row_count.ensures)))
