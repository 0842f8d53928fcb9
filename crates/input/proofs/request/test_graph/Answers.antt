-- Each test passes until one refuses.
use mathlib.Core.Path.{◌∙◌}
use Rattle.definition.specs.Refusals.{test_graph}
use Rattle.input.proofs.Verdicts.{stops, goes_past}
use Rattle.input.proofs.request.test_graph.Goals as goal

pub returns-in_err-test_rows : goal.returns-in_err-test_rows
unfolding test_graph
returns-in_err-test_rows c = stops _ _ c.from_residual.ensures.1 _ c.in_err-test_rows.ensures

pub returns-in_err-test_limits : goal.returns-in_err-test_limits
unfolding test_graph
returns-in_err-test_limits c = goes_past c.in_ok-test_rows.ensures (stops _ _ c.from_residual-in_err-test_limits.ensures.1 _ c.in_err-test_limits.ensures)

pub returns-in_err-test_lengths : goal.returns-in_err-test_lengths
unfolding test_graph
returns-in_err-test_lengths c =
    goes_past c.in_ok-test_rows.ensures
    (goes_past c.in_ok-test_limits.ensures (stops _ _ c.from_residual-in_err-test_lengths.ensures.1 _ c.in_err-test_lengths.ensures))

pub returns-in_err-test_starts : goal.returns-in_err-test_starts
unfolding test_graph
returns-in_err-test_starts c =
    goes_past c.in_ok-test_rows.ensures
    (goes_past c.in_ok-test_limits.ensures
    (goes_past c.in_ok-test_lengths.ensures (stops _ _ c.from_residual-in_err-test_starts.ensures.1 _ c.in_err-test_starts.ensures)))

pub returns-in_err-test_columns : goal.returns-in_err-test_columns
unfolding test_graph
returns-in_err-test_columns c =
    goes_past c.in_ok-test_rows.ensures
    (goes_past c.in_ok-test_limits.ensures
    (goes_past c.in_ok-test_lengths.ensures
    (goes_past c.in_ok-test_starts.ensures
    (stops _ _ c.from_residual-in_err-test_columns.ensures.1 _ (c.in_err-test_columns.ensures ∙ rw c.row_count.ensures)))))

pub returns : goal.returns
unfolding test_graph
returns c =
    goes_past c.in_ok-test_rows.ensures
    (goes_past c.in_ok-test_limits.ensures
    (goes_past c.in_ok-test_lengths.ensures
    (goes_past c.in_ok-test_starts.ensures (goes_past (c.in_ok-test_columns.ensures ∙ rw c.row_count.ensures) c.test_values.ensures))))
