use mathlib.Core.Path.{◌≡◌, ap, ◌∙◌}
use mathlib.Core.Bool.{not}
use Prim.Native.Nat.{ℕ}
use lib.Dec.{eqb}
use lib.ListN.{length, get_or}
use Rattle.definition.specs.Refusals.{accepted, given, test_starts}
use Rattle.input.proofs.Verdicts.{stops, goes_past}
use Rattle.input.proofs.request.test_starts.Goals as goal
use Rattle.input.proofs.request.test_starts.Goals.{In_ok-refuse_if}

-- the first test, once it has passed
first-start : (c : In_ok-refuse_if) → accepted ≡ given (not (eqb (get_or c.args.graph.starts.now 0 0) 0)) 5 0
first-start c = c.in_ok-refuse_if.ensures ∙ ap (λ (x : ℕ). given (not (eqb x 0)) 5 0) c.start_at.ensures

pub returns-in_err-refuse_if : goal.returns-in_err-refuse_if
unfolding test_starts
returns-in_err-refuse_if c =
    stops _ _ c.from_residual.ensures.1 _ (c.in_err-refuse_if.ensures ∙ ap (λ (x : ℕ). given (not (eqb x 0)) 5 0) c.start_at.ensures)

pub returns-in_err-test_rising : goal.returns-in_err-test_rising
unfolding test_starts
returns-in_err-test_rising c =
    goes_past (first-start (goal.at.returns-in_err-test_rising c).In_ok-refuse_if)
    (stops _ _ c.from_residual-in_err-test_rising.ensures.1 _ c.in_err-test_rising.ensures)

pub returns : goal.returns
unfolding test_starts
returns c =
    let n = c.row_count-n in
    let s = c.args in
    goes_past (first-start (goal.at.returns c).In_ok-refuse_if)
    (goes_past c.in_ok-test_rising.ensures
    (c.refuse_if-2.ensures
    ∙ ap (λ (x : ℕ). given (not (eqb x (length s.graph.columns.now))) 5 n.result) c.start_at-2.ensures
    ∙ ap (λ (i : ℕ). given (not (eqb (get_or s.graph.starts.now i 0) (length s.graph.columns.now))) 5 i) n.ensures))
