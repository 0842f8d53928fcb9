-- The theorem on accepted files: what the call leaves in front of the lists is a graph that passes 2 to 7, has no column twice in a row, and is
-- symmetric. Assumes nothing.
use mathlib.Core.Bool.{Bool, true, false, cond, false≢true}
use mathlib.Core.List.{List}
use mathlib.Core.Path.{◌≡◌, refl, sym, ap, ◌∙◌}
use Prim.Native.Nat.{ℕ, suc, ◌+◌, ◌≤◌}
use native.Mathlib.Omega.{arith}
use borrow.Author.Tests.{eqb-true}
use lib.Ieee.{Float, nan}
use lib.ListN.{length, take, drop, length-replicate, get_or-replicate}
use lib.Seq.{length-take-le, get_or-take, take-append_seam, ext_get_or}
use Rattle.definition.specs.Refusals.{Verdict, or_else, passes}
use Rattle.definition.proofs.Fill.{same_or, fill_length, fill_in}
use Rattle.input.proofs.Accepted.{both_pass}
use Rattle.market.specs.Market.{Entry, Read, market, fault}
use Rattle.market.specs.Graph.{start_of, columns_of, placed_of, one, with_starts, with_columns, with_values}
use Rattle.mirrored.specs.Graph.{starts_of, values_of, Symmetric}
use Rattle.mirrored.proofs.Graph.{starts-length, start-at, graph_symmetric}
use Rattle.mirrored.proofs.Rows.{front}
use Rattle.matrix_market.specs.Accepted.{LeavesSymmetric}
use Rattle.matrix_market.specs.Outcome.{test_limits, test_room, outcome, test_read, outcome_by, outcome_of}
use Rattle.matrix_market.proofs.Sizes.{kept_of, room_of_lem}

-- ---- the front of a filled list

front-starts : (n : ℕ) (es : List Entry) (starts : List ℕ) → n + 1 ≤ length starts → take (n + 1) (with_starts n es starts) ≡ starts_of n es
front-starts n es starts h =
    let size = fill_length 0 (n + 1) (start_of n es) starts in
    let long : n + 1 ≤ length (with_starts n es starts) = omega arith in
    let same = length-take-le (n + 1) (with_starts n es starts) long in
    ext_get_or 0 _ _ (omega (arith, same, starts-length n es 0 (suc n)))
    (λ i p. get_or-take (n + 1) (with_starts n es starts) i 0 (omega (arith, same))
    ∙ fill_in 0 (n + 1) (start_of n es) starts i 0 (omega arith) (omega (arith, same)) (omega (arith, same))
    ∙ sym (start-at n es i (omega (arith, same))))

front-columns : (n : ℕ) (es : List Entry) (columns : List ℕ) → placed_of n es ≤ length columns → take (placed_of n es) (with_columns n es columns) ≡ columns_of n es
unfolding start_of
front-columns n es columns h = ap (take (placed_of n es)) (front (columns_of n es) columns h) ∙ take-append_seam (columns_of n es) (drop (placed_of n es) columns)

front-values : (n : ℕ) (es : List Entry) (values : List Float) → placed_of n es ≤ length values → take (placed_of n es) (with_values n es values) ≡ values_of n es
front-values n es values h =
    let size = fill_length 0 (placed_of n es) (λ p. one) values in
    let long : placed_of n es ≤ length (with_values n es values) = omega arith in
    let same = length-take-le (placed_of n es) (with_values n es values) long in
    ext_get_or nan _ _ (omega (arith, same, length-replicate (placed_of n es) one))
    (λ i p. get_or-take (placed_of n es) (with_values n es values) i nan (omega (arith, same))
    ∙ fill_in 0 (placed_of n es) (λ p. one) values i nan (omega arith) (omega (arith, same)) (omega (arith, same))
    ∙ sym (get_or-replicate (placed_of n es) i one nan (omega (arith, same))))

-- ---- both tests passed

module _ (n : ℕ) (es : List Entry) (starts columns : List ℕ) (values : List Float) (v : Verdict)
    (is : v ≡ or_else (test_limits n (placed_of n es)) (test_room n (placed_of n es) (length starts) (length columns) (length values))) where
  placed_symmetric : v.number ≡ 0 → Symmetric n (take (n + 1) (with_starts n es starts)) (take (placed_of n es) (with_columns n es columns)) (take (placed_of n es) (with_values n es values))
  placed_symmetric h =
      let both = both_pass (test_limits n (placed_of n es)) (test_room n (placed_of n es) (length starts) (length columns) (length values)) (ap (λ (x : Verdict). x.number) (sym is) ∙ h) in
      let k = kept_of n (placed_of n es) both.0 in
      let q = room_of_lem n (placed_of n es) (length starts) (length columns) (length values) both.1 in
      let least : 1 ≤ n = same_or n 0 (λ e. absurd (k.some e)) (λ e. omega arith) in
      rw (front-starts n es starts q.0, front-columns n es columns q.1, front-values n es values q.2) (graph_symmetric n es least k.rows k.entries)

  by-verdict : (b : Bool) → passes v ≡ b
      → passes (cond b (outcome v n (placed_of n es) (with_starts n es starts) (with_columns n es columns) (with_values n es values)) (outcome v 0 0 starts columns values)).verdict ≡ true
      → LeavesSymmetric (cond b (outcome v n (placed_of n es) (with_starts n es starts) (with_columns n es columns) (with_values n es values)) (outcome v 0 0 starts columns values))
  by-verdict true e h = placed_symmetric (eqb-true _ _ e)
  by-verdict false e h = absurd (false≢true (sym e ∙ h))

pub accepted_symmetric : (r : Read) (starts columns : List ℕ) (values : List Float) → passes (outcome_of r starts columns values).verdict ≡ true
    → LeavesSymmetric (outcome_of r starts columns values)
unfolding test_read outcome_by
accepted_symmetric (fault k) starts columns values h = absurd (false≢true h)
accepted_symmetric (market n es) starts columns values h =
    by-verdict n es starts columns values _ refl
    (passes (or_else (test_limits n (placed_of n es)) (test_room n (placed_of n es) (length starts) (length columns) (length values)))) refl h
