-- Each test passes until one refuses, and no list is read before it is known to be long enough.
use mathlib.Core.Path.{◌≡◌, sym, ap, ◌∙◌}
use mathlib.Core.Bool.{true}
use mathlib.Core.List.{List}
use Prim.Native.Nat.{ℕ}
use native.Mathlib.Omega.{arith}
use lib.ListN.{length}
use Rattle.definition.specs.Arith.{ieee64}
use Rattle.input.specs.Said.{verdict_in}
use Rattle.input.proofs.Verdicts.{exits, numbered}
use Rattle.machine.specs.State.{Lent}
use Rattle.machine.specs.Ranges.{state_sound, is_open, lists_sound}
use Rattle.state.specs.Said.{asked_in, state_in, lists_of}
use Rattle.guard.specs.Rows.{own_test, other_lengths}
use Rattle.guard.proofs.Begun.{begun-same, begun-passed, begun-asked, begun-enough}
use Rattle.guard.proofs.Lengths.{Enough}
use Rattle.guard.proofs.Verdicts.{chunk-begun, chunk_beyond, chunk-own}
use Rattle.guard.proofs.tests.test_chunk.Goals as goal
use Rattle.guard.proofs.tests.test_chunk.Goals.{In_ok-test_begun}

-- what the first tests have shown
passed : (c : In_ok-test_begun) → let s = c.args in (m : Lent ieee64) → m.edge_columns ≡ s.edge_columns.now → other_lengths m ≡ s.lengths
    → (state_sound ieee64 (state_in s.state) ≡ true) × (is_open ieee64 (state_in s.state) ≡ true)
    × (lists_sound ieee64 (state_in s.state) (lists_of s.graph) m s.marks.now ≡ true)
passed c = let s = c.args in begun-passed (state_in s.state) (lists_of s.graph) s.edge_columns.now s.marks.now s.lengths c.own_lengths-own.ensures c.in_ok-test_begun.ensures

enough : (c : In_ok-test_begun) → let s = c.args in
    Enough (asked_in s.state.asked) (lists_of s.graph) (length s.edge_columns.now) (length s.marks.now)
enough c = let s = c.args in begun-enough (state_in s.state) (lists_of s.graph) s.edge_columns.now s.marks.now s.lengths c.own_lengths-own.ensures c.in_ok-test_begun.ensures

pub returns-in_err-test_begun : goal.returns-in_err-test_begun
returns-in_err-test_begun c =
    let s = c.args in
    λ m e l. ap verdict_in (exits _ _ c.from_residual.ensures.1)
    ∙ chunk-begun _ _ _ _ _ _ (numbered _) (c.in_err-test_begun.ensures ∙ begun-same (state_in s.state) (lists_of s.graph) s.edge_columns.now s.marks.now s.lengths c.own_lengths-own.ensures m e l)

pub returns-then-chunk_count-number : goal.returns-then-chunk_count-number
returns-then-chunk_count-number c =
    λ m e l. let t = passed (goal.at.returns-then-chunk_count-number c).In_ok-test_begun m e l in
    chunk_beyond _ _ _ _ _ t.0 t.1 t.2 (omega (arith, c.if-chunk_count-number.true, c.chunk_count.ensures))

pub invariant_of-a : goal.invariant_of-a
invariant_of-a c =
    let s = c.args in
    record { ready = begun-asked (state_in s.state) (lists_of s.graph) s.edge_columns.now s.marks.now s.lengths c.own_lengths-own.ensures c.in_ok-test_begun.ensures }

pub test_own-requires : goal.test_own-requires
test_own-requires c =
    let s = c.args in
    let e = enough (goal.at.test_own-requires c).In_ok-test_begun in
    record {
      chunk_lists = record {
        asked = begun-asked (state_in s.state) (lists_of s.graph) s.edge_columns.now s.marks.now s.lengths c.own_lengths-own.ensures c.in_ok-test_begun.ensures;
        chunk = omega (arith, c.if-chunk_count-number.false, c.chunk_count.ensures);
        starts-enough = e.starts;
        columns-enough = e.columns;
        edge-columns-enough = e.edge-columns;
      };
      h_in_bounds = omega (arith, e.marks, c.if-chunk_count-number.false, c.chunk_count.ensures);
    }

pub returns : goal.returns
returns c =
    let s = c.args in
    λ m e l. let t = passed (goal.at.returns c).In_ok-test_begun m e l in
    c.test_own.ensures
    ∙ ap (λ (x : List ℕ). own_test s.state.progress.stage (asked_in s.state.asked) s.graph.starts.now s.graph.columns.now x s.marks.now s.number) (sym e)
    ∙ chunk-own _ _ _ _ _ t.0 t.1 t.2 (omega (arith, c.if-chunk_count-number.false, c.chunk_count.ensures))
