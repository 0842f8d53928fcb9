-- Each test passes until one refuses, and no mark is read before there are known to be enough.
use mathlib.Core.Path.{◌≡◌, sym, ap, ◌∙◌}
use mathlib.Core.Bool.{true}
use native.Mathlib.Omega.{arith}
use lib.ListN.{length}
use Rattle.definition.specs.Arith.{ieee64}
use Rattle.definition.specs.Marks as marks
use Rattle.definition.specs.Refusals.{refused, first_from}
use Rattle.input.specs.Said.{verdict_in}
use Rattle.input.proofs.Verdicts.{exits, numbered}
use Rattle.machine.specs.State.{Lent, chunk_count}
use Rattle.machine.specs.Ranges.{state_sound, is_open, lists_sound}
use Rattle.state.specs.Said.{asked_in, state_in, lists_of}
use Rattle.guard.specs.Rows.{other_lengths}
use Rattle.guard.proofs.Begun.{begun-same, begun-passed, begun-enough}
use Rattle.guard.proofs.Lengths.{Enough}
use Rattle.guard.proofs.Verdicts.{close-begun, close-unsound, close-undone, close-taken}
use Rattle.guard.proofs.tests.test_close.Goals as goal
use Rattle.guard.proofs.tests.test_close.Goals.{In_ok-test_begun, After-marks_sound, After-first_undone-lowest}

-- what the first tests have shown
passed : (c : In_ok-test_begun) → let s = c.args in (m : Lent ieee64) → m.edge_columns ≡ s.edge_columns.now → other_lengths m ≡ s.lengths
    → (state_sound ieee64 (state_in s.state) ≡ true) × (is_open ieee64 (state_in s.state) ≡ true)
    × (lists_sound ieee64 (state_in s.state) (lists_of s.graph) m s.marks.now ≡ true)
passed c = let s = c.args in begun-passed (state_in s.state) (lists_of s.graph) s.edge_columns.now s.marks.now s.lengths c.own_lengths-own.ensures c.in_ok-test_begun.ensures

enough : (c : In_ok-test_begun) → let s = c.args in
    Enough (asked_in s.state.asked) (lists_of s.graph) (length s.edge_columns.now) (length s.marks.now)
enough c = let s = c.args in begun-enough (state_in s.state) (lists_of s.graph) s.edge_columns.now s.marks.now s.lengths c.own_lengths-own.ensures c.in_ok-test_begun.ensures

-- the code's count of chunks is the machine's
marks-sound : (c : After-marks_sound) → let s = c.args in
    c.marks_sound.result ≡ marks.sound s.marks.now (chunk_count (asked_in s.state.asked))
marks-sound c = c.marks_sound.ensures ∙ ap (marks.sound c.args.marks.now) c.chunk_count-chunks.ensures

lowest : (c : After-first_undone-lowest) → let s = c.args in
    c.first_undone-lowest.result ≡ first_from (marks.undone s.marks.now) 0 (chunk_count (asked_in s.state.asked))
lowest c = c.first_undone-lowest.ensures ∙ ap (first_from (marks.undone c.args.marks.now) 0) c.chunk_count-chunks.ensures

pub returns-in_err-test_begun : goal.returns-in_err-test_begun
returns-in_err-test_begun c =
    let s = c.args in
    λ m e l. ap verdict_in (exits _ _ c.from_residual.ensures.1)
    ∙ close-begun _ _ _ _ _ (numbered _) (c.in_err-test_begun.ensures ∙ begun-same (state_in s.state) (lists_of s.graph) s.edge_columns.now s.marks.now s.lengths c.own_lengths-own.ensures m e l)

pub marks_sound-requires : goal.marks_sound-requires
marks_sound-requires c = omega (arith, (enough (goal.at.marks_sound-requires c).In_ok-test_begun).marks, c.chunk_count-chunks.ensures)

pub returns-then-not-marks_sound : goal.returns-then-not-marks_sound
returns-then-not-marks_sound c =
    let at = goal.at.returns-then-not-marks_sound c in
    λ m e l. let t = passed at.In_ok-test_begun m e l in
    close-unsound _ _ _ _ t.0 t.1 t.2 (sym (marks-sound at.After-marks_sound) ∙ c.if-not-marks_sound.true)

pub first_undone-lowest-requires : goal.first_undone-lowest-requires
first_undone-lowest-requires c = omega (arith, (enough (goal.at.first_undone-lowest-requires c).In_ok-test_begun).marks, c.chunk_count-chunks.ensures)

pub returns-then-lowest-chunks : goal.returns-then-lowest-chunks
returns-then-lowest-chunks c =
    let at = goal.at.returns-then-lowest-chunks c in
    let q = lowest at.After-first_undone-lowest in
    λ m e l. let t = passed at.In_ok-test_begun m e l in
    ap (refused 14) q
    ∙ close-undone _ _ _ _ t.0 t.1 t.2 (sym (marks-sound at.After-marks_sound) ∙ c.if-not-marks_sound.false) (omega (arith, q, c.if-lowest-chunks.true, c.chunk_count-chunks.ensures))

pub returns : goal.returns
returns c =
    let at = goal.at.returns c in
    let q = lowest at.After-first_undone-lowest in
    λ m e l. let t = passed at.In_ok-test_begun m e l in
    close-taken _ _ _ _ t.0 t.1 t.2 (sym (marks-sound at.After-marks_sound) ∙ c.if-not-marks_sound.false) (omega (arith, q, c.if-lowest-chunks.false, c.chunk_count-chunks.ensures))
