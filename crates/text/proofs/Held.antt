-- What the reader's record holds is the run file, and what is printed for it is its answer. Assumes nothing.
use mathlib.Core.Path.{◌≡◌, refl, sym, ap, ap₂, ◌∙◌, subst}
use mathlib.Core.Bool.{Bool, true, false, cond, false≢true}
use mathlib.Core.List.{List}
use Prim.Native.Nat.{ℕ, ◌-◌, ◌≤◌, ◌<◌}
use native.Mathlib.Omega.{arith}
use borrow.Author.Tests.{le-leb, lt-leb}
use lib.Dec.{leb}
use lib.Ieee.{Float}
use lib.ListN.{length, take, replicate, length-replicate, length-append, length-take}
use lib.Seq.{take-append_seam}
use Rattle.definition.specs.Refusals.{Verdict, refused}
use Rattle.definition.specs.SpectralEmbedding.{Counts}
use Rattle.digits.specs.Placed.{put}
use Rattle.std.specs.Prelude.{Some, None, Result, Ok, IsOk}
use Rattle.std.specs.Option.{unwrap_or}
use Rattle.files.proofs.Floats.{length_floats, take_floats}
use Rattle.input.specs.declared.refusal.Refusal.{Refusal}
use Rattle.input.proofs.Verdicts.{test_passes}
use Rattle.printing.specs.Printed.{refusal_text, room}
use Rattle.printing.specs.Room.{judged_in, length_in, Leaves}
use Rattle.printing.specs.Answer as printing
use Rattle.printing.specs.Answer.{test_printed, test_answer}
use Rattle.printing.proofs.Answers.{refusal_tests, refusal-says, answer-written, answer_left}
use Rattle.printing.proofs.Leaving.{same_text}
use Rattle.reading.specs.Grammar.{starts_most, entries_most, rounds_most}
use Rattle.reading.specs.ReadRun.{Read, run, fault, read_run, record_of, floats_of, padded}
use Rattle.reading.specs.declared.RunFile.{RunFile}
use Rattle.reading.proofs.Runs.{run_sound}
use Rattle.text.specs.Small.{answer_of}
use Rattle.text.specs.Answer.{params_in, answer_held, answer_for, answer_text, answered, placed, answered_length}

-- ---- padded lists
padded-length : (most : ℕ) (vs : List ℕ) → length vs ≤ most → length (padded most vs) ≡ most
padded-length most vs l =
    let zeros : List ℕ = replicate (most - length vs) 0 in
    let z : length zeros ≡ most - length vs = length-replicate (most - length vs) 0 in
    length-append vs zeros ∙ omega (arith, z)

-- a part from the start has the length asked
pub part_length : {A : Type 0} (n : ℕ) (l : List A) → n ≤ length l → n ≡ length (take n l)
part_length n l h = sym (length-take n l ∙ omega (arith, h))

-- ---- a record of the reader
-- the sizes of what was read
abbrev Sized : Read → Type 0
Sized (run f) = (length f.starts ≤ starts_most) × (length f.columns ≤ entries_most) × (length f.values ≤ entries_most) × (f.rounds ≤ rounds_most)
Sized (fault k) = Unit {0}

sized : (bytes : List ℕ) → Sized (read_run bytes)
sized bytes = go (read_run bytes) refl
  where
    go : (x : Read) → read_run bytes ≡ x → Sized x
    go (run f) e = let r = (run_sound bytes f e).right in ((r 4 (omega arith)).most, (r 5 (omega arith)).most, (r 6 (omega arith)).most, (r 1 (omega arith)).largest 0 (omega arith))
    go (fault k) e = tt

-- what a right record holds, so that its parts can be lent on, and whose answer it has
pub record Right (file : RunFile) (text : List ℕ) : Type 0 where
  pub counts : (file.start_count ≤ 65) × (file.column_count ≤ 1024) × (file.value_count ≤ 1024)
  pub rounds : file.rounds ≤ 400
  pub starts : length file.starts ≡ 65
  pub columns : length file.columns ≡ 1024
  pub values : length file.values ≡ 1024
  pub says : answer_held file ≡ text

right_read : (x : Read) → Sized x → (record_of x).is_right ≡ true → Right (record_of x) (answer_for x)
unfolding record_of
right_read (run f) z e = record {
  counts = (z.0, z.1, z.2);
  rounds = z.3;
  starts = padded-length starts_most f.starts z.0;
  columns = padded-length entries_most f.columns z.1;
  values = length_floats (padded entries_most f.values) ∙ padded-length entries_most f.values z.2;
  says =
      ap₂ (λ (starts columns : List ℕ). answer_of f.d (params_in f) starts columns (take (length f.values) (floats_of (padded entries_most f.values))))
      (take-append_seam f.starts (replicate (starts_most - length f.starts) 0)) (take-append_seam f.columns (replicate (entries_most - length f.columns) 0))
      ∙ ap (λ (values : List Float). answer_of f.d (params_in f) f.starts f.columns values) (take_floats f.values (replicate (entries_most - length f.values) 0));
}
right_read (fault k) z e = absurd (false≢true e)

fault_read : (x : Read) → (record_of x).is_right ≡ false → refusal_text 17 (record_of x).line ≡ answer_for x
unfolding record_of
fault_read (run f) e = absurd (false≢true (sym e))
fault_read (fault k) e = refl

module _ (bytes : List ℕ) {file : RunFile} (e : file ≡ record_of (read_run bytes)) where
  pub right-held : file.is_right ≡ true → Right file (answer_text bytes)
  unfolding answer_text
  right-held t = subst (λ (r : RunFile). Right r (answer_for (read_run bytes))) (sym e) (right_read (read_run bytes) (sized bytes) (sym (ap (λ (r : RunFile). r.is_right) e) ∙ t))

  pub fault-held : file.is_right ≡ false → refusal_text 17 file.line ≡ answer_text bytes
  unfolding answer_text
  fault-held t = ap (λ (r : RunFile). refusal_text 17 r.line) e ∙ fault_read (read_run bytes) (sym (ap (λ (r : RunFile). r.is_right) e) ∙ t)

-- ---- what the second writer prints of a fault
module _ (line : ℕ) (counts : Counts) (seed : List Float) (out : List ℕ) {v : Verdict} (e : v ≡ refused 17 line) where
  is_refusal : v.number ≡ 0 → ⊥
  is_refusal z = absurd (omega (arith, ap (λ (x : Verdict). x.number) e))

  printed : (test_printed v 0 0 (length seed)).number ≡ 0
  printed = test_passes (refusal_tests v 0 0 (length seed) is_refusal) refl

  -- w is what it answered
  module _ (w : Result ℕ Refusal) {after : List ℕ} (long : room ≤ length out)
      (left : Leaves (test_answer v 0 0 counts seed out) (printing.answer_text v 0 0 counts seed) out (judged_in w) (length_in w) after) where
    pub fault-written : IsOk w
    fault-written = answer-written v 0 0 counts seed out w printed long left

    pub fault_printed : {count : ℕ} → w ≡ Ok count
        → (count ≡ length (refusal_text 17 line)) × (count ≤ room) × (after ≡ put (refusal_text 17 line) 0 out)
    fault_printed is =
        same_text out (sym (refusal-says v 0 0 counts seed is_refusal) ∙ ap (λ (x : Verdict). refusal_text x.number x.place) e)
        (answer_left v 0 0 counts seed out is printed long left)

-- ---- what `answer` answers and leaves
module _ (bytes out : List ℕ) where
  pub answered-text : {text after : List ℕ} {r : ℕ} → room ≤ length out → text ≡ answer_text bytes → (r ≡ length text) × (r ≤ room) × (after ≡ put text 0 out)
      → (Some r ≡ answered bytes out) × (after ≡ placed bytes out)
  unfolding answered placed
  answered-text l e h =
      let fits = le-leb room (length out) l in (
        ap Some (h.0 ∙ ap length e) ∙ sym (ap (λ (b : Bool). cond b (Some (length (answer_text bytes))) None) fits),
        h.2 ∙ ap (λ (t : List ℕ). put t 0 out) e ∙ sym (ap (λ (b : Bool). cond b (put (answer_text bytes) 0 out) out) fits),
      )

  pub answered-short : length out < room → (None ≡ answered bytes out) × (out ≡ placed bytes out)
  unfolding answered placed
  answered-short l =
      let fits = lt-leb room (length out) l in (
        sym (ap (λ (b : Bool). cond b (Some (length (answer_text bytes))) None) fits),
        sym (ap (λ (b : Bool). cond b (put (answer_text bytes) 0 out) out) fits),
      )

  -- the same as a length, 0 for none
  pub length-is : unwrap_or (answered bytes out) 0 ≡ answered_length bytes out
  unfolding answered answered_length
  length-is = go (leb room (length out))
    where
      go : (b : Bool) → unwrap_or (cond b (Some (length (answer_text bytes))) None) 0 ≡ cond b (length (answer_text bytes)) 0
      go true = refl
      go false = refl
