-- What was written is read as it was, and what was read is written as it was. Assumes nothing.
use mathlib.Core.Path.{◌≡◌, refl, sym, ap, ap₂, ◌∙◌, subst}
use mathlib.Core.Bool.{Bool, cond, false≢true}
use mathlib.Core.List.{List, [], ◌∷◌}
use Prim.Native.Nat.{ℕ, ◌≤◌, ◌<◌}
use native.Mathlib.Omega.{arith}
use borrow.Author.Tests.{eq-eqb}
use lib.Ieee.{Float, binary64, to_bits}
use lib.Ieee.Bits.{of_bits-to_bits}
use lib.ListN.{length, get_or, take}
use lib.Seq.{take-append_seam}
use Rattle.definition.specs.Numbers.{Params}
use Rattle.definition.specs.Refusals.{Verdict, accepted}
use Rattle.digits.specs.Placed.{put}
use Rattle.input.proofs.Accepted.{both_pass}
use Rattle.input.proofs.Verdicts.{test_passes, goes_on_lem}
use Rattle.printing.specs.Room.{Leaves, length_by, bytes_by}
use Rattle.printing.proofs.Leaving.{room-enough}
use Rattle.reading.specs.Grammar.{RunNumbers, Line, Right, RightLines, line_count, line_at, numbers_at, text_up_to}
use Rattle.reading.specs.ReadRun.{Read, run, fault, read_run, record_of, floats_of}
use Rattle.reading.proofs.Rest.{each_line}
use Rattle.reading.proofs.Runs.{run_complete, run_sound}
use Rattle.files.specs.RunText.{bits_of, numbers_of, run_text, test_file, test_run, test_write}
use Rattle.files.specs.RoundTrip.{Holds, Doubles, WrittenIsRead, ReadIsWritten}
use Rattle.files.proofs.Floats.{bits_again, bits_most, length-bits, bits_at, length_floats, take_floats, floats_bits, bits_floats}
use Rattle.files.proofs.Sized.{Sized, pass_both, pass_sizes, sized, file_passed, dims_of, graph_of_lem, params_of}
use Rattle.files.proofs.Fits.{text-fits}

-- a verdict that is no refusal: the text stands in the first bytes
pub taken-text : (v : Verdict) (text out : List ℕ) {verdict : Verdict} {count : ℕ} {after : List ℕ} → Leaves v text out verdict count after
    → v.number ≡ 0 → (count ≡ length text) × (take count after ≡ text)
unfolding length_by bytes_by
taken-text v text out w z =
    let yes = eq-eqb v.number 0 z in
    let n = w.counted ∙ ap (λ (b : Bool). cond b (length text) 0) yes in
    let l = w.bytes ∙ ap (λ (b : Bool). cond b (put text 0 out) out) yes in
    (n, ap₂ (λ (k : ℕ) (bytes : List ℕ). take k bytes) n l ∙ take-append_seam text _)

-- the only number of a line
only-right : (l : Line) (v : ℕ) → l.fewest ≤ 1 → 1 ≤ l.most → v ≤ l.largest → Right l (v ∷ [])
only-right l v p q r = record { fewest = p; most = q; largest = λ i h. let z : i ≡ 0 = omega arith in rw z r }

module _ (d : ℕ) (params : Params) (starts columns : List ℕ) (values : List Float) where
  abbrev numbers : RunNumbers
  numbers = numbers_of d params starts columns values

  abbrev text : List ℕ
  text = run_text d params starts columns values

  module _ (doubles : Doubles d params starts columns values) (passed : (test_run d params starts columns values).number ≡ 0) where
    -- its numbers are such that a run file may have them
    pub right-lines : RightLines numbers line_count
    right-lines =
        let s = sized d params starts columns values passed in
        let file = file_passed d params starts columns values passed in
        let g = graph_of_lem d params starts columns values file in
        let p = params_of d params starts columns values file in
        let n = dims_of d params starts columns values file in
        each_line (λ i. Right (line_at i) (numbers_at numbers i))
        (only-right (line_at 0) d (omega arith) (omega arith) (omega arith))
        (only-right (line_at 1) params.rounds (omega arith) (omega arith) (omega arith))
        (only-right (line_at 2) params.degree (omega arith) (omega arith) (omega arith))
        (only-right (line_at 3) (to_bits binary64 params.seed_std) (omega arith) (omega arith) (bits_most params.seed_std doubles.seed_std_fits))
        (record { fewest = omega arith; most = s.starts-most; largest = λ i h. omega (arith, g.rising.within i (omega arith) (omega arith)) })
        (record { fewest = omega arith; most = s.columns-most; largest = λ i h. omega (arith, g.below.below i (omega arith) h) })
        (record {
          fewest = omega arith;
          most = omega (arith, length-bits values);
          largest = λ i h.
              let q : i < length values = omega (arith, length-bits values) in rw (bits_at values i q) (bits_most (get_or values i _) (doubles.values_fit i q));
        })

    -- so its text is read as these numbers
    pub read_text : read_run text ≡ run numbers
    unfolding run_text
    read_text = run_complete text numbers (record { small = text-fits d params starts columns values passed; right = right-lines; text = refl })

    -- and the reader's record has each of them, floats by their bits
    held : Holds d params starts columns values (record_of (run numbers))
    unfolding record_of
    held = record {
      is_right = refl;
      dims = refl;
      rounds = refl;
      degree = refl;
      seed_std_lem = of_bits-to_bits binary64 params.seed_std doubles.seed_std_fits;
      starts_are = take-append_seam starts _;
      columns_are = take-append_seam columns _;
      values_are = take_floats (bits_of values) _ ∙ floats_bits values doubles.values_fit;
    }

    pub text-holds : Holds d params starts columns values (record_of (read_run text))
    text-holds = rw read_text held

  -- "Reading a written file gives the same graph and parameters bit for bit"
  pub written-is_read : (out : List ℕ) (verdict : Verdict) (count : ℕ) (after : List ℕ)
      → WrittenIsRead d params starts columns values out verdict count after
  unfolding test_write
  written-is_read out verdict count after doubles w z =
      let passed = test_passes w.judged z in
      rw (taken-text _ text out w passed).1 (text-holds doubles (both_pass _ _ passed).0)

  -- ---- numbers f were read, and what the record has of them passes 1 to 10
  module _ (f : RunNumbers) (right : RightLines f line_count) (holds : Holds d params starts columns values (record_of (run f)))
      (passed : (test_file d params starts columns values).number ≡ 0) where
    values_read : floats_of f.values ≡ values
    unfolding record_of
    values_read = sym (take_floats f.values _) ∙ holds.values_are

    -- finite floats have the bits that were read
    same-values : bits_of values ≡ f.values
    same-values =
        let g = graph_of_lem d params starts columns values passed in
        ap bits_of (sym values_read)
        ∙ bits_floats f.values (right 6 (omega arith)).largest
        (λ e q. rw values_read (g.finite e (omega (arith, ap length values_read, length_floats f.values))))

    same-seed_std : to_bits binary64 params.seed_std ≡ f.seed_std
    unfolding record_of
    same-seed_std =
        let e = holds.seed_std_lem in
        ap (to_bits binary64) (sym e)
        ∙ bits_again f.seed_std ((right 3 (omega arith)).largest 0 (omega arith)) (rw e (params_of d params starts columns values passed).finite)

    -- so the numbers to write are those that were read
    same_numbers : numbers ≡ f
    unfolding record_of
    same_numbers =
        let s : starts ≡ f.starts = sym holds.starts_are ∙ take-append_seam f.starts _ in
        let c : columns ≡ f.columns = sym holds.columns_are ∙ take-append_seam f.columns _ in
        let e = sym holds.dims in
        let r = sym holds.rounds in
        let g = sym holds.degree in
        λ i. record { d = e i; rounds = r i; degree = g i; seed_std = same-seed_std i; starts = s i; columns = c i; values = same-values i }

    -- and 17 is not met, since a run file has no larger ones
    sizes : Sized params.rounds (length starts) (length columns) (length values)
    sizes =
        let r = subst (λ (h : RunNumbers). RightLines h line_count) (sym same_numbers) right in
        record {
          rounds-most = (r 1 (omega arith)).largest 0 (omega arith);
          starts-most = (r 4 (omega arith)).most;
          columns-most = (r 5 (omega arith)).most;
          values-most = omega (arith, (r 6 (omega arith)).most, length-bits values);
        }

    run-passes : (test_run d params starts columns values).number ≡ 0
    unfolding test_run
    run-passes = pass_both _ _ (pass_sizes _ _ _ _ sizes) passed

  -- "writing an accepted file again gives its own bytes"
  pub read_is-written : (out : List ℕ) (verdict : Verdict) (count : ℕ) (after bytes : List ℕ)
      → ReadIsWritten d params starts columns values out verdict count after bytes
  unfolding run_text test_write record_of
  read_is-written out verdict count after bytes holds passed enough w = go (read_run bytes) refl holds
    where
      go : (x : Read) → read_run bytes ≡ x → Holds d params starts columns values (record_of x)
          → (verdict ≡ accepted) × (count ≡ length bytes) × (take count after ≡ bytes)
      go (fault k) e h = absurd (false≢true h.is_right)
      go (run f) e h =
          let is = run_sound bytes f e in
          let same : text ≡ bytes = ap (λ (g : RunNumbers). text_up_to g line_count) (same_numbers f is.right h passed) ∙ sym is.text in
          let fits = room-enough text out (omega (arith, ap length same)) in
          let taken : test_write d params starts columns values out ≡ accepted = sym (goes_on_lem refl (run-passes f is.right h passed) (sym fits)) in
          let t = taken-text _ text out w (ap (λ (v : Verdict). v.number) taken) in
          (w.judged ∙ taken, t.0 ∙ ap length same, t.1 ∙ same)
