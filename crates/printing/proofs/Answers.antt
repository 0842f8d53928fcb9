-- The second writer: what it tests, what it prints, and that it fits. Assumes nothing.
use mathlib.Core.Path.{◌≡◌, refl, sym, ap, ◌∙◌}
use mathlib.Core.Bool.{Bool, true, false, cond}
use mathlib.Core.List.{List}
use Prim.Native.Nat.{ℕ, ◌+◌, ◌*◌, ◌≤◌, ◌<◌}
use native.Mathlib.Omega.{arith}
use borrow.Author.Tests.{lt-ltb, le-ltb, ltb-false, eq-eqb, ne_eqb, eqb-true, eqb-false}
use lib.Dec.{eqb, ltb}
use lib.Ieee.{Float, nan}
use lib.ListN.{length, get_or, length-append}
use Rattle.std.specs.Prelude.{Result, Ok, Err, IsOk}
use Rattle.definition.specs.Numbers.{dims_most}
use Rattle.definition.specs.Refusals.{Verdict, accepted, refused, given, test_dims}
use Rattle.definition.specs.SpectralEmbedding.{Counts}
use Rattle.digits.specs.Placed.{put}
use Rattle.input.specs.declared.refusal.Refusal.{Refusal}
use Rattle.input.proofs.Accepted.{no-fault, both_pass, dims_valid}
use Rattle.input.proofs.Verdicts.{numbered, goes_on_lem, faulty, faultless, faulty_first, faultless_first}
use Rattle.printing.specs.Printed.{answer_name, at_name, refusal_text, head_text, rows_text, seed_text, room}
use Rattle.printing.specs.Answer.{rows_most, test_seed, test_printed, answer_text, test_answer}
use Rattle.printing.specs.Room.{length_by, bytes_by, judged_in, length_in, Leaves}
use Rattle.printing.proofs.Leaving.{room-enough}
use Rattle.printing.proofs.Texts.{pair_most, head-most, rows-most}

-- ---- the seed's tests, one after the other
module _ (d n numbers : ℕ) {dims : Verdict} (e : dims ≡ test_dims d) (z : dims.number ≡ 0) where
  pub no_rows : n ≡ 0 → refused 2 0 ≡ test_seed d n numbers
  unfolding test_seed
  no_rows h = goes_on_lem e z (faulty_first (eqb n 0) 1 0 _ (eq-eqb n 0 h) refl)

  pub many_rows : rows_most < n → refused 17 0 ≡ test_seed d n numbers
  unfolding test_seed
  many_rows h =
      goes_on_lem e z (faultless_first (eqb n 0) 2 0 (ne_eqb n 0 (omega arith)) (faulty_first (ltb rows_most n) 16 0 _ (lt-ltb rows_most n h) refl))

  module _ (some : n ≡ 0 → ⊥) (few : n ≤ rows_most) where
    short_left : {v : Verdict} → v ≡ given (ltb numbers (n * d)) 11 9 → v ≡ test_seed d n numbers
    unfolding test_seed
    short_left g = goes_on_lem e z (faultless_first (eqb n 0) 2 0 (ne_eqb n 0 some) (faultless_first (ltb rows_most n) 17 0 (le-ltb rows_most n few) g))

    pub short-seed : numbers < n * d → refused 11 9 ≡ test_seed d n numbers
    short-seed h = short_left (faulty (ltb numbers (n * d)) 10 9 (lt-ltb numbers (n * d) h) refl)

    pub right-seed : n * d ≤ numbers → accepted ≡ test_seed d n numbers
    right-seed h = short_left (faultless (ltb numbers (n * d)) 11 9 (le-ltb numbers (n * d) h) refl)

-- a seed that passes
pub record Printable (d n numbers : ℕ) : Type 0 where
  pub dims : d ≤ dims_most
  pub rows : n ≤ rows_most
  pub long : n * d ≤ numbers

seed_valid : (d n numbers : ℕ) → (test_seed d n numbers).number ≡ 0 → Printable d n numbers
unfolding test_seed
seed_valid d n numbers h =
    let first = both_pass _ _ h in
    let second = both_pass _ _ first.1 in
    let third = both_pass _ _ second.1 in
    record {
      dims = (dims_valid d first.0).1;
      rows = ltb-false rows_most n (no-fault _ 16 0 third.0);
      long = ltb-false numbers (n * d) (no-fault _ 10 9 third.1);
    }

-- ---- by the verdict
module _ (v : Verdict) (d n : ℕ) where
  pub refusal_tests : (numbers : ℕ) → (v.number ≡ 0 → ⊥) → accepted ≡ test_printed v d n numbers
  unfolding test_printed
  refusal_tests numbers f = sym (ap (λ (b : Bool). cond b (test_seed d n numbers) accepted) (ne_eqb v.number 0 f))

  pub seed_tests : (numbers : ℕ) → v.number ≡ 0 → test_seed d n numbers ≡ test_printed v d n numbers
  unfolding test_printed
  seed_tests numbers z = sym (ap (λ (b : Bool). cond b (test_seed d n numbers) accepted) (eq-eqb v.number 0 z))

  pub seed_passed : {numbers : ℕ} → v.number ≡ 0 → (test_printed v d n numbers).number ≡ 0 → Printable d n numbers
  seed_passed {numbers} z h = seed_valid d n numbers (ap (λ (t : Verdict). t.number) (seed_tests numbers z) ∙ h)

  module _ (counts : Counts) (seed : List Float) where
    abbrev seed-lines : List ℕ
    seed-lines = seed_text n d counts (λ i c. get_or seed (i * d + c) nan)

    pub refusal-says : (v.number ≡ 0 → ⊥) → refusal_text v.number v.place ≡ answer_text v d n counts seed
    unfolding answer_text
    refusal-says f = sym (ap (λ (b : Bool). cond b seed-lines (refusal_text v.number v.place)) (ne_eqb v.number 0 f))

    pub seed-says : v.number ≡ 0 → seed-lines ≡ answer_text v d n counts seed
    unfolding answer_text
    seed-says z = sym (ap (λ (b : Bool). cond b seed-lines (refusal_text v.number v.place)) (eq-eqb v.number 0 z))

    -- ---- what is printed fits
    pub answer_fits : (test_printed v d n (length seed)).number ≡ 0 → length (answer_text v d n counts seed) ≤ room
    unfolding refusal_text seed_text
    answer_fits h = go (eqb v.number 0) refl
      where
        go : (b : Bool) → eqb v.number 0 ≡ b → length (answer_text v d n counts seed) ≤ room
        go true e =
            let z = eqb-true v.number 0 e in
            let ok = seed_passed z h in
            let rows : ℕ → ℕ → Float = λ i c. get_or seed (i * d + c) nan in
            omega (
              arith,
              ap length (seed-says z),
              length-append (head_text n counts) (rows_text rows d n),
              head-most n counts,
              rows-most rows d n ok.dims,
              ok.rows,
            )
        go false e =
            omega (arith, ap length (refusal-says (eqb-false v.number 0 e)), pair_most answer_name v.number at_name v.place)

    -- so that where there is room for every text it is never refused
    never_refused : (out : List ℕ) → (test_printed v d n (length seed)).number ≡ 0 → room ≤ length out → test_answer v d n counts seed out ≡ accepted
    unfolding test_answer
    never_refused out h l = sym (goes_on_lem refl h (sym (room-enough (answer_text v d n counts seed) out (omega (arith, answer_fits h)))))

    -- w is what the writer answered
    pub answer-written : (out : List ℕ) (w : Result ℕ Refusal) {after : List ℕ} → (test_printed v d n (length seed)).number ≡ 0 → room ≤ length out
        → Leaves (test_answer v d n counts seed out) (answer_text v d n counts seed) out (judged_in w) (length_in w) after → IsOk w
    answer-written out (Ok count) h l left = refl
    answer-written out (Err r) h l left = absurd (numbered r (ap (λ (t : Verdict). t.number) (left.judged ∙ never_refused out h l)))

    pub answer_left : (out : List ℕ) {w : Result ℕ Refusal} {count : ℕ} {after : List ℕ} → w ≡ Ok count → (test_printed v d n (length seed)).number ≡ 0 → room ≤ length out
        → Leaves (test_answer v d n counts seed out) (answer_text v d n counts seed) out (judged_in w) (length_in w) after
        → (count ≡ length (answer_text v d n counts seed)) × (count ≤ room) × (after ≡ put (answer_text v d n counts seed) 0 out)
    unfolding length_by bytes_by
    answer_left out is h l left =
        let text = answer_text v d n counts seed in
        let whole = sym (ap length_in is) ∙ left.counted ∙ ap (λ (t : Verdict). length_by t text) (never_refused out h l) in
        (whole, omega (arith, whole, answer_fits h), left.bytes ∙ ap (λ (t : Verdict). bytes_by t text out) (never_refused out h l))

-- for `#[tactic(auto, using(..))]` on `test_printed`
pub ruleset printed_laws = (refusal_tests, seed_tests)
