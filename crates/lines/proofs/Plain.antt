-- Laws of plain lines, two numbers with one blank between them: digits read one by one, where such a line ends, and what it says. Assumes nothing.
use mathlib.Core.Path.{◌≡◌, refl, sym, ap, ap₂, ◌∙◌}
use mathlib.Core.Logic.{⊎_elim}
use mathlib.Core.Bool.{Bool, true, false, cond, ◌&&◌}
use mathlib.Core.List.{List, [], ◌∷◌, ◌++◌, append-nil}
use Prim.Native.Nat.{ℕ, suc, ◌+◌, ◌-◌, ◌*◌, ◌≤◌, ◌<◌}
use native.Mathlib.Omega.{arith}
use borrow.Author.Tests.{le-leb, le-ltb, ne_eqb, eqb-true}
use lib.Dec.{leb, eqb}
use lib.ListN.{length, get_or, take, drop, length-append, length-drop, get_or-append}
use lib.Seq.{take-suc, drop_at, get_or-drop}
use Rattle.digits.specs.Digits.{part, every, is_digit}
use Rattle.digits.proofs.Bytes.{both, either_of, digit_range}
use Rattle.digits.proofs.Lists.{every_append, every_one, every_cons, every-at, part-split, part_length}
use Rattle.digits.proofs.Decimals.{value_append, value-one, value_nil}
use Rattle.lines.specs.Lines.{begins, is_blank, goes_on, words_of}
use Rattle.lines.specs.Kinds.{bytes_most, largest, value_of, is_number, are_numbers, kind_by, numbers_in, kind_of, kinds_at}
use Rattle.lines.specs.Read.{ReadsLine}
use Rattle.lines.specs.Parts.{run, line_goes_on, line_at, end_length, ReadsDigits}
use Rattle.lines.specs.declared.Kind.TheVariants.{Entry, Other}
use Rattle.lines.proofs.Runs.{here, run_on, run_off, at_front}
use Rattle.lines.proofs.Ends.{goes_other, begins-at, next-within, next-on, line_kinds}
use Rattle.lines.proofs.Words.{word_on, word_off, word_end, words_end, words_blank, first_word}
use Rattle.lines.proofs.Numbers.{every_nil, no_blank, kind_by_lem}

-- ---- digits, one by one
pub digits-none : (text : List ℕ) (from : ℕ) → ReadsDigits text from 0 from
digits-none text from =
    let k : from - from ≡ 0 = omega arith in
    let e : part from from text ≡ [] = ap (λ (n : ℕ). take n (drop from text)) k in
    record { on = omega arith; within = λ h. h; digits = ap (every is_digit) e ∙ every_nil; is = ap value_of e ∙ value_nil 0; small = omega arith }

pub digits_more : (text : List ℕ) (from value i : ℕ) → ReadsDigits text from value i → i < length text → is_digit (get_or text i 0) ≡ true
    → value < 100000000000000000 → ReadsDigits text from (value * 10 + (get_or text i 0 - 48)) (i + 1)
digits_more text from value i r more d room =
    let b = get_or text i 0 in
    let j : from + (i - from) ≡ i = omega arith in
    let k : (i + 1) - from ≡ suc (i - from) = omega arith in
    let e : part from (i + 1) text ≡ part from i text ++ (b ∷ []) =
    ap (λ (n : ℕ). take n (drop from text)) k ∙ take-suc (drop from text) (i - from) 0 (rw length-drop (omega arith))
    ∙ ap (λ (x : ℕ). part from i text ++ (x ∷ [])) (get_or-drop from text (i - from) 0 ∙ ap (λ (n : ℕ). get_or text n 0) j) in
    record {
      on = omega arith;
      within = λ h. omega arith;
      digits = ap (every is_digit) e ∙ every_append is_digit (part from i text) (b ∷ []) r.digits (every_one is_digit b d);
      is = ap value_of e ∙ value_append 0 (part from i text) (b ∷ []) ∙ value-one (value_of (part from i text)) b ∙ ap (λ (v : ℕ). v * 10 + (b - 48)) r.is;
      small = omega (arith, (digit_range b d).1);
    }

-- ---- a run goes over digits
module _ (on : List ℕ → Bool) (digit : (b : ℕ) (bs : List ℕ) → is_digit b ≡ true → on (b ∷ bs) ≡ true) where
  run-digits : (ds rest : List ℕ) → every is_digit ds ≡ true → run on (ds ++ rest) ≡ ds ++ run on rest
  run-digits [] rest h = refl
  run-digits (d ∷ ds) rest h =
      let g = every_cons is_digit d ds h in
      run_on on d (ds ++ rest) (digit d (ds ++ rest) g.0) ∙ ap (λ (l : List ℕ). d ∷ l) (run-digits ds rest g.1)

-- no digit and no blank ends a line
goes_above : (b : ℕ) (bs : List ℕ) → (b ≡ 10 → ⊥) → (b ≡ 13 → ⊥) → line_goes_on (b ∷ bs) ≡ true
goes_above b bs p q = sym (goes_other (b ∷ bs) 0 (omega arith) p q)

line-digit : (b : ℕ) (bs : List ℕ) → is_digit b ≡ true → line_goes_on (b ∷ bs) ≡ true
line-digit b bs h = let r = digit_range b h in goes_above b bs (λ e. absurd (omega arith)) (λ e. absurd (omega arith))

line_blank : (b : ℕ) (bs : List ℕ) → is_blank b ≡ true → line_goes_on (b ∷ bs) ≡ true
unfolding is_blank
line_blank b bs h =
    ⊎_elim (λ e. let n = eqb-true b 32 e in goes_above b bs (λ p. absurd (omega arith)) (λ p. absurd (omega arith)))
    (λ e. let n = eqb-true b 9 e in goes_above b bs (λ p. absurd (omega arith)) (λ p. absurd (omega arith)))
    (either_of (eqb b 32) (eqb b 9) h)

word-digit : (b : ℕ) (bs : List ℕ) → is_digit b ≡ true → goes_on (b ∷ bs) ≡ true
word-digit b bs h = word_on (b ∷ bs) 0 (omega arith) (no_blank b h)

-- ---- a word of digits
word-digits : (ds rest : List ℕ) → 1 ≤ length ds → every is_digit ds ≡ true → goes_on rest ≡ false → words_of (ds ++ rest) ≡ ds ∷ words_of rest
word-digits [] rest n h off = absurd (omega arith)
word-digits (d ∷ ds) rest n h off =
    let word : run goes_on ((d ∷ ds) ++ rest) ≡ d ∷ ds =
    run-digits goes_on word-digit (d ∷ ds) rest h ∙ ap (λ (l : List ℕ). (d ∷ ds) ++ l) (run_off goes_on rest off) ∙ append-nil (d ∷ ds) in
    first_word ((d ∷ ds) ++ rest) (word-digit d (ds ++ rest) (every_cons is_digit d ds h).0)
    ∙ ap (λ (w : List ℕ). w ∷ words_of (drop (length w) ((d ∷ ds) ++ rest))) word
    ∙ ap (λ (l : List ℕ). (d ∷ ds) ∷ words_of l) (drop_at (d ∷ ds) rest (length (d ∷ ds)) refl)

-- ---- two numbers and a blank between them
module _ (v w : List ℕ) (b : ℕ) (first : 1 ≤ length v) (second : 1 ≤ length w) (vs : every is_digit v ≡ true) (ws : every is_digit w ≡ true)
    (blank : is_blank b ≡ true) where
  plain-run : (rest : List ℕ) → line_goes_on rest ≡ false → run line_goes_on (v ++ (b ∷ (w ++ rest))) ≡ v ++ (b ∷ w)
  plain-run rest off =
      run-digits line_goes_on line-digit v (b ∷ (w ++ rest)) vs
      ∙ ap (λ (l : List ℕ). v ++ l) (run_on line_goes_on b (w ++ rest) (line_blank b (w ++ rest) blank)
      ∙ ap (λ (l : List ℕ). b ∷ l) (run-digits line_goes_on line-digit w rest ws
      ∙ ap (λ (l : List ℕ). w ++ l) (run_off line_goes_on rest off) ∙ append-nil w))

  plain-words : words_of (v ++ (b ∷ w)) ≡ v ∷ w ∷ []
  plain-words =
      word-digits v (b ∷ w) first vs (word_off (b ∷ w) 0 (omega arith) blank)
      ∙ ap (λ (l : List (List ℕ)). v ∷ l) (words_blank (b ∷ w) 0 (omega arith) blank ∙ ap words_of (sym (append-nil w))
      ∙ word-digits w [] second ws (word_end [] 0 (omega arith)) ∙ ap (λ (l : List (List ℕ)). w ∷ l) (words_end [] 0 (omega arith)))

  plain_kind : length (v ++ (b ∷ w)) ≤ bytes_most → value_of v ≤ largest → value_of w ≤ largest → kind_of (v ++ (b ∷ w)) ≡ Entry (value_of v) (value_of w)
  unfolding numbers_in are_numbers kind_by is_number
  plain_kind n p q =
      let line = v ++ (b ∷ w) in
      let d : is_digit (get_or v 0 0) ≡ true = every-at is_digit v vs 0 first in
      let r = digit_range (get_or v 0 0) d in
      let byte : get_or line 0 0 ≡ get_or v 0 0 = get_or-append v (b ∷ w) 0 0 first in
      let none : begins 37 line ≡ false = begins-at 37 line 0 (rw length-append (omega arith)) ∙ ne_eqb (get_or line 0 0) 37 (λ e. absurd (omega arith)) in
      kind_by_lem line false false _ (le-ltb bytes_most (length line) n) none refl
      ∙ ap (λ (l : List (List ℕ)). cond (are_numbers l) (kind_by l) Other) plain-words
      ∙ ap (λ (t : Bool). cond t (Entry (value_of v) (value_of w)) Other)
      (both (is_number v) (is_number w && true) (both (every is_digit v) (leb (value_of v) largest) vs (le-leb (value_of v) largest p))
      (both (is_number w) true (both (every is_digit w) (leb (value_of w) largest) ws (le-leb (value_of w) largest q)) refl))

-- ---- a plain line
module _ (text : List ℕ) (at row blank column end : ℕ) (first : ReadsDigits text at row blank) (second : ReadsDigits text (blank + 1) column end)
    (some : blank ≡ at → ⊥) (more : blank < length text) (gap : is_blank (get_or text blank 0) ≡ true) (other : end ≡ blank + 1 → ⊥)
    (few : end - at ≤ bytes_most) (off : line_goes_on (drop end text) ≡ false) where
  abbrev v : List ℕ
  v = part at blank text

  abbrev w : List ℕ
  w = part (blank + 1) end text

  abbrev b : ℕ
  b = get_or text blank 0

  v_length : length v ≡ blank - at
  v_length = part_length at blank text first.on (omega arith)

  w_length : length w ≡ end - (blank + 1)
  w_length = part_length (blank + 1) end text second.on (second.within (omega arith))

  line : line_at text at ≡ v ++ (b ∷ w)
  line =
      ap (run line_goes_on) (part-split at blank text first.on
      ∙ ap (λ (l : List ℕ). v ++ l) (here text blank more ∙ ap (λ (l : List ℕ). b ∷ l) (part-split (blank + 1) end text second.on)))
      ∙ plain-run v w b (omega (arith, v_length)) (omega (arith, w_length)) first.digits second.digits gap (drop end text) off

  sized : length (v ++ (b ∷ w)) ≡ end - at
  sized = length-append v (b ∷ w) ∙ omega (arith, v_length, w_length)

  place : end ≡ at + length (line_at text at)
  place = omega (arith, ap length line, sized)

  kind : kind_of (take (end - at) (drop at text)) ≡ Entry row column
  kind =
      ap kind_of (at_front line_goes_on text at end place ∙ line)
      ∙ plain_kind v w b (omega (arith, v_length)) (omega (arith, w_length)) first.digits second.digits gap
      (omega (arith, sized)) (omega arith) (omega arith)
      ∙ ap₂ Entry first.is second.is

  pub plain_read : (next : ℕ) → next ≡ end + end_length (drop end text) → ReadsLine text at (record { kind = Entry row column; next = next })
  plain_read next after = record {
    lines = line_kinds text at end (omega arith) place next after ∙ ap (λ k. k ∷ kinds_at text next) kind;
    on = next-on text at end (omega arith) place next after;
    within = next-within text at end (omega arith) place next after;
  }
