-- Laws of words as numbers, and of what a line says by its words. Assumes nothing.
use mathlib.Core.Path.{◌≡◌, refl, sym, ap, ap₂, ◌∙◌}
use mathlib.Core.Bool.{Bool, true, false, cond, ◌&&◌}
use mathlib.Core.List.{List, [], ◌∷◌}
use Prim.Native.Nat.{ℕ, ◌+◌, ◌-◌, ◌*◌, ◌≤◌, ◌<◌}
use native.Mathlib.Omega.{arith}
use borrow.Author.Tests.{le-leb, lt-leb, ne_eqb}
use lib.Dec.{leb, ltb, eqb}
use lib.ListN.{length, get_or, drop}
use Rattle.std.specs.Prelude.{Option, Some, None, MatchOption}
use Rattle.std.specs.Option.{unwrap_or}
use Rattle.digits.specs.Digits.{every, is_digit, value_from}
use Rattle.digits.proofs.Bytes.{both, not_left, not_right, neither, digit_range}
use Rattle.digits.proofs.Decimals.{value_cons, value_nil, value_grows}
use Rattle.lines.specs.Lines.{begins, holds, is_blank, goes_on, words_of}
use Rattle.lines.specs.Kinds.{bytes_most, largest, value_of, is_number, are_numbers, kind_by, numbers_in, kind_of}
use Rattle.lines.specs.Parts.{run, number_of, FindsNumber, FailsNumber}
use Rattle.lines.specs.declared.Kind.{Kind}
use Rattle.lines.specs.declared.Kind.TheVariants.{Blank, Comment, Entry, Size, Other}
use Rattle.lines.proofs.Runs.{run_off, at_on}
use Rattle.lines.proofs.Words.{word_on, first_word}

pub no_blank : (b : ℕ) → is_digit b ≡ true → is_blank b ≡ false
unfolding is_blank
no_blank b h =
    let r = digit_range b h in
    neither (eqb b 32) (eqb b 9) (ne_eqb b 32 (λ e. absurd (omega arith))) (ne_eqb b 9 (λ e. absurd (omega arith)))

pub every_nil : every is_digit [] ≡ true
unfolding every
every_nil = refl

every-step : (b : ℕ) (bs : List ℕ) (t : Bool) → is_digit b ≡ t → every is_digit (b ∷ bs) ≡ (t && every is_digit bs)
unfolding every
every-step b bs t h = ap (λ (s : Bool). s && every is_digit bs) h

-- ---- the word in front is read as far as i
abbrev word_from : List ℕ → ℕ → List ℕ
word_from words i = run goes_on (drop i words)

pub record NumberScan (words : List ℕ) (value i : ℕ) : Type 0 where
  pub place : i + length (word_from words i) ≡ length (word_from words 0)
  pub small : value ≤ largest
  pub number : value_from value (word_from words i) ≡ value_of (word_from words 0)
  pub digits : every is_digit (word_from words i) ≡ every is_digit (word_from words 0)

pub scan_start : (words : List ℕ) → NumberScan words 0 0
scan_start words = record { place = omega arith; small = omega arith; number = refl; digits = refl }

no_number : (word : List ℕ) → is_number word ≡ false → None ≡ number_of word
no_number word h = sym (ap (λ (t : Bool). cond t (Some (value_of word)) None) h)

module _ (words : List ℕ) (value i : ℕ) (on : goes_on words ≡ true) (scan : NumberScan words value i) where
  abbrev word : List ℕ
  word = word_from words 0

  abbrev b : ℕ
  b = get_or words i 0

  fails : is_number word ≡ false → FailsNumber (words_of words)
  fails h = record { word = word; others = words_of (drop (length word) words); first = first_word words on; number = no_number word h }

  pub scan_done : (rest : List ℕ) → drop i words ≡ rest → goes_on (drop i words) ≡ false → FindsNumber (words_of words) value (words_of rest)
  unfolding is_number
  scan_done rest e h =
      let none : word_from words i ≡ [] = run_off goes_on (drop i words) h in
      let v : value ≡ value_of word = sym (ap (value_from value) none ∙ value_nil value) ∙ scan.number in
      let n : length word ≡ i = omega (arith, scan.place, ap length none) in
      let d : every is_digit word ≡ true = sym scan.digits ∙ ap (every is_digit) none ∙ every_nil in
      record {
        word = word;
        first = first_word words on ∙ ap (λ (k : ℕ). word ∷ words_of (drop k words)) n ∙ ap (λ (l : List ℕ). word ∷ words_of l) e;
        number = ap Some v
            ∙ sym (ap (λ (t : Bool). cond t (Some (value_of word)) None)
            (both (every is_digit word) (leb (value_of word) largest) d (le-leb (value_of word) largest (omega (arith, scan.small)))));
      }

  module _ (more : i < length words) where
    word-here : is_blank b ≡ false → word_from words i ≡ b ∷ word_from words (i + 1)
    word-here k = at_on goes_on words i more (word_on words i more k)

    pub scan_other : is_digit b ≡ false → is_blank b ≡ false → FailsNumber (words_of words)
    unfolding is_number
    scan_other d k =
        fails (not_left (every is_digit word) (leb (value_of word) largest)
        (sym scan.digits ∙ ap (every is_digit) (word-here k) ∙ every-step b (word_from words (i + 1)) false d))

    module _ (d : is_digit b ≡ true) where
      next-value : value_from (value * 10 + (b - 48)) (word_from words (i + 1)) ≡ value_of word
      next-value = sym (ap (value_from value) (word-here (no_blank b d)) ∙ value_cons value b (word_from words (i + 1))) ∙ scan.number

      pub scan_over : largest < value * 10 + (b - 48) → FailsNumber (words_of words)
      unfolding is_number
      scan_over h =
          fails (not_right (every is_digit word) (leb (value_of word) largest)
          (lt-leb (value_of word) largest (omega (arith, next-value, value_grows (value * 10 + (b - 48)) (word_from words (i + 1))))))

      pub scan_step : value * 10 + (b - 48) ≤ largest → NumberScan words (value * 10 + (b - 48)) (i + 1)
      scan_step h = record {
        place = omega (arith, scan.place, ap length (word-here (no_blank b d)));
        small = h;
        number = next-value;
        digits = sym (ap (every is_digit) (word-here (no_blank b d)) ∙ every-step b (word_from words (i + 1)) true d) ∙ scan.digits;
      }

-- ---- what a line says
some_number : (word : List ℕ) (x : ℕ) → Some x ≡ number_of word → (is_number word ≡ true) × (value_of word ≡ x)
some_number word x h = go (is_number word) refl h
  where
    go : (t : Bool) → is_number word ≡ t → Some x ≡ cond t (Some (value_of word)) None → (is_number word ≡ true) × (value_of word ≡ x)
    go true e k = (e, cc)
    go false e k = absurd cc

none_number : (word : List ℕ) → None ≡ number_of word → is_number word ≡ false
none_number word h = go (is_number word) refl h
  where
    go : (t : Bool) → is_number word ≡ t → None ≡ cond t (Some (value_of word)) None → is_number word ≡ false
    go true e k = absurd cc
    go false e k = e

-- what is said of these words, whatever the first of them
abbrev what : List (List ℕ) → Kind
what ws = cond (are_numbers ws) (kind_by ws) Other

module _ (line : List ℕ) where
  by-words : (ws : List (List ℕ)) → words_of line ≡ ws → numbers_in line ≡ what ws
  unfolding numbers_in
  by-words ws h = ap what h

  pub says-nothing : words_of line ≡ [] → Blank ≡ numbers_in line
  unfolding are_numbers kind_by
  says-nothing h = sym (by-words [] h)

  module _ (u : List ℕ) (us : List (List ℕ)) (first : words_of line ≡ u ∷ us) where
    pub first-wrong : None ≡ number_of u → numbers_in line ≡ Other
    unfolding are_numbers
    first-wrong n = by-words (u ∷ us) first ∙ ap (λ (t : Bool). cond (t && are_numbers us) (kind_by (u ∷ us)) Other) (none_number u n)

    pub says-one : us ≡ [] → numbers_in line ≡ Other
    unfolding are_numbers kind_by
    says-one h = by-words (u ∷ []) (first ∙ ap (λ (l : List (List ℕ)). u ∷ l) h) ∙ go (is_number u && true)
      where
        go : (t : Bool) → cond t Other Other ≡ Other
        go true = refl
        go false = refl

    module _ (x : ℕ) (row : Some x ≡ number_of u) (v : List ℕ) (vs : List (List ℕ)) (second : us ≡ v ∷ vs) where
      two-words : numbers_in line ≡ cond (are_numbers (v ∷ vs)) (kind_by (u ∷ v ∷ vs)) Other
      unfolding are_numbers
      two-words =
          by-words (u ∷ v ∷ vs) (first ∙ ap (λ (l : List (List ℕ)). u ∷ l) second)
          ∙ ap (λ (t : Bool). cond (t && are_numbers (v ∷ vs)) (kind_by (u ∷ v ∷ vs)) Other) (some_number u x row).0

      pub second-wrong : None ≡ number_of v → numbers_in line ≡ Other
      unfolding are_numbers
      second-wrong n = two-words ∙ ap (λ (t : Bool). cond (t && are_numbers vs) (kind_by (u ∷ v ∷ vs)) Other) (none_number v n)

      module _ (y : ℕ) (column : Some y ≡ number_of v) where
        pub says-entry : vs ≡ [] → Entry x y ≡ numbers_in line
        unfolding are_numbers kind_by
        says-entry h =
            sym (two-words ∙ ap₂ (λ (t : Bool) (l : List (List ℕ)). cond (t && are_numbers l) (kind_by (u ∷ v ∷ l)) Other) (some_number v y column).0 h
            ∙ ap₂ Entry (some_number u x row).1 (some_number v y column).1)

        module _ (w : List ℕ) (ws : List (List ℕ)) (third : vs ≡ w ∷ ws) where
          three-words : numbers_in line ≡ cond (are_numbers (w ∷ ws)) (kind_by (u ∷ v ∷ w ∷ ws)) Other
          unfolding are_numbers
          three-words =
              two-words ∙ ap₂ (λ (t : Bool) (l : List (List ℕ)). cond (t && are_numbers l) (kind_by (u ∷ v ∷ l)) Other) (some_number v y column).0 third

          pub third-wrong : None ≡ number_of w → numbers_in line ≡ Other
          unfolding are_numbers
          third-wrong n = three-words ∙ ap (λ (t : Bool). cond (t && are_numbers ws) (kind_by (u ∷ v ∷ w ∷ ws)) Other) (none_number w n)

          pub says-more : (z : List ℕ) (zs : List (List ℕ)) → ws ≡ z ∷ zs → numbers_in line ≡ Other
          unfolding kind_by
          says-more z zs h = three-words ∙ ap (λ (l : List (List ℕ)). cond (are_numbers (w ∷ l)) (kind_by (u ∷ v ∷ w ∷ l)) Other) h ∙ go (are_numbers (w ∷ z ∷ zs))
            where
              go : (t : Bool) → cond t Other Other ≡ Other
              go true = refl
              go false = refl

          pub says-size : (z : ℕ) → Some z ≡ number_of w → ws ≡ [] → Size x y z ≡ numbers_in line
          unfolding are_numbers kind_by
          says-size z entries h =
              sym (three-words
              ∙ ap₂ (λ (t : Bool) (l : List (List ℕ)). cond (t && are_numbers l) (kind_by (u ∷ v ∷ w ∷ l)) Other) (some_number w z entries).0 h
              ∙ ap₂ (λ (a b : ℕ). Size a b (value_of w)) (some_number u x row).1 (some_number v y column).1
              ∙ ap (Size x y) (some_number w z entries).1)

-- a line by its length, its first byte, and whether it has a carriage return
pub kind_by_lem : (line : List ℕ) (s t u : Bool) → ltb bytes_most (length line) ≡ s → begins 37 line ≡ t → holds 13 line ≡ u
    → kind_of line ≡ cond s Other (cond t (cond u Other Comment) (numbers_in line))
unfolding kind_of
kind_by_lem line s t u p q r =
    ap₂ (λ (x y : Bool). cond x Other (cond y (cond (holds 13 line) Other Comment) (numbers_in line))) p q
    ∙ ap (λ (x : Bool). cond s Other (cond t (cond x Other Comment) (numbers_in line))) r

-- what is said where a word is no number
pub says_or : (o : Option Kind) (n r : Kind) → MatchOption o (n ≡ Other) (λ k. k ≡ n) → r ≡ unwrap_or o Other → r ≡ n
says_or None n r h e = e ∙ sym h
says_or (Some k) n r h e = e ∙ h
