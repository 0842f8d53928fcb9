-- Laws of words that are given ones, and of the banner. Assumes nothing.
use mathlib.Core.Path.{◌≡◌, refl, sym, ap, ap₂, ◌∙◌}
use mathlib.Core.Bool.{Bool, true, false, not, ◌&&◌, false≢true}
use mathlib.Core.List.{List, [], ◌∷◌}
use Prim.Native.Nat.{ℕ, suc, ◌+◌, ◌-◌, ◌≤◌}
use native.Mathlib.Omega.{arith}
use borrow.Author.Tests.{eq-eqb, eqb-true, le-leb, leb-true}
use lib.Dec.{eqb, leb}
use lib.Pointwise.{pointwise}
use lib.ListN.{length, take, drop, length-take, length-drop}
use Rattle.std.specs.Prelude.{Option, Some, None, MatchOption, IsTrue, ◌↔◌, ◌==◌, map, is_some}
use Rattle.std.specs.List.{list_all, take_while}
use Rattle.std.specs.Char.{to_ascii_lowercase}
use Rattle.std.proofs.lemmas.Bool.Decides.{nat_tests}
use Rattle.digits.proofs.Bytes.{both, both_of, not_right, settle}
use Rattle.lines.specs.Lines.{lines_of, goes_on, words_of}
use Rattle.lines.specs.Kinds.{bytes_most}
use Rattle.lines.specs.Banner.{same_by, is_letter, are_words, banner_word, banner_tests, is_banner}
use Rattle.lines.specs.Parts.{line_goes_on, line_at, end_length, is_small, four_tests, FindsWord, FailsWord}
use Rattle.lines.specs.Read.{ReadsBanner}
use Rattle.lines.proofs.Runs.{at_most, at_end}
use Rattle.lines.proofs.Ends.{goes_nil, end_within, line_first}
use Rattle.lines.proofs.Words.{not_blank, word-front, word-off, words-length}

-- ---- a word "in either case"
-- a byte is the small letter in either case where both are one in small letters
letter : (small b : ℕ) → is_small small ≡ true → is_letter small b ≡ (to_ascii_lowercase b == to_ascii_lowercase small)
unfolding is_letter
letter small b h =
    let g = both_of (leb 97 small) (leb small 122) h in
    let low : 97 ≤ small = leb-true 97 small g.0 in
    let high : small ≤ 122 = leb-true small 122 g.1 in
    grind (arith, nat_tests)

letters : (small word : List ℕ) → list_all is_small small ≡ true → (map to_ascii_lowercase word ≡ map to_ascii_lowercase small → same_by is_letter small word ≡ true)
    × (same_by is_letter small word ≡ true → map to_ascii_lowercase word ≡ map to_ascii_lowercase small)
unfolding same_by
letters [] [] h = ((λ e. refl), (λ e. refl))
letters [] (y ∷ ys) h = ((λ e. absurd cc), (λ e. absurd cc))
letters (x ∷ xs) [] h = ((λ e. absurd cc), (λ e. absurd cc))
letters (x ∷ xs) (y ∷ ys) h =
    let g = both_of (is_small x) (list_all is_small xs) h in
    let r = letters xs ys g.1 in
    let l = letter x y g.0 in (
      (λ e. both (is_letter x y) (same_by is_letter xs ys) (l ∙ eq-eqb _ _ cc) (r.0 cc)),
      (λ e. let k = both_of (is_letter x y) (same_by is_letter xs ys) e in ap₂ (λ (a : ℕ) (l : List ℕ). a ∷ l) (eqb-true _ _ (sym l ∙ k.0)) (r.1 k.1)),
    )

pub same_word : (small word : List ℕ) (t : Bool) → list_all is_small small ≡ true → (IsTrue t ↔ (map to_ascii_lowercase word ≡ map to_ascii_lowercase small))
    → same_by is_letter small word ≡ t
same_word small word true h e = (letters small word h).0 (e.0 refl)
same_word small word false h e = settle (same_by is_letter small word) (λ k. false≢true (e.1 ((letters small word h).1 k)))

-- ---- words
are_nil : (test : List ℕ → Bool) (tests : List (List ℕ → Bool)) → are_words (test ∷ tests) [] ≡ false
unfolding are_words
are_nil test tests = refl

are_cons : (test : List ℕ → Bool) (tests : List (List ℕ → Bool)) (w : List ℕ) (ws : List (List ℕ)) (t : Bool) → test w ≡ t
    → are_words (test ∷ tests) (w ∷ ws) ≡ (t && are_words tests ws)
unfolding are_words
are_cons test tests w ws t h = ap (λ (s : Bool). s && are_words tests ws) h

-- whether none is left
pub are_end : {T : Type 0} (o : Option T) (word : T → List ℕ) (others : T → List (List ℕ)) (ws : List (List ℕ)) (r : Bool)
    → MatchOption o (ws ≡ []) (λ x. ws ≡ word x ∷ others x) → is_some o ≡ not r → r ≡ are_words [] ws
unfolding are_words
are_end None word others ws true h e = sym (ap (are_words []) h)
are_end None word others ws false h e = absurd cc
are_end (Some x) word others ws true h e = absurd cc
are_end (Some x) word others ws false h e = sym (ap (are_words []) h)

are_count : (tests : List (List ℕ → Bool)) (ws : List (List ℕ)) → are_words tests ws ≡ true → length ws ≡ length tests
unfolding are_words
are_count [] [] h = refl
are_count [] (w ∷ ws) h = absurd (false≢true h)
are_count (t ∷ ts) [] h = absurd (false≢true h)
are_count (t ∷ ts) (w ∷ ws) h = ap suc (are_count ts ws (both_of (t w) (are_words ts ws) h).1)

module _ (test : List ℕ → Bool) (ws : List (List ℕ)) where
  pub fails-none : ws ≡ [] → FailsWord test ws
  fails-none h tests = ap (are_words (test ∷ tests)) h ∙ are_nil test tests

  pub fails-other : (w : List ℕ) (us : List (List ℕ)) → ws ≡ w ∷ us → test w ≡ false → FailsWord test ws
  fails-other w us h n tests = ap (are_words (test ∷ tests)) h ∙ are_cons test tests w us false n

  pub behind : (us : List (List ℕ)) → FindsWord test ws us → (tests : List (List ℕ → Bool)) → are_words (test ∷ tests) ws ≡ are_words tests us
  behind us f tests = ap (are_words (test ∷ tests)) f.first ∙ are_cons test tests f.word us true f.passes

-- the last of the words that are looked for
pub behind_last : {T : Type 0} (o : Option T) (test : List ℕ → Bool) (ws : List (List ℕ)) (others : T → List (List ℕ)) (b : Bool)
    → b ≡ are_words (test ∷ []) ws → MatchOption o (FailsWord test ws) (λ r. FindsWord test ws (others r))
    → MatchOption o (b ≡ false) (λ r. b ≡ are_words [] (others r))
behind_last None test ws others b e h = e ∙ h []
behind_last (Some r) test ws others b e h = e ∙ behind test ws (others r) h []

-- ---- the banner
module _ (line : List ℕ) where
  pub banner-by : (s t u : Bool) → leb (length line) bytes_most ≡ s → goes_on line ≡ t → are_words banner_tests (words_of line) ≡ u
      → is_banner line ≡ (s && (t && u))
  unfolding is_banner
  banner-by s t u p q r =
      ap₂ (λ (x y : Bool). x && (y && are_words banner_tests (words_of line))) p q ∙ ap (λ (x : Bool). s && (t && x)) r

  -- its words are five, so it has some bytes
  pub banner-long : is_banner line ≡ true → 5 ≤ length line
  unfolding is_banner
  banner-long h =
      let g = both_of (leb (length line) bytes_most) (goes_on line && are_words banner_tests (words_of line)) h in
      let w = both_of (goes_on line) (are_words banner_tests (words_of line)) g.1 in
      omega (arith, are_count banner_tests (words_of line) w.1, words-length line)

-- lists that are equal byte by byte
equal : (xs ys : List ℕ) → pointwise eqb xs ys ≡ true → xs ≡ ys
equal [] [] h = refl
equal [] (y ∷ ys) h = absurd (false≢true h)
equal (x ∷ xs) [] h = absurd (false≢true h)
equal (x ∷ xs) (y ∷ ys) h =
    let g = both_of (eqb x y) (pointwise eqb xs ys) h in ap₂ (λ (a : ℕ) (l : List ℕ). a ∷ l) (eqb-true x y g.0) (equal xs ys g.1)

itself : (xs : List ℕ) → pointwise eqb xs xs ≡ true
itself [] = refl
itself (x ∷ xs) = both (eqb x x) (pointwise eqb xs xs) (eq-eqb x x refl) (itself xs)

-- where the first bytes are the banner's word, up to a blank
exactly : (xs ys : List ℕ) → same_by eqb xs ys ≡ true → ys ≡ xs
unfolding same_by
exactly [] [] h = refl
exactly [] (y ∷ ys) h = absurd (false≢true h)
exactly (x ∷ xs) [] h = absurd (false≢true h)
exactly (x ∷ xs) (y ∷ ys) h =
    let g = both_of (eqb x y) (same_by eqb xs ys) h in ap₂ (λ (a : ℕ) (l : List ℕ). a ∷ l) (sym (eqb-true x y g.0)) (exactly xs ys g.1)

module _ (line : List ℕ) (n : ℕ) (long : n ≡ length (take_while not_blank line)) where
  no_word : (goes_on line ≡ true → are_words banner_tests (words_of line) ≡ false) → is_banner line ≡ false
  unfolding is_banner
  no_word f = not_right (leb (length line) bytes_most) _ (go (goes_on line) refl)
    where
      go : (t : Bool) → goes_on line ≡ t → (t && are_words banner_tests (words_of line)) ≡ false
      go true h = f h
      go false h = refl

  pub other-word : true ≡ not (pointwise eqb (take n line) banner_word) → is_banner line ≡ false
  other-word d =
      let h : take n line ≡ banner_word → ⊥ = λ e. false≢true (sym (d ∙ ap (λ (w : List ℕ). not (pointwise eqb w banner_word)) e ∙ ap not (itself banner_word))) in
      no_word (λ g. fails-other (same_by eqb banner_word) (words_of line) _ _ (word-front line n long g)
      (settle (same_by eqb banner_word (take n line)) (λ e. h (exactly banner_word (take n line) e))) four_tests)

  pub banner-word : length line ≤ bytes_most → false ≡ not (pointwise eqb (take n line) banner_word) → is_banner line ≡ are_words four_tests (words_of (drop n line))
  unfolding same_by
  banner-word few d =
      let h : take n line ≡ banner_word = equal (take n line) banner_word (not-false (pointwise eqb (take n line) banner_word) d) in
      let on : goes_on line ≡ true = true-or (goes_on line) (λ e. absurd (omega (arith, word-off line n long e, ap length h, length-take n line))) in
      banner-by line true true _ (le-leb _ _ few) on
      (behind (same_by eqb banner_word) (words_of line) (words_of (drop n line))
      (record { word = take n line; first = word-front line n long on; passes = ap (same_by eqb banner_word) h }) four_tests)
    where
      not-false : (t : Bool) → false ≡ not t → t ≡ true
      not-false true e = refl
      not-false false e = absurd cc

      true-or : (t : Bool) → (t ≡ false → ⊥) → t ≡ true
      true-or true k = refl
      true-or false k = absurd (k refl)

-- ---- the first line
-- of an empty text it is no banner, and the second begins at its end
pub read_first : (text : List ℕ) (end next : ℕ) (right : Bool) → end ≡ 0 + length (line_at text 0) → next ≡ end + end_length (drop end text)
    → right ≡ is_banner (take end text) → ReadsBanner text (record { is_right = right; next = next })
read_first text end next right e n r =
    let k : end - 0 ≡ end = omega arith in
    let most : end ≤ length text = omega (arith, at_most line_goes_on text 0 (omega arith)) in
    let behind : end_length (drop end text) ≤ length (drop end text) = end_within (drop end text) (at_end line_goes_on text 0 end e goes_nil) in
    record {
      line = take end text;
      lines = λ p. line_first text 0 end (omega arith) e next n ∙ ap (λ (m : ℕ). take m text ∷ lines_of (drop next text)) k;
      right = r;
      within = omega (arith, length-drop end text);
      on = λ b. omega (arith, banner-long (take end text) b, length-take end text);
    }
