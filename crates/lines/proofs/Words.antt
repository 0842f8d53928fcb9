-- Laws of words: blanks before them, and that the words of a line are the first word and those behind it. Assumes nothing.
use mathlib.Core.Path.{◌≡◌, refl, sym, ap, subst, ◌∙◌}
use mathlib.Core.Bool.{Bool, true, false, cond, not, ◌||◌, false≢true}
use mathlib.Core.List.{List, [], ◌∷◌}
use Prim.Native.Nat.{ℕ, suc, ◌+◌, ◌≤◌, ◌<◌}
use native.Mathlib.Omega.{arith}
use native.Mathlib.Numerals.{one-add}
use borrow.Author.Tests.{not-true, eqb-true}
use lib.Dec.{eqb}
use Rattle.std.proofs.lemmas.Bool.Decides.{nat_tests}
use lib.ListN.{length, get_or, take, drop, drop_of_length-le}
use Rattle.std.specs.List.{prefix_len, take_while, list_any, starts_with}
use Rattle.std.proofs.lemmas.List.Sums.{prefix_len-le-length}
use Rattle.std.proofs.lemmas.List.Folds.{length-prefix_len}
use Rattle.lines.specs.Lines.{begins, holds, is_blank, goes_on, on_first, words_of}
use Rattle.lines.specs.Parts.{run}
use Rattle.lines.proofs.Runs.{here, run_on, run_off, run-most, run-front}

-- ---- blanks
pub goes_nil : goes_on [] ≡ false
unfolding goes_on
goes_nil = refl

pub words_nil : words_of [] ≡ []
unfolding words_of
words_nil = refl

goes_cons : (b : ℕ) (bs : List ℕ) → goes_on (b ∷ bs) ≡ not (is_blank b)
unfolding goes_on
goes_cons b bs = refl

after_blank : (b : ℕ) (bs : List ℕ) → is_blank b ≡ true → words_of (b ∷ bs) ≡ words_of bs
unfolding words_of
after_blank b bs e = ap (λ (t : Bool). cond t (words_of bs) (cond (goes_on bs) (on_first b (words_of bs)) ((b ∷ []) ∷ words_of bs))) e

-- ---- at a place
module _ (line : List ℕ) (i : ℕ) where
  pub word_on : i < length line → is_blank (get_or line i 0) ≡ false → goes_on (drop i line) ≡ true
  word_on h e = ap goes_on (here line i h) ∙ goes_cons (get_or line i 0) (drop (i + 1) line) ∙ ap not e

  pub word_off : i < length line → is_blank (get_or line i 0) ≡ true → goes_on (drop i line) ≡ false
  word_off h e = ap goes_on (here line i h) ∙ goes_cons (get_or line i 0) (drop (i + 1) line) ∙ ap not e

  pub word_end : length line ≤ i → goes_on (drop i line) ≡ false
  word_end h = ap goes_on (drop_of_length-le line h) ∙ goes_nil

  pub words_end : length line ≤ i → words_of (drop i line) ≡ []
  words_end h = ap words_of (drop_of_length-le line h) ∙ words_nil

  pub words_blank : i < length line → is_blank (get_or line i 0) ≡ true → words_of (drop i line) ≡ words_of (drop (i + 1) line)
  words_blank h e = ap words_of (here line i h) ∙ after_blank (get_or line i 0) (drop (i + 1) line) e

pub no_words : (xs : List ℕ) → eqb (length xs) 0 ≡ true → words_of xs ≡ []
no_words xs h = let none : length xs ≡ 0 = eqb-true (length xs) 0 h in words_end xs 0 (omega arith)

-- ---- the first word, and the others
words_cons : (b : ℕ) (bs : List ℕ) (t : Bool) → is_blank b ≡ false → goes_on bs ≡ t
    → words_of (b ∷ bs) ≡ cond t (on_first b (words_of bs)) ((b ∷ []) ∷ words_of bs)
unfolding words_of
words_cons b bs t p q =
    ap (λ (s : Bool). cond s (words_of bs) (cond (goes_on bs) (on_first b (words_of bs)) ((b ∷ []) ∷ words_of bs))) p
    ∙ ap (λ (s : Bool). cond s (on_first b (words_of bs)) ((b ∷ []) ∷ words_of bs)) q

-- the words of a line that begins with one
abbrev FirstWord : List ℕ → List ℕ → Type 0
FirstWord xs w = words_of xs ≡ w ∷ words_of (drop (length w) xs)

pub first_word : (xs : List ℕ) → goes_on xs ≡ true → FirstWord xs (run goes_on xs)
unfolding on_first
first_word [] h = absurd (false≢true (sym goes_nil ∙ h))
first_word (b ∷ bs) h =
    let k : is_blank b ≡ false = not-true (is_blank b) (sym (goes_cons b bs) ∙ h) in
    rw (run_on goes_on b bs h) (go (goes_on bs) refl k (λ e. first_word bs e))
  where
    go : (t : Bool) → goes_on bs ≡ t → is_blank b ≡ false → (goes_on bs ≡ true → FirstWord bs (run goes_on bs)) → FirstWord (b ∷ bs) (b ∷ run goes_on bs)
    go true e k f = words_cons b bs true k e ∙ ap (on_first b) (f e)
    go false e k f = words_cons b bs false k e ∙ rw (run_off goes_on bs e)

-- its first word, up to a blank
abbrev pub not_blank : ℕ → Bool
not_blank b = not (is_blank b)

run_length : (xs : List ℕ) → length (run goes_on xs) ≡ prefix_len not_blank xs
unfolding run goes_on
run_length [] = refl
run_length (b ∷ bs) = go (not_blank b) (run_length bs)
  where
    go : (t : Bool) → length (run goes_on bs) ≡ prefix_len not_blank bs → length (cond t (b ∷ run goes_on bs) []) ≡ cond t (1 + prefix_len not_blank bs) 0
    go true h = omega (arith, h)
    go false h = refl

module _ (xs : List ℕ) (n : ℕ) (long : n ≡ length (take_while not_blank xs)) where
  word-long : length (run goes_on xs) ≡ n
  word-long = run_length xs ∙ sym (length-prefix_len not_blank xs) ∙ sym long

  pub word-most : n ≤ length xs
  word-most = omega (arith, word-long, run-most goes_on xs)

  pub word-front : goes_on xs ≡ true → words_of xs ≡ take n xs ∷ words_of (drop n xs)
  word-front h =
      let P : ℕ → Type 0 = λ m. words_of xs ≡ take m xs ∷ words_of (drop m xs) in
      subst P word-long (first_word xs h ∙ ap (λ (w : List ℕ). w ∷ words_of (drop (length (run goes_on xs)) xs)) (sym (run-front goes_on xs)))

  -- where a line begins with a blank, or has no byte, no word stands in front
  pub word-off : goes_on xs ≡ false → n ≡ 0
  word-off h = sym word-long ∙ ap length (run_off goes_on xs h)

-- behind the blanks in front
behind_blanks : (xs : List ℕ) → words_of (drop (prefix_len is_blank xs) xs) ≡ words_of xs
behind_blanks [] = refl
behind_blanks (b ∷ bs) = go (is_blank b) refl (behind_blanks bs)
  where
    go : (t : Bool) → is_blank b ≡ t → words_of (drop (prefix_len is_blank bs) bs) ≡ words_of bs
        → words_of (drop (cond t (1 + prefix_len is_blank bs) 0) (b ∷ bs)) ≡ words_of (b ∷ bs)
    go true e h = rw one-add (h ∙ sym (after_blank b bs e))
    go false e h = refl

goes_behind : (xs : List ℕ) → 1 ≤ length (drop (prefix_len is_blank xs) xs) → goes_on (drop (prefix_len is_blank xs) xs) ≡ true
goes_behind [] = λ h. absurd (omega arith)
goes_behind (b ∷ bs) = go (is_blank b) refl (goes_behind bs)
  where
    go : (t : Bool) → is_blank b ≡ t → (1 ≤ length (drop (prefix_len is_blank bs) bs) → goes_on (drop (prefix_len is_blank bs) bs) ≡ true)
        → 1 ≤ length (drop (cond t (1 + prefix_len is_blank bs) 0) (b ∷ bs)) → goes_on (drop (cond t (1 + prefix_len is_blank bs) 0) (b ∷ bs)) ≡ true
    go true e h = rw one-add h
    go false e h = λ k. goes_cons b bs ∙ ap not e

module _ (xs : List ℕ) (n : ℕ) (long : n ≡ length (take_while is_blank xs)) where
  blanks-long : prefix_len is_blank xs ≡ n
  blanks-long = sym (length-prefix_len is_blank xs) ∙ sym long

  pub blanks-most : n ≤ length xs
  blanks-most = omega (arith, blanks-long, prefix_len-le-length is_blank xs)

  pub blanks-words : words_of (drop n xs) ≡ words_of xs
  blanks-words = let P : ℕ → Type 0 = λ m. words_of (drop m xs) ≡ words_of xs in subst P blanks-long (behind_blanks xs)

  pub blanks-word : 1 ≤ length (drop n xs) → goes_on (drop n xs) ≡ true
  blanks-word =
      let P : ℕ → Type 0 = λ m. 1 ≤ length (drop m xs) → goes_on (drop m xs) ≡ true in
      subst P blanks-long (goes_behind xs)

-- no more words than bytes
pub words-length : (xs : List ℕ) → length (words_of xs) ≤ length xs
unfolding words_of on_first
words-length [] = omega arith
words-length (b ∷ bs) = go (is_blank b) (goes_on bs) (words-length bs)
  where
    on-first : (ws : List (List ℕ)) → length (on_first b ws) ≤ suc (length ws)
    on-first [] = omega arith
    on-first (w ∷ ws) = omega arith

    go : (s t : Bool) → length (words_of bs) ≤ length bs
        → length (cond s (words_of bs) (cond t (on_first b (words_of bs)) ((b ∷ []) ∷ words_of bs))) ≤ length (b ∷ bs)
    go true t h = omega arith
    go false true h = omega (arith, on-first (words_of bs))
    go false false h = omega arith

-- ---- whether a line has a byte
pub holds_any : (b : ℕ) (xs : List ℕ) → list_any (λ y. eqb y b) xs ≡ holds b xs
unfolding holds
holds_any b [] = refl
holds_any b (x ∷ xs) = ap (λ (t : Bool). eqb x b || t) (holds_any b xs)

-- whether it begins with one
pub begins_with : (b : ℕ) (xs : List ℕ) → starts_with eqb xs (b ∷ []) ≡ begins b xs
unfolding begins
begins_with b [] = refl
begins_with b (x ∷ xs) = grind (arith, nat_tests)
