-- What the inner functions answer. Definitions only.
use Rattle.std.specs.Prelude.{Bool, true, false, cond, not, ◌&&◌, ◌||◌, List, [], ◌∷◌, ◌≡◌, ℕ, ◌≤◌, Option, Some, None, eqb, leb, length, drop}
use Rattle.digits.specs.Digits.{part, every, is_digit}
use Rattle.lines.specs.Lines.{begins, goes_on, words_of}
use Rattle.lines.specs.Kinds.{largest, value_of, is_number}
use Rattle.lines.specs.Banner.{same_by, is_letter, are_words, matrix_word, coordinate_word, pattern_word, symmetric_word}

-- the bytes at the front, up to where what is left does not go on
unfoldable pub run : (List ℕ → Bool) → List ℕ → List ℕ
run on [] = []
run on (b ∷ bs) = cond (on (b ∷ bs)) (b ∷ run on bs) []

-- whether a line goes on there
unfoldable pub line_goes_on : List ℕ → Bool
line_goes_on [] = false
line_goes_on (b ∷ bs) = not (eqb b 10 || (eqb b 13 && begins 10 bs))

-- the line that begins at a place
abbrev pub line_at : List ℕ → ℕ → List ℕ
line_at text at = run line_goes_on (drop at text)

-- how many bytes end a line that goes on no further: none at the end of the file
unfoldable pub end_length : List ℕ → ℕ
end_length [] = 0
end_length (b ∷ bs) = cond (eqb b 10) 1 2

-- a word as a number, if it is one
abbrev pub number_of : List ℕ → Option ℕ
number_of word = cond (is_number word) (Some (value_of word)) None

-- no blanks stand in front of what is left of a line any more, and no word was passed
pub record Skips (line rest : List ℕ) : Type 0 where
  pub words : words_of line ≡ words_of rest
  pub here : 1 ≤ length rest → goes_on rest ≡ true

-- the first of some words is a number, and the others stand behind it
pub record FindsNumber (words : List (List ℕ)) (value : ℕ) (others : List (List ℕ)) : Type 0 where
  pub word : List ℕ
  pub first : words ≡ word ∷ others
  pub number : Some value ≡ number_of word

-- it is none
pub record FailsNumber (words : List (List ℕ)) : Type 0 where
  pub word : List ℕ
  pub others : List (List ℕ)
  pub first : words ≡ word ∷ others
  pub number : None ≡ number_of word

-- a small letter
abbrev pub is_small : ℕ → Bool
is_small b = leb 97 b && leb b 122

-- the first of some words passes the test, and the others stand behind it
pub record FindsWord (test : List ℕ → Bool) (words others : List (List ℕ)) : Type 0 where
  pub word : List ℕ
  pub first : words ≡ word ∷ others
  pub passes : test word ≡ true

-- it does not, or there is none
abbrev pub FailsWord : (List ℕ → Bool) → List (List ℕ) → Type 0
FailsWord test words = (tests : List (List ℕ → Bool)) → are_words (test ∷ tests) words ≡ false

-- the words behind the banner's first
abbrev pub four_tests : List (List ℕ → Bool)
four_tests = same_by is_letter matrix_word ∷ same_by is_letter coordinate_word ∷ same_by is_letter pattern_word ∷ same_by is_letter symmetric_word ∷ []

-- the bytes from `from` up to `next` are digits, and their number is `value`
pub record ReadsDigits (text : List ℕ) (from value next : ℕ) : Type 0 where
  pub on : from ≤ next
  pub within : from ≤ length text → next ≤ length text
  pub digits : every is_digit (part from next text) ≡ true
  pub is : value_of (part from next text) ≡ value
  pub small : value ≤ largest
