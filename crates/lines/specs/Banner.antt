-- The banner, the first line. Definitions only.
use Rattle.std.specs.Prelude.{Bool, true, false, ◌&&◌, ◌||◌, List, [], ◌∷◌, ℕ, ◌+◌, eqb, leb, length}
use Rattle.lines.specs.Lines.{goes_on, words_of}
use Rattle.lines.specs.Kinds.{bytes_most}

-- two words, byte by byte
unfoldable pub same_by : (ℕ → ℕ → Bool) → List ℕ → List ℕ → Bool
same_by same [] [] = true
same_by same [] (y ∷ ys) = false
same_by same (x ∷ xs) [] = false
same_by same (x ∷ xs) (y ∷ ys) = same x y && same_by same xs ys

-- a small letter, "in either case"
unfoldable pub is_letter : ℕ → ℕ → Bool
is_letter small b = eqb b small || eqb (b + 32) small

-- "%%MatrixMarket" "stands exactly so"; the four words
abbrev pub banner_word : List ℕ
banner_word = 37 ∷ 37 ∷ 77 ∷ 97 ∷ 116 ∷ 114 ∷ 105 ∷ 120 ∷ 77 ∷ 97 ∷ 114 ∷ 107 ∷ 101 ∷ 116 ∷ []

abbrev pub matrix_word : List ℕ
matrix_word = 109 ∷ 97 ∷ 116 ∷ 114 ∷ 105 ∷ 120 ∷ []

abbrev pub coordinate_word : List ℕ
coordinate_word = 99 ∷ 111 ∷ 111 ∷ 114 ∷ 100 ∷ 105 ∷ 110 ∷ 97 ∷ 116 ∷ 101 ∷ []

abbrev pub pattern_word : List ℕ
pattern_word = 112 ∷ 97 ∷ 116 ∷ 116 ∷ 101 ∷ 114 ∷ 110 ∷ []

abbrev pub symmetric_word : List ℕ
symmetric_word = 115 ∷ 121 ∷ 109 ∷ 109 ∷ 101 ∷ 116 ∷ 114 ∷ 105 ∷ 99 ∷ []

-- words that pass these tests, one by one
unfoldable pub are_words : List (List ℕ → Bool) → List (List ℕ) → Bool
are_words [] [] = true
are_words [] (w ∷ ws) = false
are_words (t ∷ ts) [] = false
are_words (t ∷ ts) (w ∷ ws) = t w && are_words ts ws

abbrev pub banner_tests : List (List ℕ → Bool)
banner_tests = same_by eqb banner_word ∷ same_by is_letter matrix_word ∷ same_by is_letter coordinate_word ∷ same_by is_letter pattern_word ∷ same_by is_letter symmetric_word ∷ []

-- its first word stands in the first place
unfoldable pub is_banner : List ℕ → Bool
is_banner line = leb (length line) bytes_most && (goes_on line && are_words banner_tests (words_of line))
