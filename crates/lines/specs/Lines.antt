-- The lines of a text, and the words of a line. Definitions only.
use Rattle.std.specs.Prelude.{Bool, false, cond, not, ◌&&◌, ◌||◌, List, [], ◌∷◌, ℕ, eqb}

-- whether a list begins with b, and whether it has b
unfoldable pub begins : ℕ → List ℕ → Bool
begins b [] = false
begins b (x ∷ xs) = eqb x b

unfoldable pub holds : ℕ → List ℕ → Bool
holds b [] = false
holds b (x ∷ xs) = eqb x b || holds b xs

-- a byte put before the first of some lists
unfoldable pub on_first : ℕ → List (List ℕ) → List (List ℕ)
on_first b [] = (b ∷ []) ∷ []
on_first b (l ∷ ls) = (b ∷ l) ∷ ls

-- "A line ends with a newline, or a carriage return and a newline, or the end of the file (an end right after a newline begins no line)":
-- a carriage return before a newline is no byte of its line
unfoldable pub lines_of : List ℕ → List (List ℕ)
lines_of [] = []
lines_of (b ∷ bs) = cond (eqb b 10) ([] ∷ lines_of bs) (cond (eqb b 13 && begins 10 bs) (lines_of bs) (on_first b (lines_of bs)))

-- "blanks (spaces or tabs)"
unfoldable pub is_blank : ℕ → Bool
is_blank b = eqb b 32 || eqb b 9

-- whether a word goes on there
unfoldable pub goes_on : List ℕ → Bool
goes_on [] = false
goes_on (b ∷ bs) = not (is_blank b)

-- the words of a line, "by blanks", of which "one or more" stand between two words and any number before and behind
unfoldable pub words_of : List ℕ → List (List ℕ)
words_of [] = []
words_of (b ∷ bs) = cond (is_blank b) (words_of bs) (cond (goes_on bs) (on_first b (words_of bs)) ((b ∷ []) ∷ words_of bs))
