-- What a line behind the banner says. Definitions only.
use Rattle.std.specs.Prelude.{Bool, true, cond, ◌&&◌, List, [], ◌∷◌, ℕ, leb, ltb, length, drop}
use Rattle.digits.specs.Digits.{every, is_digit, value_from}
use Rattle.lines.specs.Lines.{begins, holds, lines_of, words_of}
use Rattle.lines.specs.declared.Kind.{Kind}
use Rattle.lines.specs.declared.Kind.TheVariants.{Blank, Comment, Entry, Size, Other}

-- "No line has more than 1,024 characters"
abbrev pub bytes_most : ℕ
bytes_most = 1_024

-- "decimal digits, leading zeros allowed, no sign; 2^64 or more is a fault of its line"
abbrev pub largest : ℕ
largest = 0xffff_ffff_ffff_ffff

abbrev pub value_of : List ℕ → ℕ
value_of word = value_from 0 word

unfoldable pub is_number : List ℕ → Bool
is_number word = every is_digit word && leb (value_of word) largest

unfoldable pub are_numbers : List (List ℕ) → Bool
are_numbers [] = true
are_numbers (w ∷ ws) = is_number w && are_numbers ws

-- by how many numbers stand there: an entry's row and column; rows, columns and entries of the size line
unfoldable pub kind_by : List (List ℕ) → Kind
kind_by [] = Blank
kind_by (a ∷ []) = Other
kind_by (a ∷ b ∷ []) = Entry (value_of a) (value_of b)
kind_by (a ∷ b ∷ c ∷ []) = Size (value_of a) (value_of b) (value_of c)
kind_by (a ∷ b ∷ c ∷ d ∷ ws) = Other

unfoldable pub numbers_in : List ℕ → Kind
numbers_in line = cond (are_numbers (words_of line)) (kind_by (words_of line)) Other

-- a comment "holds any byte" that a line may hold: "a carriage return elsewhere is a fault"
unfoldable pub kind_of : List ℕ → Kind
kind_of line = cond (ltb bytes_most (length line)) Other (cond (begins 37 line) (cond (holds 13 line) Other Comment) (numbers_in line))

unfoldable pub kinds_of : List (List ℕ) → List Kind
kinds_of [] = []
kinds_of (l ∷ ls) = kind_of l ∷ kinds_of ls

-- the lines from a place on, which is where one begins
abbrev pub kinds_at : List ℕ → ℕ → List Kind
kinds_at text at = kinds_of (lines_of (drop at text))
