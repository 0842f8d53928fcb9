-- "The text program": what it prints, whole. Definitions only.
use Rattle.std.specs.Prelude.{List, [], ◌∷◌, ◌++◌, ℕ, zero, suc, Float}
use Rattle.std.specs.Float.{binary64}
use Rattle.std.specs.Float.Ieee.{to_bits}
use Rattle.definition.specs.SpectralEmbedding.{Counts}
use Rattle.digits.specs.Digits.{decimal, hex}

-- a name with its sign, a number, a newline
abbrev pub labelled : List ℕ → ℕ → List ℕ
labelled name v = name ++ (decimal v ++ (10 ∷ []))

-- "answer=", "at=", "n=", "passes=", "refreshed=", "zeroed=", "isolated=", "row="
abbrev pub answer_name : List ℕ
answer_name = 97 ∷ 110 ∷ 115 ∷ 119 ∷ 101 ∷ 114 ∷ 61 ∷ []

abbrev pub at_name : List ℕ
at_name = 97 ∷ 116 ∷ 61 ∷ []

abbrev pub n_name : List ℕ
n_name = 110 ∷ 61 ∷ []

abbrev pub passes_name : List ℕ
passes_name = 112 ∷ 97 ∷ 115 ∷ 115 ∷ 101 ∷ 115 ∷ 61 ∷ []

abbrev pub refreshed_name : List ℕ
refreshed_name = 114 ∷ 101 ∷ 102 ∷ 114 ∷ 101 ∷ 115 ∷ 104 ∷ 101 ∷ 100 ∷ 61 ∷ []

abbrev pub zeroed_name : List ℕ
zeroed_name = 122 ∷ 101 ∷ 114 ∷ 111 ∷ 101 ∷ 100 ∷ 61 ∷ []

abbrev pub isolated_name : List ℕ
isolated_name = 105 ∷ 115 ∷ 111 ∷ 108 ∷ 97 ∷ 116 ∷ 101 ∷ 100 ∷ 61 ∷ []

abbrev pub row_name : List ℕ
row_name = 114 ∷ 111 ∷ 119 ∷ 61 ∷ []

-- "A refusal prints `answer=` and `at=` (its place) only."
unfoldable pub refusal_text : ℕ → ℕ → List ℕ
refusal_text number place = labelled answer_name number ++ labelled at_name place

-- "answer, rows, the four counts"
unfoldable pub head_text : ℕ → Counts → List ℕ
head_text n counts =
    labelled answer_name 0
    ++ (labelled n_name n
    ++ (labelled passes_name counts.passes
    ++ (labelled refreshed_name counts.refreshed
    ++ (labelled zeroed_name counts.zeroed ++ labelled isolated_name counts.isolated))))

-- a number as the hex of its bits; those of every NaN are 7ff8000000000000
abbrev pub bits_text : Float → List ℕ
bits_text x = hex (to_bits binary64 x)

-- the number x in column c of a row: behind a comma unless it is the first
unfoldable pub number_text : ℕ → Float → List ℕ
number_text zero x = bits_text x
number_text (suc c) x = 44 ∷ bits_text x

-- the first m numbers of a row, by commas
unfoldable pub numbers_text : (ℕ → Float) → ℕ → List ℕ
numbers_text row zero = []
numbers_text row (suc zero) = bits_text (row 0)
numbers_text row (suc (suc m)) = numbers_text row (suc m) ++ (44 ∷ bits_text (row (suc m)))

-- "one `row` line per row with D numbers by commas"
abbrev pub row_text : (ℕ → Float) → ℕ → List ℕ
row_text row d = row_name ++ (numbers_text row d ++ (10 ∷ []))

-- the first m rows
unfoldable pub rows_text : (ℕ → ℕ → Float) → ℕ → ℕ → List ℕ
rows_text seed d zero = []
rows_text seed d (suc m) = rows_text seed d m ++ row_text (seed m) d

unfoldable pub seed_text : ℕ → ℕ → Counts → (ℕ → ℕ → Float) → List ℕ
seed_text n d counts seed = head_text n counts ++ rows_text seed d n

-- so many bytes hold every text of at most 64 rows of at most 7 numbers
abbrev pub room : ℕ
room = 8_192
