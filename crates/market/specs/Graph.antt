-- The graph that a file's entries are: "Each entry becomes value 1.0, off the diagonal it is placed in both rows, a row's entries rise by
-- column". Definitions only.
use Rattle.std.specs.Prelude.{Bool, cond, ◌||◌, List, [], ◌∷◌, ◌++◌, ℕ, zero, suc, ◌+◌, Float, length, get_or}
use Rattle.std.specs.Float.{binary64}
use Rattle.std.specs.Float.Ieee.{of_bits}
use Rattle.definition.specs.Memory.{fill_range}
use Rattle.market.specs.Market.{Entry, has}

-- whether row i has column j, both counted from 0
unfoldable pub linked : List Entry → ℕ → ℕ → Bool
linked es i j = has es (suc i) (suc j) || has es (suc j) (suc i)

-- those of the m numbers from a on that pass a test
unfoldable pub passing : (ℕ → Bool) → ℕ → ℕ → List ℕ
passing p a zero = []
passing p a (suc m) = cond (p a) (a ∷ passing p (suc a) m) (passing p (suc a) m)

-- row i of n
unfoldable pub row_of : ℕ → List Entry → ℕ → List ℕ
row_of n es i = passing (linked es i) 0 n

-- the columns of the first i rows, and where row i starts
unfoldable pub columns_up_to : ℕ → List Entry → ℕ → List ℕ
columns_up_to n es zero = []
columns_up_to n es (suc i) = columns_up_to n es i ++ row_of n es i

unfoldable pub start_of : ℕ → List Entry → ℕ → ℕ
start_of n es i = length (columns_up_to n es i)

-- all columns, and how many there are: the entries as placed
abbrev pub columns_of : ℕ → List Entry → List ℕ
columns_of n es = columns_up_to n es n

abbrev pub placed_of : ℕ → List Entry → ℕ
placed_of n es = start_of n es n

abbrev pub one : Float
one = of_bits binary64 0x3ff0_0000_0000_0000

-- the lent lists with the graph in front, "numbers behind them untouched"
abbrev pub with_starts : ℕ → List Entry → List ℕ → List ℕ
with_starts n es starts = fill_range 0 (n + 1) (start_of n es) starts

abbrev pub with_columns : ℕ → List Entry → List ℕ → List ℕ
with_columns n es columns = fill_range 0 (placed_of n es) (λ p. get_or (columns_of n es) p 0) columns

abbrev pub with_values : ℕ → List Entry → List Float → List Float
with_values n es values = fill_range 0 (placed_of n es) (λ p. one) values
