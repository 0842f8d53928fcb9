-- Lists in memory: where a block keeps its numbers, and what a filled range is. Definitions only.
use Rattle.std.specs.Prelude.{cond, ◌&&◌, List, [], ◌∷◌, ℕ, zero, suc, ◌+◌, ◌*◌, ◌/◌, ◌%◌, leb, ltb, get_or}

-- where a block of n rows of k numbers keeps row i, column c; and the row and the column that a place keeps
unfoldable pub place : ℕ → ℕ → ℕ → ℕ → ℕ
place n k i c = i * k + c

unfoldable pub row_at : ℕ → ℕ → ℕ → ℕ
row_at n k p = p / k

unfoldable pub column_at : ℕ → ℕ → ℕ → ℕ
column_at n k p = p % k

-- a list as a function of its places, with `none` past its end
abbrev pub vector_of : {E : Type 0} → E → List E → ℕ → E
vector_of none l i = get_or l i none

abbrev pub wholes_of : List ℕ → ℕ → ℕ
wholes_of l i = get_or l i 0

-- a list that keeps a block of n rows of k numbers, as a function of row and column
unfoldable pub block_of : {E : Type 0} → E → ℕ → ℕ → List E → ℕ → ℕ → E
block_of none n k l i c = get_or l (place n k i c) none

-- the number that a list which keeps a block has at a place
unfoldable pub number_at : {E : Type 0} → ℕ → ℕ → (ℕ → ℕ → E) → ℕ → E
number_at n k v p = v (row_at n k p) (column_at n k p)

-- the row, of the m rows from `first` on, that has the entry at place p: the last one that starts at or before p
unfoldable pub row_holding : (ℕ → ℕ) → ℕ → ℕ → ℕ → ℕ
row_holding start first zero p = first
row_holding start first (suc m) p = cond (leb (start (first + m)) p) (first + m) (row_holding start first m p)

module _ {E : Type 0} where
  -- the element at place i of the list as g (n + i) of it
  unfoldable pub map_from : ℕ → (ℕ → E → E) → List E → List E
  map_from n g [] = []
  map_from n g (x ∷ xs) = g n x ∷ map_from (suc n) g xs

  -- f i where i is from a up to e, and x elsewhere
  unfoldable pub pick : ℕ → ℕ → (ℕ → E) → ℕ → E → E
  pick a e f i x = cond (leb a i && ltb i e) (f i) x

  -- xs with the places from a up to e holding f of the place
  unfoldable pub fill_range : ℕ → ℕ → (ℕ → E) → List E → List E
  fill_range a e f xs = map_from 0 (pick a e f) xs
