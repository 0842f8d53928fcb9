-- The graph of a file as lists of its own. Definitions only.
use Rattle.std.specs.Prelude.{List, [], ◌∷◌, ◌≡◌, ℕ, zero, suc, ◌+◌, ◌≤◌, ◌<◌, Float, length, get_or, replicate}
use Rattle.std.specs.Float.{nan}
use Rattle.ascending.specs.Rows.{row_at}
use Rattle.definition.specs.Arith.{ieee64}
use Rattle.definition.specs.Refusals.{accepted, test_graph}
use Rattle.market.specs.Market.{Entry}
use Rattle.market.specs.Graph.{start_of, placed_of, one}

-- the starts of rows a, a + 1, .. a + m - 1
unfoldable pub starts_from : ℕ → List Entry → ℕ → ℕ → List ℕ
starts_from n es a zero = []
starts_from n es a (suc m) = start_of n es a ∷ starts_from n es (suc a) m

abbrev pub starts_of : ℕ → List Entry → List ℕ
starts_of n es = starts_from n es 0 (suc n)

abbrev pub values_of : ℕ → List Entry → List Float
values_of n es = replicate (placed_of n es) one

-- each number is greater than those before it
pub record Strict (l : List ℕ) : Type 0 where
  pub up : (i j : ℕ) → i < j → j < length l → get_or l i 0 < get_or l j 0

-- an entry's mirror: a place of the row that its column names, with its own row as column and the same value
pub record Mirror (starts columns : List ℕ) (values : List Float) (i p : ℕ) : Type 0 where
  pub at : ℕ
  pub after : get_or starts (get_or columns p 0) 0 ≤ at
  pub before : at < get_or starts (get_or columns p 0 + 1) 0
  pub column : get_or columns at 0 ≡ i
  pub value : get_or values at nan ≡ get_or values p nan

-- "passes 2 to 7, has no column twice in a row, and is symmetric bit for bit"
pub record Symmetric (n : ℕ) (starts columns : List ℕ) (values : List Float) : Type 0 where
  pub passes : test_graph ieee64 starts columns values ≡ accepted
  pub once : (i : ℕ) → i < n → Strict (row_at starts columns i)
  pub mirrors : (i p : ℕ) → i < n → get_or starts i 0 ≤ p → p < get_or starts (i + 1) 0 → Mirror starts columns values i p
