-- The edges of a row, given its own columns and values, and of a chunk's rows, given the whole lists. Definitions only.
use Rattle.std.specs.Prelude.{◌≡◌, List, ℕ, ◌-◌, ◌≤◌, ltb, Float, length, get_or}
use Rattle.std.specs.Float.{nan}
use Rattle.definition.specs.Arith.{ieee64}
use Rattle.definition.specs.Arrange.{arranged_by}
use Rattle.definition.specs.Memory.{fill_range, row_holding, vector_of, wholes_of}
use Rattle.definition.specs.Numbers.{entries_most}
use Rattle.definition.specs.Requirements.{Starts, Columns}
use Rattle.definition.specs.SpectralEmbedding.{edge_column, weight_of, edge_weight}
use Rattle.edges.specs.Sorting.{Below}

-- the numbers of the row's entries in order
abbrev pub order_of : List ℕ → List ℕ
order_of columns = arranged_by ltb (wholes_of columns) (length columns)

-- the column and the weight of the entry of number x
abbrev pub entry_column : List ℕ → ℕ → ℕ
entry_column columns x = wholes_of columns x

abbrev pub entry_weight : List ℕ → List Float → List Float → ℕ → Float
entry_weight columns values inverse x = weight_of ieee64 (wholes_of columns) (vector_of nan values) (vector_of nan inverse) x

-- a list of as many as the row has, filled with what stands where in order
abbrev pub row_columns : List ℕ → List ℕ → List ℕ
row_columns columns xs = fill_range 0 (length columns) (λ p. entry_column columns (get_or (order_of columns) p 0)) xs

abbrev pub row_weights : List ℕ → List Float → List Float → List Float → List Float
row_weights columns values inverse xs = fill_range 0 (length columns) (λ p. entry_weight columns values inverse (get_or (order_of columns) p 0)) xs

-- the entries of the rows from `first` up to `end` filled with their edges, as the definition has them
abbrev pub chunk_columns : ℕ → ℕ → List ℕ → List ℕ → List ℕ → List ℕ
chunk_columns first end starts columns xs =
    fill_range (wholes_of starts first) (wholes_of starts end)
    (λ p. edge_column (wholes_of starts) (wholes_of columns) (row_holding (wholes_of starts) first (end - first) p) p) xs

abbrev pub chunk_weights : ℕ → ℕ → List ℕ → List ℕ → List Float → List Float → List Float → List Float
chunk_weights first end starts columns values inverse xs =
    fill_range (wholes_of starts first) (wholes_of starts end)
    (λ p. edge_weight ieee64 (wholes_of starts) (wholes_of columns) (vector_of nan values) (vector_of nan inverse) (row_holding (wholes_of starts) first (end - first) p) p) xs

-- what the functions of one row ask: as many of each as the row has entries, and columns within inverse
pub record RowLists (columns : List ℕ) (values inverse : List Float) (edge_columns : List ℕ) (edge_weights : List Float) : Type 0 where
  pub valued : length values ≡ length columns
  pub column-room : length edge_columns ≡ length columns
  pub weight-room : length edge_weights ≡ length columns
  pub below : Below (length inverse) columns

-- what the stage asks: the rows from `first` up to `end` lie within every list, and their columns within inverse
pub record ChunkLists (first end : ℕ) (starts columns : List ℕ) (values inverse : List Float) (edge_columns : List ℕ) (edge_weights : List Float) : Type 0 where
  pub ordered : first ≤ end
  pub few : length columns ≤ entries_most
  pub in_columns : Starts starts first end (length columns)
  pub in_values : Starts starts first end (length values)
  pub in_edge-columns : Starts starts first end (length edge_columns)
  pub in_edge-weights : Starts starts first end (length edge_weights)
  pub in_inverse : Columns columns (wholes_of starts first) (wholes_of starts end) (length inverse)
