-- "Numbers allowed": limits, widths, defaults, chunks and the sizes of lent memory. Definitions only.
use Rattle.std.specs.Prelude.{List, [], ◌∷◌, ℕ, ◌+◌, ◌*◌, ◌/◌, min, get_or, Float}
use Rattle.std.specs.Float.{binary64}
use Rattle.std.specs.Float.Ieee.{of_bits}

-- D is from 1 to 7, and k = D + 8
abbrev pub dims_most : ℕ
dims_most = 7

abbrev pub oversampling : ℕ
oversampling = 8

abbrev pub width : ℕ → ℕ
width d = d + oversampling

-- rows from 1, entries from 0
abbrev pub rows_most : ℕ
rows_most = 1_048_576

abbrev pub entries_most : ℕ
entries_most = 67_108_864

-- rounds and degree are from 1
abbrev pub rounds_most : ℕ
rounds_most = 1_000

abbrev pub degree_most : ℕ
degree_most = 1_000

abbrev pub default_rounds : ℕ
default_rounds = 5

abbrev pub default_degree : ℕ
default_degree = 20

-- 1e-4
abbrev pub default_seed_std : Float
default_seed_std = of_bits binary64 0x3f1a_36e2_eb1c_432d

-- C is n / 4,096 rounded up
abbrev pub chunk_rows : ℕ
chunk_rows = 4_096

unfoldable pub chunks : ℕ → ℕ
chunks n = (n + 4_095) / chunk_rows

-- chunk h has the rows from `first_row n h` up to `first_row n (h + 1)`
unfoldable pub first_row : ℕ → ℕ → ℕ
first_row n h = min (h * chunk_rows) n

-- the parameters that a caller sets
pub record Params : Type 0 where
  pub rounds : ℕ
  pub degree : ℕ
  pub seed_std : Float

abbrev pub defaults : Params
defaults = record { rounds = default_rounds; degree = default_degree; seed_std = default_seed_std }

-- Lent memory, in order 0 to 10: inverse weights; v0; edge columns and edge weights, for m entries; three blocks; partials; marks; output;
-- the Ritz record, k + 1 numbers for each round
unfoldable pub lent_sizes : ℕ → ℕ → ℕ → ℕ → List ℕ
lent_sizes d rounds n m =
    n ∷ n ∷ m ∷ m ∷ n * width d ∷ n * width d ∷ n * width d ∷ chunks n * width d * width d ∷ chunks n ∷ n * d ∷ rounds * (width d + 1) ∷ []

abbrev pub lent_count : ℕ
lent_count = 11

abbrev pub lent_size : ℕ → ℕ → ℕ → ℕ → ℕ → ℕ
lent_size d rounds n m j = get_or (lent_sizes d rounds n m) j 0
