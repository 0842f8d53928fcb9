-- `spectral_embedding`: from the graph to the seed and the counts. Definitions only.
use Rattle.std.specs.Prelude.{Bool, true, false, cond, List, ℕ, zero, suc, ◌+◌, ◌-◌, ◌*◌, ltb, length, get_or}
use Rattle.definition.specs.Arith.{Arith}
use Rattle.definition.specs.Numbers.{Params, width}
use Rattle.definition.specs.ChunkedColumnReduce.{Vector, Block, sum_up, chunked_sum, square}
use Rattle.definition.specs.MatvecCombine.{Operator}
use Rattle.definition.specs.Arrange.{arranged_by}
use Rattle.definition.specs.ChebyshevRayleighRitz.{Solving, solved, record_at, rotated}

-- what a whole run counts: passes closed; columns refreshed and zeroed over all rounds; rows whose root was not above 1e-12
pub record Counts : Type 0 where
  pub passes : ℕ
  pub refreshed : ℕ
  pub zeroed : ℕ
  pub isolated : ℕ

-- row i's entries sorted by column, equal columns in input order
-- the entries from a up to e, as places counted from a
unfoldable pub row_order : (ℕ → ℕ) → ℕ → ℕ → List ℕ
row_order column a e = arranged_by ltb (λ p. column (a + p)) (e - a)

-- the entry that stands at place p of row i
unfoldable pub edge : (ℕ → ℕ) → (ℕ → ℕ) → ℕ → ℕ → ℕ
edge start column i p = start i + get_or (row_order column (start i) (start (i + 1))) (p - start i) 0

unfoldable pub edge_column : (ℕ → ℕ) → (ℕ → ℕ) → ℕ → ℕ → ℕ
edge_column start column i p = column (edge start column i p)

module _ (A : Arith) where
  -- ---- degrees and inverse weights
  -- row sums in input order from +0
  unfoldable pub degree : (ℕ → ℕ) → (ℕ → A.F) → Vector A
  degree start value i = sum_up A value (start i) (start (i + 1))

  unfoldable pub degree_root : (ℕ → ℕ) → (ℕ → A.F) → Vector A
  degree_root start value i = A.root (degree start value i)

  -- the root > 1e-12, which no NaN is
  abbrev pub above_floor : A.F → Bool
  above_floor root = A.lt A.weight_floor root

  -- 1/root if the root > 1e-12, else 1e-12
  unfoldable pub inverse_of : A.F → A.F
  inverse_of root = cond (above_floor root) (A.div A.one root) A.weight_floor

  unfoldable pub inverse_weight : (ℕ → ℕ) → (ℕ → A.F) → Vector A
  inverse_weight start value i = inverse_of (degree_root start value i)

  -- the rows that took 1e-12 because their root was not above it, among the first n
  unfoldable pub isolated_rows : ℕ → Vector A → ℕ
  isolated_rows zero root = 0
  isolated_rows (suc n) root = isolated_rows n root + cond (above_floor (root n)) 0 1

  -- ---- edges
  -- value x inverse weight of the column
  unfoldable pub weight_of : (ℕ → ℕ) → (ℕ → A.F) → Vector A → ℕ → A.F
  weight_of column value inverse e = A.mul (value e) (inverse (column e))

  unfoldable pub edge_weight : (ℕ → ℕ) → (ℕ → ℕ) → (ℕ → A.F) → Vector A → ℕ → ℕ → A.F
  edge_weight start column value inverse i p = weight_of column value inverse (edge start column i p)

  -- ---- v0 = root / norm, its squares summed serially over all n; all +0 unless norm > 0
  unfoldable pub root_norm : ℕ → Vector A → A.F
  root_norm n root = A.root (sum_up A (λ i. square A (root i)) 0 n)

  unfoldable pub v0_of : A.F → A.F → A.F
  v0_of norm root = cond (A.lt A.zero norm) (A.div root norm) A.zero

  -- ---- the last steps, on the output of n rows
  -- multiply by inverse weight
  unfoldable pub unscaled : Vector A → Block A → Block A
  unscaled inverse u i d = A.mul (u i d) (inverse i)

  unfoldable pub column_sum : ℕ → Block A → ℕ → A.F
  column_sum n u d = chunked_sum A n (λ i. u i d)

  -- subtract sum/n
  unfoldable pub centred : ℕ → (ℕ → A.F) → Block A → Block A
  centred n sums u i d = A.sub (u i d) (A.div (sums d) (A.whole n))

  unfoldable pub square_sum : ℕ → Block A → ℕ → A.F
  square_sum n u d = chunked_sum A n (λ i. square A (u i d))

  -- multiply by seed_std/std, or by 1 unless std > 1e-30
  unfoldable pub spread : ℕ → A.F → A.F
  spread n squares = A.root (A.div squares (A.whole n))

  unfoldable pub scale_of : A.F → A.F → A.F
  scale_of target std = cond (A.lt A.spread_floor std) (A.div target std) A.one

  unfoldable pub scaled : (ℕ → A.F) → Block A → Block A
  scaled scales u i d = A.mul (u i d) (scales d)

  -- ---- the seed
  -- Row i has the entries from start i up to start (i + 1).
  pub record Graph : Type 0 where
    pub rows : ℕ
    pub start : ℕ → ℕ
    pub column : ℕ → ℕ
    pub value : ℕ → A.F

  -- the graph of n + 1 row starts, columns and values
  abbrev pub graph_of : List ℕ → List ℕ → List A.F → Graph
  graph_of starts columns values = record {
    rows = length starts - 1;
    start = λ i. get_or starts i 0;
    column = λ e. get_or columns e 0;
    value = λ e. get_or values e A.none;
  }

  abbrev pub inverse_of_row : Graph → Vector A
  inverse_of_row g = inverse_weight g.start g.value

  abbrev pub root_of_row : Graph → Vector A
  root_of_row g = degree_root g.start g.value

  unfoldable pub operator : Graph → Operator A
  operator g = record {
    start = g.start;
    column = edge_column g.start g.column;
    weight = edge_weight g.start g.column g.value (inverse_of_row g);
    inverse = inverse_of_row g;
  }

  unfoldable pub v0 : Graph → Vector A
  v0 g i = v0_of (root_norm g.rows (root_of_row g)) (root_of_row g i)

  module _ (d : ℕ) (params : Params) (g : Graph) where
    unfoldable pub solution : Solving A
    solution = solved A d params g.rows (operator g) (v0 g)

    -- what the run record says of round r: the bound at place 0, the Ritz values behind it
    unfoldable pub ritz_record : ℕ → ℕ → A.F
    ritz_record r j = record_at A d params g.rows (operator g) (v0 g) r j

    unfoldable pub eigenmap : Block A
    eigenmap = unscaled (inverse_of_row g) (rotated A (width d) solution.basis.block solution.vectors solution.order)

    unfoldable pub centred_map : Block A
    centred_map = centred g.rows (column_sum g.rows eigenmap) eigenmap

    unfoldable pub scales : ℕ → A.F
    scales c = scale_of (A.seed_std params.seed_std) (spread g.rows (square_sum g.rows centred_map c))

    -- row i, dimension c
    unfoldable pub seed_at : Block A
    seed_at = scaled scales centred_map

    unfoldable pub counts : Counts
    counts = record {
      passes = params.rounds * (params.degree + 1);
      refreshed = solution.basis.refreshed;
      zeroed = solution.basis.zeroed;
      isolated = isolated_rows g.rows (root_of_row g);
    }
