-- What a chunk's work writes, stage by stage: the places whose row, entry or partial is the chunk's own, and what they hold then. Definitions only.
use Rattle.std.specs.Prelude.{Bool, cond, ◌&&◌, ◌||◌, List, ℕ, ◌+◌, ◌-◌, ◌*◌, eqb, leb, ltb, get_or, take}
use Rattle.definition.specs.Arith.{Arith}
use Rattle.definition.specs.ChebyshevRayleighRitz as ritz
use Rattle.definition.specs.ChebyshevRayleighRitz.{first_multipliers, later_multipliers, plain_multipliers, next_alpha, rotated}
use Rattle.definition.specs.ChunkedColumnReduce.{Block, partial_sum, square}
use Rattle.definition.specs.MatvecCombine.{Operator, Multipliers, matvec_combine}
use Rattle.definition.specs.Memory.{row_at, column_at, vector_of, wholes_of, block_of, number_at, row_holding}
use Rattle.definition.specs.Numbers.{first_row}
use Rattle.definition.specs.OrthonormalizeBlock.{Ending, ending, dot_term, subtracted, written}
use Rattle.definition.specs.SpectralEmbedding.{degree_root, inverse_weight, edge_column, edge_weight, v0_of, unscaled, centred, scaled}
use Rattle.held.specs.Places.{fill_where}
use Rattle.machine.specs.State.{Stage, stage_of, Asked, wide, Lists, Progress, State, Lent, with_inverse, with_v0, with_edge_columns, with_edge_weights, with_partials, with_output, block_at, with_block}
use Rattle.machine.specs.State as stage

-- ---- whose place it is
-- row i is chunk h's
abbrev pub own_row : ℕ → ℕ → ℕ → Bool
own_row n h i = leb (first_row n h) i && ltb i (first_row n (h + 1))

-- the entry at place p is one of chunk h's rows'
abbrev pub own_entry : (ℕ → ℕ) → ℕ → ℕ → ℕ → Bool
own_entry start n h p = leb (start (first_row n h)) p && ltb p (start (first_row n (h + 1)))

-- place p of a block of n rows of k numbers keeps a number of one of chunk h's rows
abbrev pub own_place : ℕ → ℕ → ℕ → ℕ → Bool
own_place n k h p = ltb p (n * k) && own_row n h (row_at n k p)

-- place p is one of the first `width` of chunk h's partial, which begins at h x k x k
abbrev pub own_partial : ℕ → ℕ → ℕ → ℕ → Bool
own_partial k width h p = leb (h * (k * k)) p && ltb p (h * (k * k) + width)

-- ---- the blocks: the first in lent order that a pass over blocks c and p doesn't read
abbrev pub free_block : ℕ → ℕ → ℕ
free_block c p = cond (eqb c 0 || eqb p 0) (cond (eqb c 1 || eqb p 1) 2 1) 0

module _ (A : Arith) where
  -- the operator that the lent lists keep
  abbrev pub operator_in : Lists A → Lent A → Operator A
  operator_in g m = record {
    start = wholes_of g.starts;
    column = λ i p. wholes_of m.edge_columns p;
    weight = λ i p. vector_of A.none m.edge_weights p;
    inverse = vector_of A.none m.inverse;
  }

  -- what a filter pass multiplies by: the first of a round, or a later one
  unfoldable pub filter_multipliers : Progress A → Multipliers A
  filter_multipliers p =
      cond (eqb p.pass 0) (first_multipliers A p.bound p.alpha) (later_multipliers A p.bound p.alpha (next_alpha A p.bound p.alpha))

  -- how the attempt at a column ends: once refreshed, it isn't refreshed again
  unfoldable pub ending_in : Progress A → Ending A
  ending_in p = ending A p.before p.norm (eqb p.attempt 1)

  -- ---- what each stage writes
  module _ (a : Asked) where
    -- block b as rows and columns
    abbrev pub held_block : ℕ → Lent A → Block A
    held_block b m = block_of A.none a.rows (wide a) (block_at A b m)

    abbrev pub held_output : Lent A → Block A
    held_output m = block_of A.none a.rows a.dims m.output

    -- a number for each row
    abbrev pub on_rows : (ℕ → A.F) → ℕ → List A.F → List A.F
    on_rows f h l = fill_where (own_row a.rows h) f l

    -- block b holds v in the chunk's rows
    abbrev pub on_block : ℕ → Block A → ℕ → Lent A → Lent A
    on_block b v h m = with_block A b (fill_where (own_place a.rows (wide a) h) (number_at a.rows (wide a) v) (block_at A b m)) m

    abbrev pub on_output : Block A → ℕ → Lent A → Lent A
    on_output v h m = with_output A (fill_where (own_place a.rows a.dims h) (number_at a.rows a.dims v) m.output) m

    -- the chunk's partial of a reduction: f q i is what row i adds at place q, below the width
    abbrev pub on_partials : ℕ → (ℕ → ℕ → A.F) → ℕ → Lent A → Lent A
    on_partials width f h m =
        with_partials A (fill_where (own_partial (wide a) width h) (λ p. partial_sum A a.rows (f (p - h * (wide a * wide a))) h) m.partials) m

    -- a pass over blocks c and p
    abbrev pub pass_work : Multipliers A → ℕ → ℕ → Lists A → ℕ → Lent A → Lent A
    pass_work by c p g h m = on_block (free_block c p) (matvec_combine A (operator_in g m) by (held_block c m) (held_block p m)) h m

    -- a run reads the first n + 1 starts, and as many columns and values as it was opened with
    abbrev pub column_in : Lists A → ℕ → ℕ
    column_in g = wholes_of (take a.entries g.columns)

    abbrev pub value_in : Lists A → ℕ → A.F
    value_in g = vector_of A.none (take a.entries g.values)

    -- the row of chunk h that has the entry at place p
    abbrev pub row_in : Lists A → ℕ → ℕ → ℕ
    row_in g h p = row_holding (wholes_of g.starts) (first_row a.rows h) (first_row a.rows (h + 1) - first_row a.rows h) p

    abbrev pub degrees_work : Lists A → ℕ → Lent A → Lent A
    degrees_work g h m =
        with_v0 A (on_rows (degree_root A (wholes_of g.starts) (vector_of A.none g.values)) h m.v0)
        (with_inverse A (on_rows (inverse_weight A (wholes_of g.starts) (vector_of A.none g.values)) h m.inverse) m)

    abbrev pub edges_work : Lists A → ℕ → Lent A → Lent A
    edges_work g h m =
        with_edge_weights A
        (fill_where (own_entry (wholes_of g.starts) a.rows h)
        (λ p. edge_weight A (wholes_of g.starts) (column_in g) (value_in g) (vector_of A.none m.inverse) (row_in g h p) p) m.edge_weights)
        (with_edge_columns A
        (fill_where (own_entry (wholes_of g.starts) a.rows h) (λ p. edge_column (wholes_of g.starts) (column_in g) (row_in g h p) p) m.edge_columns) m)

    abbrev pub v0_work : A.F → ℕ → Lent A → Lent A
    v0_work norm h m = with_v0 A (on_rows (λ i. v0_of A norm (vector_of A.none m.v0 i)) h m.v0) m

    abbrev pub norm_work : Progress A → ℕ → Lent A → Lent A
    norm_work p h m = on_partials 1 (λ q i. square A (held_block p.current m i p.column)) h m

    abbrev pub dots_work : Progress A → ℕ → Lent A → Lent A
    dots_work p h m = on_partials (p.column + 1) (dot_term A (vector_of A.none m.v0) (held_block p.current m) p.column) h m

    abbrev pub subtract_work : Progress A → List A.F → ℕ → Lent A → Lent A
    subtract_work p totals h m =
        on_block p.current (subtracted A (vector_of A.none totals) (vector_of A.none m.v0) (held_block p.current m) p.column) h m

    abbrev pub write_work : Progress A → ℕ → Lent A → Lent A
    write_work p h m = on_block p.current (written A a.rows (wide a) p.round p.column (ending_in p) (held_block p.current m)) h m

    -- column p of the current block by column q of the plain pass's, at place p x k + q
    abbrev pub products_work : Progress A → ℕ → Lent A → Lent A
    products_work p h m =
        on_partials (wide a * wide a)
        (λ q i. A.mul (held_block p.current m i (row_at (wide a) (wide a) q)) (held_block (free_block p.current p.current) m i (column_at (wide a) (wide a) q))) h m

    abbrev pub rotate_work : Progress A → List A.F → List ℕ → ℕ → Lent A → Lent A
    rotate_work p vectors order h m =
        on_output
        (unscaled A (vector_of A.none m.inverse)
        (rotated A (wide a) (held_block p.current m) (block_of A.none (wide a) (wide a) vectors) order)) h m

    abbrev pub sums_work : ℕ → Lent A → Lent A
    sums_work h m = on_partials a.dims (λ q i. held_output m i q) h m

    abbrev pub centre_work : List A.F → ℕ → Lent A → Lent A
    centre_work totals h m = on_output (centred A a.rows (vector_of A.none totals) (held_output m)) h m

    abbrev pub squares_work : ℕ → Lent A → Lent A
    squares_work h m = on_partials a.dims (λ q i. square A (held_output m i q)) h m

    abbrev pub scale_work : List A.F → ℕ → Lent A → Lent A
    scale_work totals h m = on_output (scaled A (vector_of A.none totals) (held_output m)) h m

  -- ---- the work of chunk h, by the stage
  abbrev pub work_by : Stage → State A → Lists A → ℕ → Lent A → Lent A
  work_by stage.empty s g h m = m
  work_by stage.degrees s g h m = degrees_work s.asked g h m
  work_by stage.edges s g h m = edges_work s.asked g h m
  work_by stage.v0 s g h m = v0_work s.asked s.progress.norm h m
  work_by stage.start_block s g h m = on_block s.asked 0 (ritz.start_block A (wide s.asked)) h m
  work_by stage.filter_pass s g h m = pass_work s.asked (filter_multipliers s.progress) s.progress.current s.progress.previous g h m
  work_by stage.norm_before s g h m = norm_work s.asked s.progress h m
  work_by stage.first_dots s g h m = dots_work s.asked s.progress h m
  work_by stage.first_subtract s g h m = subtract_work s.asked s.progress s.totals h m
  work_by stage.second_dots s g h m = dots_work s.asked s.progress h m
  work_by stage.second_subtract s g h m = subtract_work s.asked s.progress s.totals h m
  work_by stage.norm_after s g h m = norm_work s.asked s.progress h m
  work_by stage.write s g h m = write_work s.asked s.progress h m
  work_by stage.plain_pass s g h m = pass_work s.asked (plain_multipliers A) s.progress.current s.progress.current g h m
  work_by stage.products s g h m = products_work s.asked s.progress h m
  work_by stage.rotate s g h m = rotate_work s.asked s.progress s.vectors s.order h m
  work_by stage.sums s g h m = sums_work s.asked h m
  work_by stage.centre s g h m = centre_work s.asked s.totals h m
  work_by stage.squares s g h m = squares_work s.asked h m
  work_by stage.scale s g h m = scale_work s.asked s.totals h m
  work_by stage.ended s g h m = m

  unfoldable pub work : State A → Lists A → ℕ → Lent A → Lent A
  work s g h m = work_by (stage_of s.progress.stage) s g h m
