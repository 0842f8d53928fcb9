-- What a held run keeps between calls: its state, a record by value, and the lent lists beside it. Definitions only.
use Rattle.std.specs.Prelude.{List, [], ◌∷◌, ℕ, zero, suc, ◌-◌, Float, length, get_or, replicate}
use Rattle.definition.specs.Arith.{Arith}
use Rattle.definition.specs.ChebyshevRayleighRitz.{first_alpha}
use Rattle.definition.specs.Numbers.{Params, width, chunks, default_seed_std}
use Rattle.definition.specs.SpectralEmbedding.{Counts}

-- the stages in document 01's order, between "no run yet" and "the run has ended"
pub data Stage : Type 0 where
  empty degrees edges v0 start_block filter_pass norm_before first_dots first_subtract second_dots second_subtract norm_after write plain_pass products rotate sums centre squares scale ended : Stage

-- a stage by its number, from 0
abbrev pub stage_of : ℕ → Stage
stage_of s =
    get_or
    (empty ∷ degrees ∷ edges ∷ v0 ∷ start_block ∷ filter_pass ∷ norm_before ∷ first_dots ∷ first_subtract ∷ second_dots ∷ second_subtract
    ∷ norm_after ∷ write ∷ plain_pass ∷ products ∷ rotate ∷ sums ∷ centre ∷ squares ∷ scale ∷ ended ∷ [])
    s ended

abbrev pub last_stage : ℕ
last_stage = 20

-- what was asked at the opening
pub record Asked : Type 0 where
  pub dims : ℕ
  pub rows : ℕ
  pub entries : ℕ
  pub rounds : ℕ
  pub degree : ℕ
  pub seed_std : Float

-- k, and C
abbrev pub wide : Asked → ℕ
wide a = width a.dims

abbrev pub chunk_count : Asked → ℕ
chunk_count a = chunks a.rows

-- the numbers of a state's arrays: the largest matrix, and the largest order
abbrev pub matrix_room : ℕ
matrix_room = 225

abbrev pub order_room : ℕ
order_room = 15

-- the lists of a graph, as each call gets them
module _ (A : Arith) where
  pub record Lists : Type 0 where
    pub starts : List ℕ
    pub columns : List ℕ
    pub values : List A.F

  -- where a run is: the stage's number, the round, the filter's pass, the column and whether it was refreshed (1), the block that is
  -- current and the one before it, the bound and alpha of the filter, and the norms of the column before and after it was projected
  -- (`norm` is the norm of the roots while v0 is made)
  pub record Progress : Type 0 where
    pub stage : ℕ
    pub round : ℕ
    pub pass : ℕ
    pub column : ℕ
    pub attempt : ℕ
    pub current : ℕ
    pub previous : ℕ
    pub bound : A.F
    pub alpha : A.F
    pub before : A.F
    pub norm : A.F

  -- the totals of the reduction that closed last, and the last round's matrix, Ritz vectors and Ritz order
  pub record State : Type 0 where
    pub asked : Asked
    pub progress : Progress
    pub counts : Counts
    pub totals : List A.F
    pub matrix : List A.F
    pub vectors : List A.F
    pub order : List ℕ

  -- lent memory 0 to 10 but for 8, the marks
  pub record Lent : Type 0 where
    pub inverse : List A.F
    pub v0 : List A.F
    pub edge_columns : List ℕ
    pub edge_weights : List A.F
    pub block0 : List A.F
    pub block1 : List A.F
    pub block2 : List A.F
    pub partials : List A.F
    pub output : List A.F
    pub ritz_record : List A.F

  -- the lengths of lent memory 0 to 10
  abbrev pub lengths_of : Lent → List ℕ → List ℕ
  lengths_of m marks =
      length m.inverse ∷ length m.v0 ∷ length m.edge_columns ∷ length m.edge_weights ∷ length m.block0 ∷ length m.block1
      ∷ length m.block2 ∷ length m.partials ∷ length marks ∷ length m.output ∷ length m.ritz_record ∷ []

  -- ---- one list of the memory set
  abbrev pub with_inverse : List A.F → Lent → Lent
  with_inverse l m = record { inverse = l; v0 = m.v0; edge_columns = m.edge_columns; edge_weights = m.edge_weights; block0 = m.block0; block1 = m.block1; block2 = m.block2; partials = m.partials; output = m.output; ritz_record = m.ritz_record }

  abbrev pub with_v0 : List A.F → Lent → Lent
  with_v0 l m = record { inverse = m.inverse; v0 = l; edge_columns = m.edge_columns; edge_weights = m.edge_weights; block0 = m.block0; block1 = m.block1; block2 = m.block2; partials = m.partials; output = m.output; ritz_record = m.ritz_record }

  abbrev pub with_edge_columns : List ℕ → Lent → Lent
  with_edge_columns l m = record { inverse = m.inverse; v0 = m.v0; edge_columns = l; edge_weights = m.edge_weights; block0 = m.block0; block1 = m.block1; block2 = m.block2; partials = m.partials; output = m.output; ritz_record = m.ritz_record }

  abbrev pub with_edge_weights : List A.F → Lent → Lent
  with_edge_weights l m = record { inverse = m.inverse; v0 = m.v0; edge_columns = m.edge_columns; edge_weights = l; block0 = m.block0; block1 = m.block1; block2 = m.block2; partials = m.partials; output = m.output; ritz_record = m.ritz_record }

  abbrev pub with_partials : List A.F → Lent → Lent
  with_partials l m = record { inverse = m.inverse; v0 = m.v0; edge_columns = m.edge_columns; edge_weights = m.edge_weights; block0 = m.block0; block1 = m.block1; block2 = m.block2; partials = l; output = m.output; ritz_record = m.ritz_record }

  abbrev pub with_output : List A.F → Lent → Lent
  with_output l m = record { inverse = m.inverse; v0 = m.v0; edge_columns = m.edge_columns; edge_weights = m.edge_weights; block0 = m.block0; block1 = m.block1; block2 = m.block2; partials = m.partials; output = l; ritz_record = m.ritz_record }

  abbrev pub with_record : List A.F → Lent → Lent
  with_record l m = record { inverse = m.inverse; v0 = m.v0; edge_columns = m.edge_columns; edge_weights = m.edge_weights; block0 = m.block0; block1 = m.block1; block2 = m.block2; partials = m.partials; output = m.output; ritz_record = l }

  -- block 0, 1 or, for any other number, 2
  abbrev pub block_at : ℕ → Lent → List A.F
  block_at zero m = m.block0
  block_at (suc zero) m = m.block1
  block_at (suc (suc b)) m = m.block2

  abbrev pub with_block : ℕ → List A.F → Lent → Lent
  with_block zero l m = record { inverse = m.inverse; v0 = m.v0; edge_columns = m.edge_columns; edge_weights = m.edge_weights; block0 = l; block1 = m.block1; block2 = m.block2; partials = m.partials; output = m.output; ritz_record = m.ritz_record }
  with_block (suc zero) l m = record { inverse = m.inverse; v0 = m.v0; edge_columns = m.edge_columns; edge_weights = m.edge_weights; block0 = m.block0; block1 = l; block2 = m.block2; partials = m.partials; output = m.output; ritz_record = m.ritz_record }
  with_block (suc (suc b)) l m = record { inverse = m.inverse; v0 = m.v0; edge_columns = m.edge_columns; edge_weights = m.edge_weights; block0 = m.block0; block1 = m.block1; block2 = l; partials = m.partials; output = m.output; ritz_record = m.ritz_record }

  -- ---- the state of a run as it opens; the state where none is open has the least numbers allowed
  unfoldable pub begun_at : ℕ → Asked → State
  begun_at stage a = record {
    asked = a;
    progress = record {
      stage = stage;
      round = 0;
      pass = 0;
      column = 0;
      attempt = 0;
      current = 0;
      previous = 0;
      bound = A.bound_first;
      alpha = first_alpha A A.bound_first;
      before = A.zero;
      norm = A.zero;
    };
    counts = record { passes = 0; refreshed = 0; zeroed = 0; isolated = 0 };
    totals = replicate matrix_room A.zero;
    matrix = replicate matrix_room A.zero;
    vectors = replicate matrix_room A.zero;
    order = replicate order_room 0;
  }

  abbrev pub asked_of : ℕ → Params → Lists → Asked
  asked_of d p g = record {
    dims = d;
    rows = length g.starts - 1;
    entries = length g.columns;
    rounds = p.rounds;
    degree = p.degree;
    seed_std = p.seed_std;
  }

  unfoldable pub opened_state : ℕ → Params → Lists → State
  opened_state d p g = begun_at 1 (asked_of d p g)

  unfoldable pub empty_state : State
  empty_state = begun_at 0 (record { dims = 1; rows = 1; entries = 0; rounds = 1; degree = 1; seed_std = default_seed_std })
