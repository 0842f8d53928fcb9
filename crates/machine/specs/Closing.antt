-- What closing a stage does to the state: the serial part, and where the run goes on; and to the lent lists: the Ritz record. Definitions only.
use Rattle.std.specs.Prelude.{Bool, cond, List, ◌++◌, ℕ, zero, suc, ◌+◌, ◌-◌, ◌*◌, eqb, ltb, replicate, get_or}
use Rattle.definition.specs.Arith.{Arith}
use Rattle.definition.specs.ChebyshevRayleighRitz.{first_alpha, next_alpha, ritz_order, ritz_value, bound_after}
use Rattle.definition.specs.ChunkedColumnReduce.{sum_up}
use Rattle.definition.specs.JacobiEigen.{Matrix, symmetrized, jacobi_eigen}
use Rattle.definition.specs.Memory.{vector_of, block_of, number_at, fill_range}
use Rattle.definition.specs.OrthonormalizeBlock.{Ending, kept, refreshed, zeroed, raised_refreshed, raised_zeroed}
use Rattle.definition.specs.SpectralEmbedding.{Counts, isolated_rows, root_norm, spread, scale_of}
use Rattle.machine.specs.State.{Stage, stage_of, Asked, wide, chunk_count, matrix_room, order_room, Progress, State, Lent, with_record}
use Rattle.machine.specs.State as stage
use Rattle.machine.specs.Work.{free_block, ending_in}

-- a pass more
abbrev pub pass_counted : Counts → Counts
pass_counted t = record { passes = t.passes + 1; refreshed = t.refreshed; zeroed = t.zeroed; isolated = t.isolated }

-- the isolated rows, whatever was there before
abbrev pub isolated_counted : ℕ → Counts → Counts
isolated_counted n t = record { passes = t.passes; refreshed = t.refreshed; zeroed = t.zeroed; isolated = n }

module _ (A : Arith) where
  -- ---- the totals: the partials upward, a number at each place below the width, zeros behind it
  unfoldable pub total_at : Asked → List A.F → ℕ → A.F
  total_at a partials q = sum_up A (λ h. vector_of A.none partials (h * (wide a * wide a) + q)) 0 (chunk_count a)

  unfoldable pub totals_of : Asked → ℕ → List A.F → List A.F
  totals_of a width partials = fill_range 0 width (total_at a partials) (replicate matrix_room A.zero)

  -- the root of the total at place 0
  unfoldable pub norm_of : Asked → List A.F → A.F
  norm_of a partials = A.root (total_at a partials 0)

  -- each column's scale in place of its sum of squares
  unfoldable pub scales_of : Asked → List A.F → List A.F
  scales_of a partials =
      let squares = totals_of a a.dims partials in
      fill_range 0 a.dims (λ c. scale_of A (A.seed_std a.seed_std) (spread A a.rows (vector_of A.none squares c))) squares

  -- ---- matrices in the state's arrays
  abbrev pub matrix_in : ℕ → List A.F → Matrix A
  matrix_in k l = block_of A.none k k l

  abbrev pub matrix_held : ℕ → Matrix A → List A.F → List A.F
  matrix_held k b l = fill_range 0 (k * k) (number_at k k b) l

  -- the products symmetrized; their eigenvalues on the diagonal of a matrix, and its vectors
  unfoldable pub symmetric_in : ℕ → List A.F → List A.F
  symmetric_in k l = matrix_held k (symmetrized A (matrix_in k l)) l

  unfoldable pub eigen_matrix : ℕ → List A.F → List A.F
  eigen_matrix k l = matrix_held k (jacobi_eigen A k (matrix_in k l)).matrix l

  unfoldable pub eigen_vectors : ℕ → List A.F → List A.F
  eigen_vectors k l = matrix_held k (jacobi_eigen A k (matrix_in k l)).vectors (replicate matrix_room A.zero)

  -- the Ritz places in order, zeros behind them
  unfoldable pub order_in : ℕ → List A.F → List ℕ
  order_in k matrix = ritz_order A k (ritz_value A (matrix_in k matrix)) ++ replicate (order_room - k) 0

  -- ---- the state moved on
  -- to another stage, all else as it is
  abbrev pub moved_to : ℕ → Progress A → Progress A
  moved_to st p = record { stage = st; round = p.round; pass = p.pass; column = p.column; attempt = p.attempt; current = p.current; previous = p.previous; bound = p.bound; alpha = p.alpha; before = p.before; norm = p.norm }

  abbrev pub with_norm : ℕ → A.F → Progress A → Progress A
  with_norm st norm p = record { stage = st; round = p.round; pass = p.pass; column = p.column; attempt = p.attempt; current = p.current; previous = p.previous; bound = p.bound; alpha = p.alpha; before = p.before; norm = norm }

  abbrev pub with_before : ℕ → A.F → Progress A → Progress A
  with_before st norm p = record { stage = st; round = p.round; pass = p.pass; column = p.column; attempt = p.attempt; current = p.current; previous = p.previous; bound = p.bound; alpha = p.alpha; before = norm; norm = p.norm }

  -- the filter's next pass, or the first column; the block that was written is current; the first pass keeps alpha
  abbrev pub after_filter : Asked → Progress A → Progress A
  after_filter a p = record {
    stage = cond (ltb (p.pass + 1) a.degree) 5 6;
    round = p.round;
    pass = cond (ltb (p.pass + 1) a.degree) (p.pass + 1) 0;
    column = p.column;
    attempt = p.attempt;
    current = free_block p.current p.previous;
    previous = p.current;
    bound = p.bound;
    alpha = cond (eqb p.pass 0) p.alpha (next_alpha A p.bound p.alpha);
    before = p.before;
    norm = p.norm;
  }

  -- a column's next attempt
  abbrev pub tried_again : Progress A → Progress A
  tried_again p = record { stage = 6; round = p.round; pass = p.pass; column = p.column; attempt = 1; current = p.current; previous = p.previous; bound = p.bound; alpha = p.alpha; before = p.before; norm = p.norm }

  -- the next column, or the plain pass
  abbrev pub next_column : Asked → Progress A → Progress A
  next_column a p = record {
    stage = cond (ltb (p.column + 1) (wide a)) 6 13;
    round = p.round;
    pass = p.pass;
    column = cond (ltb (p.column + 1) (wide a)) (p.column + 1) 0;
    attempt = 0;
    current = p.current;
    previous = p.previous;
    bound = p.bound;
    alpha = p.alpha;
    before = p.before;
    norm = p.norm;
  }

  abbrev pub after_write : Ending A → Asked → Progress A → Progress A
  after_write (kept norm) a p = next_column a p
  after_write refreshed a p = tried_again p
  after_write zeroed a p = next_column a p

  -- the next round with its bound, or the last stages; the first pass of a round takes the current block for both
  abbrev pub after_products : Asked → List A.F → List ℕ → Progress A → Progress A
  after_products a matrix order p =
      let bound = bound_after A a.dims a.rounds p.round p.bound (ritz_value A (matrix_in (wide a) matrix)) order in
      record {
        stage = cond (ltb (p.round + 1) a.rounds) 5 15;
        round = cond (ltb (p.round + 1) a.rounds) (p.round + 1) p.round;
        pass = p.pass;
        column = p.column;
        attempt = p.attempt;
        current = p.current;
        previous = p.current;
        bound = bound;
        alpha = cond (ltb (p.round + 1) a.rounds) (first_alpha A bound) p.alpha;
        before = p.before;
        norm = p.norm;
      }

  -- what a column's end raises
  abbrev pub end_counted : Ending A → Counts → Counts
  end_counted e t = record { passes = t.passes; refreshed = raised_refreshed A e t.refreshed; zeroed = raised_zeroed A e t.zeroed; isolated = t.isolated }

  -- the state with another progress, with counts too, with totals too
  abbrev pub with_progress : Progress A → State A → State A
  with_progress p s = record { asked = s.asked; progress = p; counts = s.counts; totals = s.totals; matrix = s.matrix; vectors = s.vectors; order = s.order }

  abbrev pub with_counts : Progress A → Counts → State A → State A
  with_counts p t s = record { asked = s.asked; progress = p; counts = t; totals = s.totals; matrix = s.matrix; vectors = s.vectors; order = s.order }

  abbrev pub with_totals : Progress A → List A.F → State A → State A
  with_totals p l s = record { asked = s.asked; progress = p; counts = s.counts; totals = l; matrix = s.matrix; vectors = s.vectors; order = s.order }

  -- after the products: symmetrize, Jacobi, the Ritz order and the next bound
  abbrev pub with_eigen : List A.F → List A.F → List ℕ → State A → State A
  with_eigen products matrix order s = record {
    asked = s.asked;
    progress = after_products s.asked matrix order s.progress;
    counts = s.counts;
    totals = products;
    matrix = matrix;
    vectors = eigen_vectors (wide s.asked) (symmetric_in (wide s.asked) products);
    order = order;
  }

  unfoldable pub after_round : State A → List A.F → State A
  after_round s partials =
      let k = wide s.asked in
      let products = totals_of s.asked (k * k) partials in
      let matrix = eigen_matrix k (symmetric_in k products) in
      with_eigen products matrix (order_in k matrix) s

  -- ---- closing, by the stage: it reads the roots in v0's memory and the partials alone
  abbrev pub closed_by : Stage → State A → List A.F → List A.F → State A
  closed_by stage.empty s roots partials = s
  closed_by stage.degrees s roots partials =
      with_counts (with_norm 2 (root_norm A s.asked.rows (vector_of A.none roots)) s.progress)
      (isolated_counted (isolated_rows A s.asked.rows (vector_of A.none roots)) s.counts) s
  closed_by stage.edges s roots partials = with_progress (moved_to 3 s.progress) s
  closed_by stage.v0 s roots partials = with_progress (moved_to 4 s.progress) s
  closed_by stage.start_block s roots partials = with_progress (moved_to 5 s.progress) s
  closed_by stage.filter_pass s roots partials = with_counts (after_filter s.asked s.progress) (pass_counted s.counts) s
  closed_by stage.norm_before s roots partials = with_progress (with_before 7 (norm_of s.asked partials) s.progress) s
  closed_by stage.first_dots s roots partials = with_totals (moved_to 8 s.progress) (totals_of s.asked (s.progress.column + 1) partials) s
  closed_by stage.first_subtract s roots partials = with_progress (moved_to 9 s.progress) s
  closed_by stage.second_dots s roots partials = with_totals (moved_to 10 s.progress) (totals_of s.asked (s.progress.column + 1) partials) s
  closed_by stage.second_subtract s roots partials = with_progress (moved_to 11 s.progress) s
  closed_by stage.norm_after s roots partials = with_progress (with_norm 12 (norm_of s.asked partials) s.progress) s
  closed_by stage.write s roots partials =
      with_counts (after_write (ending_in A s.progress) s.asked s.progress) (end_counted (ending_in A s.progress) s.counts) s
  closed_by stage.plain_pass s roots partials = with_counts (moved_to 14 s.progress) (pass_counted s.counts) s
  closed_by stage.products s roots partials = after_round s partials
  closed_by stage.rotate s roots partials = with_progress (moved_to 16 s.progress) s
  closed_by stage.sums s roots partials = with_totals (moved_to 17 s.progress) (totals_of s.asked s.asked.dims partials) s
  closed_by stage.centre s roots partials = with_progress (moved_to 18 s.progress) s
  closed_by stage.squares s roots partials = with_totals (moved_to 19 s.progress) (scales_of s.asked partials) s
  closed_by stage.scale s roots partials = with_progress (moved_to 20 s.progress) s
  closed_by stage.ended s roots partials = s

  unfoldable pub closed : State A → Lent A → State A
  closed s m = closed_by (stage_of s.progress.stage) s m.v0 m.partials

  -- ---- the Ritz record: round r's k + 1 places begin at r x (k + 1)
  -- the bound that the filter used, then the values of the matrix in their order
  unfoldable pub recorded : ℕ → A.F → List A.F → List ℕ → ℕ → A.F
  recorded k bound matrix order zero = bound
  recorded k bound matrix order (suc j) = ritz_value A (matrix_in k matrix) (get_or order j 0)

  unfoldable pub round_recorded : ℕ → ℕ → A.F → List A.F → List ℕ → List A.F → List A.F
  round_recorded k round bound matrix order l =
      fill_range (round * (k + 1)) (round * (k + 1) + (k + 1)) (λ p. recorded k bound matrix order (p - round * (k + 1))) l

  -- closing the products writes its round's places, with the bound that the state has still and the matrix and order that closing gives it;
  -- every other closing leaves the lent lists alone
  abbrev pub record_after : State A → State A → List A.F → List A.F
  record_after s next l =
      cond (eqb s.progress.stage 14) (round_recorded (wide s.asked) s.progress.round s.progress.bound next.matrix next.order l) l

  abbrev pub tidied : State A → Lent A → Lent A
  tidied s m = with_record A (record_after s (closed s m) m.ritz_record) m
