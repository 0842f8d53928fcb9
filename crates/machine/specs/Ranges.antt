-- Refusals 12 to 16: what a state, a graph and lent memory must be for a call to be taken. Definitions only.
use Rattle.std.specs.Prelude.{Bool, true, false, not, ◌&&◌, ◌||◌, List, ℕ, ◌+◌, ◌-◌, ◌*◌, eqb, leb, ltb, length, get_or}
use Rattle.definition.specs.Arith.{Arith}
use Rattle.definition.specs.Marks.{undone, sound}
use Rattle.definition.specs.Memory.{wholes_of}
use Rattle.definition.specs.Numbers.{first_row, dims_most, rows_most, entries_most, rounds_most, degree_most}
use Rattle.definition.specs.Refusals.{Verdict, given, given_first, or_else, passes, within, first_from, test_seed_std, test_lent}
use Rattle.definition.specs.SpectralEmbedding.{Counts}
use Rattle.machine.specs.State.{last_stage, Asked, wide, chunk_count, order_room, Lists, Progress, State, Lent, lengths_of}

-- none of the places from a up to e passes the test f
unfoldable pub none_from : (ℕ → Bool) → ℕ → ℕ → Bool
none_from f a e = eqb (first_from f a (e - a)) e

-- ---- the state's own ranges, in the order of its fields
unfoldable pub asked_sound : Asked → Bool
asked_sound a =
    within a.dims dims_most && (within a.rows rows_most && (leb a.entries entries_most
    && (within a.rounds rounds_most && (within a.degree degree_most && passes (test_seed_std a.seed_std)))))

-- counts no more than a whole run can reach
unfoldable pub counts_sound : Asked → Counts → Bool
counts_sound a t =
    leb t.passes (a.rounds * (a.degree + 1)) && (leb t.refreshed (a.rounds * wide a)
    && (leb t.zeroed (a.rounds * wide a) && leb t.isolated a.rows))

-- every Ritz place below k
unfoldable pub order_sound : Asked → List ℕ → Bool
order_sound a order = none_from (λ j. leb (wide a) (get_or order j 0)) 0 order_room

-- the stages that read the lent edges (the filter's passes and the plain pass), and those that read the row starts (degrees and edges too)
abbrev pub reads_edges : ℕ → Bool
reads_edges st = eqb st 5 || eqb st 13

abbrev pub reads_starts : ℕ → Bool
reads_starts st = eqb st 1 || (eqb st 2 || reads_edges st)

-- row i's start is above the next one, or that one above the entry count
abbrev pub start_fault : ℕ → List ℕ → ℕ → Bool
start_fault entries starts i = ltb (get_or starts (i + 1) 0) (get_or starts i 0) || ltb entries (get_or starts (i + 1) 0)

unfoldable pub starts_sound : Asked → List ℕ → ℕ → Bool
starts_sound a starts h = none_from (start_fault a.entries starts) (first_row a.rows h) (first_row a.rows (h + 1))

-- the columns of the chunk's entries are below n
unfoldable pub columns_sound : Asked → List ℕ → List ℕ → ℕ → Bool
columns_sound a starts columns h =
    none_from (λ p. leb a.rows (get_or columns p 0)) (get_or starts (first_row a.rows h) 0) (get_or starts (first_row a.rows (h + 1)) 0)

module _ (A : Arith) where
  unfoldable pub bound_sound : A.F → Bool
  bound_sound b = A.le A.bound_least b && A.le b A.bound_most

  unfoldable pub alpha_sound : A.F → Bool
  alpha_sound a = A.lt A.zero a && A.lt a A.one

  unfoldable pub progress_sound : Asked → Progress A → Bool
  progress_sound a p =
      leb p.stage last_stage && (ltb p.round a.rounds && (ltb p.pass a.degree && (ltb p.column (wide a)
      && (leb p.attempt 1 && (ltb p.current 3 && (ltb p.previous 3 && (bound_sound p.bound && alpha_sound p.alpha)))))))

  unfoldable pub state_sound : State A → Bool
  state_sound s =
      asked_sound s.asked && (progress_sound s.asked s.progress && (counts_sound s.asked s.counts && order_sound s.asked s.order))

  -- a run is open in every stage but the first, where there is none yet, and the last
  unfoldable pub is_open : State A → Bool
  is_open s = leb 1 s.progress.stage && ltb s.progress.stage last_stage

  -- the lists are long enough for the state
  unfoldable pub lists_enough : Asked → Lists A → Bool
  lists_enough a g = ltb a.rows (length g.starts) && (leb a.entries (length g.columns) && leb a.entries (length g.values))

  unfoldable pub lent_enough : Asked → Lent A → List ℕ → Bool
  lent_enough a m marks = passes (test_lent a.dims a.rounds a.rows a.entries (wholes_of (lengths_of A m marks)))

  -- where the stage reads them for the chunk's rows: the starts; in the edges stage the graph's columns; in the passes the lent edge columns
  unfoldable pub rows_sound : ℕ → Asked → Lists A → Lent A → ℕ → Bool
  rows_sound st a g m h =
      (not (reads_starts st) || starts_sound a g.starts h)
      && ((not (eqb st 2) || columns_sound a g.starts g.columns h) && (not (reads_edges st) || columns_sound a g.starts m.edge_columns h))

  -- its mark is 0 or 1
  unfoldable pub chunk_sound : State A → Lists A → Lent A → List ℕ → ℕ → Bool
  chunk_sound s g m marks h = leb (get_or marks h 0) 1 && rows_sound s.progress.stage s.asked g m h

  unfoldable pub lists_sound : State A → Lists A → Lent A → List ℕ → Bool
  lists_sound s g m marks = lists_enough s.asked g && lent_enough s.asked m marks

  -- ---- what a chunk call tests: 16, 15, 12, 13
  unfoldable pub sound_for_chunk : State A → ℕ → Lists A → Lent A → List ℕ → Bool
  sound_for_chunk s h g m marks =
      state_sound s && (not (is_open s) || (lists_sound s g m marks && (not (ltb h (chunk_count s.asked)) || chunk_sound s g m marks h)))

  unfoldable pub test_chunk : State A → ℕ → Lists A → Lent A → List ℕ → Verdict
  test_chunk s h g m marks =
      or_else (given (not (sound_for_chunk s h g m marks)) 16 0)
      (or_else (given (not (is_open s)) 15 0)
      (or_else (given (not (ltb h (chunk_count s.asked))) 12 h) (given (not (undone marks h)) 13 h)))

  -- ---- what closing tests: 16, 15, 14
  unfoldable pub sound_for_close : State A → Lists A → Lent A → List ℕ → Bool
  sound_for_close s g m marks =
      state_sound s && (not (is_open s) || (lists_sound s g m marks && sound marks (chunk_count s.asked)))

  unfoldable pub test_close : State A → Lists A → Lent A → List ℕ → Verdict
  test_close s g m marks =
      or_else (given (not (sound_for_close s g m marks)) 16 0)
      (or_else (given (not (is_open s)) 15 0) (given_first (undone marks) 0 (chunk_count s.asked) 14))
