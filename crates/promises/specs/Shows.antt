-- What the lent lists and the state show as each stage begins, list by list, in the definition's own functions. Definitions only.
use Rattle.std.specs.Prelude.{◌≡◌, ℕ, zero, suc, ◌+◌, ◌-◌, ◌*◌, ◌≤◌, ◌<◌, length, get_or}
use Rattle.definition.specs.Arith.{Arith}
use Rattle.definition.specs.ChebyshevRayleighRitz.{plain_multipliers}
use Rattle.definition.specs.ChunkedColumnReduce.{Block, partial_sum}
use Rattle.definition.specs.MatvecCombine.{matvec_combine}
use Rattle.definition.specs.Memory.{row_at, column_at, vector_of, wholes_of, block_of}
use Rattle.definition.specs.Numbers.{Params, width, chunks}
use Rattle.definition.specs.OrthonormalizeBlock.{projected, twice_projected}
use Rattle.definition.specs.SpectralEmbedding.{inverse_of_row, root_of_row, root_norm, isolated_rows, v0, edge_column, edge_weight, eigenmap, column_sum, centred_map, scales, seed_at, counts, ritz_record}
use Rattle.held.specs.Calls.{Base}
use Rattle.machine.specs.State.{Stage, stage_of, Lists, State, Lent, block_at}
use Rattle.machine.specs.State as stage
use Rattle.machine.specs.Work.{free_block}
use Rattle.promises.specs.Run.{machine_of, graph_in, rows_in, operator_of, v0_of, solving_at, filter_current, filter_previous, tried_at, round_block}

module _ (A : Arith) (d : ℕ) (params : Params) (g : Lists A) where
  abbrev pub n : ℕ
  n = length g.starts - 1

  abbrev pub k : ℕ
  k = width d

  abbrev pub start : ℕ → ℕ
  start i = get_or g.starts i 0

  -- a list that keeps a block of n rows: block b, and the output
  abbrev pub HoldsBlock : ℕ → Block A → Lent A → Type 0
  HoldsBlock b v m = (i c : ℕ) → i < n → c < k → block_of A.none n k (block_at A b m) i c ≡ v i c

  abbrev pub HoldsOutput : Block A → Lent A → Type 0
  HoldsOutput v m = (i c : ℕ) → i < n → c < d → block_of A.none n d m.output i c ≡ v i c

  abbrev pub HoldsInverse : Lent A → Type 0
  HoldsInverse m = (i : ℕ) → i < n → vector_of A.none m.inverse i ≡ inverse_of_row A (graph_in A g) i

  pub record HoldsEdges (m : Lent A) : Type 0 where
    pub column : (i p : ℕ) → i < n → start i ≤ p → p < start (i + 1) → wholes_of m.edge_columns p ≡ edge_column start (wholes_of g.columns) i p
    pub weight : (i p : ℕ) → i < n → start i ≤ p → p < start (i + 1)
        → vector_of A.none m.edge_weights p ≡ edge_weight A start (wholes_of g.columns) (vector_of A.none g.values) (inverse_of_row A (graph_in A g)) i p

  -- after the degrees
  pub record ShowsDegrees (s : State A) (m : Lent A) : Type 0 where
    pub inverse : HoldsInverse m
    pub roots : (i : ℕ) → i < n → vector_of A.none m.v0 i ≡ root_of_row A (graph_in A g) i
    pub norm : s.progress.norm ≡ root_norm A n (root_of_row A (graph_in A g))
    pub isolated : s.counts.isolated ≡ isolated_rows A n (root_of_row A (graph_in A g))

  -- after the edges
  pub record ShowsEdges (s : State A) (m : Lent A) : Type 0 where
    pub degrees : ShowsDegrees s m
    pub edges : HoldsEdges m

  -- after v0, and from then on
  pub record ShowsGraph (m : Lent A) : Type 0 where
    pub inverse : HoldsInverse m
    pub edges : HoldsEdges m
    pub v0 : (i : ℕ) → i < n → vector_of A.none m.v0 i ≡ v0 A (graph_in A g) i

  -- the partials of round r's products
  abbrev pub HoldsProducts : ℕ → Lent A → Type 0
  HoldsProducts r m = (h q : ℕ) → h < chunks n → q < k * k
      → vector_of A.none m.partials (h * (k * k) + q)
      ≡ partial_sum A n (λ i. A.mul (round_block A d params g r i (row_at k k q))
      (matvec_combine A (operator_of A d params g) (plain_multipliers A) (round_block A d params g r) (round_block A d params g r) i (column_at k k q))) h

  -- a filter pass begins; at a round's first the partials are the last round's products
  pub record ShowsFilter (s : State A) (m : Lent A) : Type 0 where
    pub graph : ShowsGraph m
    pub current : HoldsBlock s.progress.current (filter_current A d params g s.progress.round s.progress.pass) m
    pub previous : HoldsBlock s.progress.previous (filter_previous A d params g s.progress.round s.progress.pass) m
    pub bound : s.progress.bound ≡ (solving_at A d params g s.progress.round).bound
    pub products : (r : ℕ) → s.progress.round ≡ suc r → s.progress.pass ≡ 0 → HoldsProducts r m

  -- a stage of an attempt at a column: the current block, and what was counted
  pub record ShowsColumn (v : Block A) (s : State A) (m : Lent A) : Type 0 where
    pub graph : ShowsGraph m
    pub current : HoldsBlock s.progress.current v m
    pub refreshed : s.counts.refreshed ≡ (tried_at A d params g s.progress.round s.progress.column s.progress.attempt).refreshed
    pub zeroed : s.counts.zeroed ≡ (tried_at A d params g s.progress.round s.progress.column s.progress.attempt).zeroed

  abbrev pub tried : State A → Block A
  tried s = (tried_at A d params g s.progress.round s.progress.column s.progress.attempt).block

  -- the round's basis stands; and the plain pass beside it
  pub record ShowsBasis (s : State A) (m : Lent A) : Type 0 where
    pub graph : ShowsGraph m
    pub current : HoldsBlock s.progress.current (round_block A d params g s.progress.round) m

  pub record ShowsPlain (s : State A) (m : Lent A) : Type 0 where
    pub basis : ShowsBasis s m
    pub bound : s.progress.bound ≡ (solving_at A d params g s.progress.round).bound
    pub plain : HoldsBlock (free_block s.progress.current s.progress.current)
        (matvec_combine A (operator_of A d params g) (plain_multipliers A) (round_block A d params g s.progress.round) (round_block A d params g s.progress.round)) m

  -- the rounds are done
  pub record ShowsSolution (s : State A) (m : Lent A) : Type 0 where
    pub graph : ShowsGraph m
    pub current : HoldsBlock s.progress.current (solving_at A d params g params.rounds).basis.block m
    pub vectors : (p q : ℕ) → p < k → q < k → block_of A.none k k s.vectors p q ≡ (solving_at A d params g params.rounds).vectors p q
    pub order : (j : ℕ) → j < k → get_or s.order j 0 ≡ get_or (solving_at A d params g params.rounds).order j 0
    pub products : (r : ℕ) → params.rounds ≡ suc r → HoldsProducts r m

  -- the totals of the output's columns, or their scales
  pub record ShowsTotals (f : ℕ → A.F) (v : Block A) (s : State A) (m : Lent A) : Type 0 where
    pub output : HoldsOutput v m
    pub totals : (c : ℕ) → c < d → vector_of A.none s.totals c ≡ f c

  pub record ShowsSeed (s : State A) (m : Lent A) : Type 0 where
    pub seed : HoldsOutput (seed_at A d params (graph_in A g)) m
    pub counts : s.counts ≡ counts A d params (graph_in A g)

  -- the Ritz record of the first r rounds
  abbrev pub HoldsRecord : ℕ → Lent A → Type 0
  HoldsRecord r m = (q j : ℕ) → q < r → j < k + 1 → vector_of A.none m.ritz_record (q * (k + 1) + j) ≡ ritz_record A d params (graph_in A g) q j

  -- the end: the seed, the counts and the Ritz record of every round
  pub record ShowsEnd (s : State A) (m : Lent A) : Type 0 where
    pub seed : HoldsOutput (seed_at A d params (graph_in A g)) m
    pub counts : s.counts ≡ counts A d params (graph_in A g)
    pub ritz : HoldsRecord params.rounds m

  abbrev pub shows_by : Stage → State A → Lent A → Type 0
  shows_by stage.empty s m = Unit
  shows_by stage.degrees s m = Unit
  shows_by stage.edges s m = ShowsDegrees s m
  shows_by stage.v0 s m = ShowsEdges s m
  shows_by stage.start_block s m = ShowsGraph m
  shows_by stage.filter_pass s m = ShowsFilter s m
  shows_by stage.norm_before s m = ShowsColumn (tried s) s m
  shows_by stage.first_dots s m = ShowsColumn (tried s) s m
  shows_by stage.first_subtract s m = ShowsColumn (tried s) s m
  shows_by stage.second_dots s m = ShowsColumn (projected A n (v0_of A d params g) s.progress.column (tried s)) s m
  shows_by stage.second_subtract s m = ShowsColumn (projected A n (v0_of A d params g) s.progress.column (tried s)) s m
  shows_by stage.norm_after s m = ShowsColumn (twice_projected A n (v0_of A d params g) s.progress.column (tried s)) s m
  shows_by stage.write s m = ShowsColumn (twice_projected A n (v0_of A d params g) s.progress.column (tried s)) s m
  shows_by stage.plain_pass s m = ShowsBasis s m
  shows_by stage.products s m = ShowsPlain s m
  shows_by stage.rotate s m = ShowsSolution s m
  shows_by stage.sums s m = HoldsOutput (eigenmap A d params (graph_in A g)) m
  shows_by stage.centre s m = ShowsTotals (column_sum A n (eigenmap A d params (graph_in A g))) (eigenmap A d params (graph_in A g)) s m
  shows_by stage.squares s m = HoldsOutput (centred_map A d params (graph_in A g)) m
  shows_by stage.scale s m = ShowsTotals (scales A d params (graph_in A g)) (centred_map A d params (graph_in A g)) s m
  shows_by stage.ended s m = ShowsSeed s m

  abbrev pub Shows : Base (machine_of A g) → Type 0
  Shows b = shows_by (stage_of b.state.progress.stage) b.state b.mem
