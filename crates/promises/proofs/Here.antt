-- A run at the beginning of a stage: its state by its numbers, in range; and one stage more. Assumes nothing.
use mathlib.Core.Path.{◌≡◌, refl, sym, ap, ap₂, ◌∙◌, subst}
use mathlib.Core.Bool.{true}
use mathlib.Core.List.{List}
use Prim.Native.Nat.{ℕ, zero, suc, ◌+◌, ◌-◌, ◌*◌, ◌≤◌, ◌<◌}
use native.Mathlib.Omega.{arith}
use borrow.Author.Tests.{ne_eqb}
use lib.ListN.{length, get_or}
use Rattle.definition.specs.Arith.{Arith}
use Rattle.definition.specs.ChunkedColumnReduce.{Block}
use Rattle.definition.specs.Numbers.{Params, width, chunks, dims_most}
use Rattle.definition.specs.Refusals.{passes, test_seed_std}
use Rattle.definition.specs.Requirements.{Columns}
use Rattle.definition.specs.SpectralEmbedding.{Counts, isolated_rows, root_of_row, edge_column}
use Rattle.definition.proofs.Fill.{split}
use Rattle.definition.proofs.Isolated.{isolated-most}
use Rattle.input.specs.Valid.{ValidParams, ValidGraph}
use Rattle.held.specs.Calls.{Machine, Base, full, whole}
use Rattle.held.proofs.Law.{Ends, ends_on}
use Rattle.machine.specs.State.{Asked, wide, chunk_count, last_stage, order_room, Lists, Progress, State, Lent, asked_of, block_at, with_block, with_partials, with_output, with_record}
use Rattle.machine.specs.Ranges.{reads_edges, state_sound, bound_sound, alpha_sound}
use Rattle.machine.specs.Ready.{AskedReady, CountsReady, ProgressReady, StateReady, LentReady}
use Rattle.machine.specs.Work.{work}
use Rattle.machine.specs.Closing.{closed, tidied}
use Rattle.ready.proofs.Tested.{state-sound}
use Rattle.promises.specs.Run.{Steady, machine_of, graph_in}
use Rattle.promises.specs.Shows.{Shows, ShowsGraph, HoldsEdges, HoldsBlock}
use Rattle.promises.proofs.Cong.{start-most, start_up, column-below}
use Rattle.promises.proofs.Fits.{Fit}
use Rattle.promises.proofs.Lenses.{partials-block}

-- what an accepted request has shown, and what its arithmetic owes
pub record Sure (A : Arith) (d : ℕ) (params : Params) (g : Lists A) : Type 0 where
  pub dims-least : 1 ≤ d
  pub dims-most : d ≤ dims_most
  pub graph : ValidGraph A g.starts g.columns g.values
  pub numbers : ValidParams params
  pub seed : passes (test_seed_std params.seed_std) ≡ true
  pub steady : Steady A

module _ (A : Arith) (d : ℕ) (params : Params) (g : Lists A) (U : Sure A d params g) where
  abbrev pub a : Asked
  a = asked_of A d params g

  abbrev pub n : ℕ
  n = length g.starts - 1

  abbrev pub k : ℕ
  k = width d

  abbrev pub C : ℕ
  C = chunks (length g.starts - 1)

  abbrev pub K : Machine
  K = machine_of A g

  pub asked_ready : AskedReady a
  asked_ready = record {
    dims-least = U.dims-least;
    dims-most = U.dims-most;
    rows-least = U.graph.rows-least;
    rows-most = U.graph.rows-most;
    entries-most = U.graph.entries-most;
    rounds-least = U.numbers.rounds-least;
    rounds-most = U.numbers.rounds-most;
    degree-least = U.numbers.degree-least;
    degree-most = U.numbers.degree-most;
  }

  -- what a stage may leave as it is: the norms, and the arrays
  pub record Idle : Type 0 where
    pub before : A.F
    pub norm : A.F
    pub totals : List A.F
    pub matrix : List A.F
    pub vectors : List A.F
    pub order : List ℕ
    pub ordered : (j : ℕ) → j < order_room → get_or order j 0 < k

  -- the isolated rows: i of them, which is 0 until the degrees have closed and the definition's count from then on
  abbrev pub isolated_in : ℕ
  isolated_in = isolated_rows A n (root_of_row A (graph_in A g))

  abbrev pub tally_with : ℕ → ℕ → ℕ → ℕ → Counts
  tally_with i p r z = record { passes = p; refreshed = r; zeroed = z; isolated = i }

  abbrev pub tally : ℕ → ℕ → ℕ → Counts
  tally = tally_with isolated_in

  abbrev pub progress : ℕ → ℕ → ℕ → ℕ → ℕ → ℕ → ℕ → A.F → A.F → A.F → A.F → Progress A
  progress st r j c t cur prev b al before norm =
      record { stage = st; round = r; pass = j; column = c; attempt = t; current = cur; previous = prev; bound = b; alpha = al; before = before; norm = norm }

  abbrev pub here_with : ℕ → ℕ → ℕ → ℕ → ℕ → ℕ → ℕ → ℕ → A.F → A.F → ℕ → ℕ → ℕ → Idle → State A
  here_with i st r j c t cur prev b al p f z w = record {
    asked = a;
    progress = progress st r j c t cur prev b al w.before w.norm;
    counts = tally_with i p f z;
    totals = w.totals;
    matrix = w.matrix;
    vectors = w.vectors;
    order = w.order;
  }

  abbrev pub here : ℕ → ℕ → ℕ → ℕ → ℕ → ℕ → ℕ → A.F → A.F → ℕ → ℕ → ℕ → Idle → State A
  here = here_with isolated_in

  -- the numbers are in range
  pub record Fine (r j c t cur prev : ℕ) (b al : A.F) (p f z : ℕ) : Type 0 where
    pub round : r < params.rounds
    pub pass : j < params.degree
    pub column : c < k
    pub attempt : t ≤ 1
    pub current : cur < 3
    pub previous : prev < 3
    pub bound : bound_sound A b ≡ true
    pub alpha : alpha_sound A al ≡ true
    pub passes : p ≤ params.rounds * (params.degree + 1)
    pub refreshed : f ≤ params.rounds * k
    pub zeroed : z ≤ params.rounds * k

  pub fine_sound_with : (i : ℕ) → i ≤ n → (st r j c t cur prev : ℕ) (b al : A.F) (p f z : ℕ) (w : Idle) → st ≤ last_stage → Fine r j c t cur prev b al p f z
      → state_sound A (here_with i st r j c t cur prev b al p f z w) ≡ true
  fine_sound_with i few st r j c t cur prev b al p f z w l F =
      state-sound A (here_with i st r j c t cur prev b al p f z w) (record {
        asked = asked_ready;
        progress = record { round = F.round; pass = F.pass; column = F.column; attempt = F.attempt; current = F.current; previous = F.previous };
        counts = record { passes = F.passes; refreshed = F.refreshed; zeroed = F.zeroed; isolated = few };
        order = w.ordered;
      }) U.seed l F.bound F.alpha

  pub isolated-few : isolated_in ≤ n
  isolated-few = isolated-most A n (root_of_row A (graph_in A g))

  pub fine_sound : (st r j c t cur prev : ℕ) (b al : A.F) (p f z : ℕ) (w : Idle) → st ≤ last_stage → Fine r j c t cur prev b al p f z
      → state_sound A (here st r j c t cur prev b al p f z w) ≡ true
  fine_sound = fine_sound_with isolated_in isolated-few

  -- ---- the lent edges name rows below n
  find_row : (j p : ℕ) → j ≤ n → p < get_or g.starts j 0 → (i : ℕ) × (i < j) × (get_or g.starts i 0 ≤ p) × (p < get_or g.starts (i + 1) 0)
  find_row zero p l q = absurd (omega (arith, U.graph.first))
  find_row (suc j) p l q =
      split p (get_or g.starts j 0)
      (λ s. let z = find_row j p (omega arith) s in (z.0, omega (arith, z.1), z.2, z.3))
      (λ s. (j, omega arith, s, (let e : j + 1 ≡ suc j = omega arith in (rw e q))))

  pub edges-below : (m : Lent A) → HoldsEdges A d params g m → Columns m.edge_columns 0 a.entries n
  edges-below m E = record {
    below = λ p l u.
        let z = find_row n p (omega arith) (rw U.graph.last u) in
        omega (arith, E.column z.0 p z.1 z.2 z.3, column-below A d params g U.graph z.0 p z.1 z.2 z.3);
  }

  -- ---- one stage more
  abbrev pub Leads : ℕ → Base K → (Base K → Type 0) → Type 0
  Leads = Ends K (Fit A d params g) (Shows A d params g)

  abbrev pub at : State A → Lent A → Base K
  at s m = record { state = s; mem = m }

  -- all chunks of the stage
  abbrev pub worked : State A → Lent A → Lent A
  worked s m = whole (λ h x. work A s g h x) C m

  abbrev pub On : ℕ → Type 1
  On i = (st r j c t cur prev : ℕ) (b al : A.F) (p f z : ℕ) (w : Idle) (m : Lent A) (rest : ℕ) (Q : Base K → Type 0) → 1 ≤ st → st < last_stage → Fine r j c t cur prev b al p f z
      → LentReady A a m → (reads_edges st ≡ true → HoldsEdges A d params g m) → Shows A d params g (at (here_with i st r j c t cur prev b al p f z w) m)
      → Leads rest (at (closed A (here_with i st r j c t cur prev b al p f z w) (worked (here_with i st r j c t cur prev b al p f z w) m)) (tidied A (here_with i st r j c t cur prev b al p f z w) (worked (here_with i st r j c t cur prev b al p f z w) m))) Q
      → Leads (suc rest) (at (here_with i st r j c t cur prev b al p f z w) m) Q

  pub on_with : (i : ℕ) → i ≤ n → On i
  unfolding full
  on_with i few st r j c t cur prev b al p f z w m rest Q l u F L E S next =
      ends_on K (Fit A d params g) (Shows A d params g) rest (here_with i st r j c t cur prev b al p f z w) m (worked (here_with i st r j c t cur prev b al p f z w) m) Q
      (ne_eqb st last_stage (λ e. omega arith))
      (record {
        asks = refl;
        state = fine_sound_with i few st r j c t cur prev b al p f z w (omega arith) F;
        begun = l;
        last = omega arith;
        lent = L;
        edges = λ e. edges-below m (E e);
      })
      S refl next

  pub on : On isolated_in
  on = on_with isolated_in isolated-few

  -- a state that is known by an equation
  pub known : (s s' : State A) (m : Lent A) (rest : ℕ) (Q : Base K → Type 0) → s ≡ s' → Leads rest (at s' m) Q → Leads rest (at s m) Q
  known s s' m rest Q e z = subst (λ (x : State A). Leads rest (at x m) Q) (sym e) z

  -- ---- what stands beside the list that a stage writes
  pub graph-partials : (l : List A.F) (m : Lent A) → ShowsGraph A d params g m → ShowsGraph A d params g (with_partials A l m)
  graph-partials l m S = record { inverse = S.inverse; edges = record { column = S.edges.column; weight = S.edges.weight }; v0 = S.v0 }

  pub graph-output : (l : List A.F) (m : Lent A) → ShowsGraph A d params g m → ShowsGraph A d params g (with_output A l m)
  graph-output l m S = record { inverse = S.inverse; edges = record { column = S.edges.column; weight = S.edges.weight }; v0 = S.v0 }

  pub graph_block : (b : ℕ) (l : List A.F) (m : Lent A) → ShowsGraph A d params g m → ShowsGraph A d params g (with_block A b l m)
  graph_block zero l m S = record { inverse = S.inverse; edges = record { column = S.edges.column; weight = S.edges.weight }; v0 = S.v0 }
  graph_block (suc zero) l m S = record { inverse = S.inverse; edges = record { column = S.edges.column; weight = S.edges.weight }; v0 = S.v0 }
  graph_block (suc (suc b)) l m S = record { inverse = S.inverse; edges = record { column = S.edges.column; weight = S.edges.weight }; v0 = S.v0 }

  pub graph-record : (l : List A.F) (m : Lent A) → ShowsGraph A d params g m → ShowsGraph A d params g (with_record A l m)
  graph-record l m S = record { inverse = S.inverse; edges = record { column = S.edges.column; weight = S.edges.weight }; v0 = S.v0 }

  -- the graph, long memory, and a block
  pub record Standing (cur : ℕ) (v : Block A) (m : Lent A) : Type 0 where
    pub graph : ShowsGraph A d params g m
    pub lent : LentReady A a m
    pub block : HoldsBlock A d params g cur v m
