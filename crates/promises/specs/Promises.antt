-- What is promised of a run: any calls after the opening, refused ones among them, one after the other. Definitions only.
use Rattle.std.specs.Prelude.{◌≡◌, Bool, true, cond, List, [], ◌∷◌, ℕ, suc, ◌+◌, ◌-◌, ◌*◌, ◌≤◌, ◌<◌, ltb, length, get_or}
use Rattle.definition.specs.Arith.{Arith}
use Rattle.definition.specs.Memory.{wholes_of}
use Rattle.definition.specs.Numbers.{Params, width, chunks}
use Rattle.definition.specs.Refusals.{Verdict, passes, test_request}
use Rattle.definition.specs.SpectralEmbedding.{Counts, counts}
use Rattle.held.specs.Calls.{Call, chunk, close, Base, iter, mem_at, upward, order}
use Rattle.held.specs.Marks.{done}
use Rattle.machine.specs.State.{Asked, wide, chunk_count, Lists, State, Lent, last_stage, lengths_of, opened_state}
use Rattle.machine.specs.Calls.{Outcome, open_call, chunk_call, close_call}
use Rattle.promises.specs.Run.{graph_in, machine_of}
use Rattle.promises.specs.Shows.{Shows, HoldsRecord}

module _ (A : Arith) where
  -- the rounds whose products have closed: all of them in the stages behind the products, before that those below the round at hand
  unfoldable pub rounds_closed : State A → ℕ
  rounds_closed s = cond (ltb 14 s.progress.stage) s.asked.rounds s.progress.round

  -- behind the sizes in use every list is as it was lent; what of the Ritz record is, `Recorded` says
  pub record Untouched (a : Asked) (m₀ m : Lent A) : Type 0 where
    pub inverse : (p : ℕ) → a.rows ≤ p → get_or m.inverse p A.none ≡ get_or m₀.inverse p A.none
    pub v0 : (p : ℕ) → a.rows ≤ p → get_or m.v0 p A.none ≡ get_or m₀.v0 p A.none
    pub edge_columns : (p : ℕ) → a.entries ≤ p → get_or m.edge_columns p 0 ≡ get_or m₀.edge_columns p 0
    pub edge_weights : (p : ℕ) → a.entries ≤ p → get_or m.edge_weights p A.none ≡ get_or m₀.edge_weights p A.none
    pub block0 : (p : ℕ) → a.rows * wide a ≤ p → get_or m.block0 p A.none ≡ get_or m₀.block0 p A.none
    pub block1 : (p : ℕ) → a.rows * wide a ≤ p → get_or m.block1 p A.none ≡ get_or m₀.block1 p A.none
    pub block2 : (p : ℕ) → a.rows * wide a ≤ p → get_or m.block2 p A.none ≡ get_or m₀.block2 p A.none
    pub partials : (p : ℕ) → chunk_count a * wide a * wide a ≤ p → get_or m.partials p A.none ≡ get_or m₀.partials p A.none
    pub output : (p : ℕ) → a.rows * a.dims ≤ p → get_or m.output p A.none ≡ get_or m₀.output p A.none

  -- one call on what the last one answered and left
  abbrev pub call_on : Lists A → Call → Outcome A → Outcome A
  call_on g (chunk h) o = chunk_call A o.state h g o.lent o.marks
  call_on g close o = close_call A o.state g o.lent o.marks

  -- a list of calls, the first one first
  unfoldable pub called : Lists A → List Call → Outcome A → Outcome A
  called g [] o = o
  called g (k ∷ ks) o = called g ks (call_on g k o)

  -- how many of them are accepted
  unfoldable pub accepted_of : Lists A → List Call → Outcome A → ℕ
  accepted_of g [] o = 0
  accepted_of g (k ∷ ks) o = cond (passes (call_on g k o).verdict) 1 0 + accepted_of g ks (call_on g k o)

  abbrev pub has_ended : State A → Type 0
  has_ended s = s.progress.stage ≡ last_stage

  module _ (d : ℕ) (params : Params) (g : Lists A) where
    -- opening and the one call take it
    abbrev pub Accepted : Lent A → List ℕ → Type 0
    Accepted m marks = (test_request A d params g.starts g.columns g.values (wholes_of (lengths_of A m marks))).number ≡ 0

    -- after the opening and these calls
    abbrev pub after : Lent A → List ℕ → List Call → Outcome A
    after m marks ks = called g ks (open_call A d params g m marks)

    -- document 01's number of stages
    unfoldable pub stages_of : ℕ
    stages_of = 9 + params.rounds * (params.degree + 2 + 7 * width d) + 7 * (counts A d params (graph_in A g)).refreshed

    -- the run as it opens, and p stages on: all chunks of each stage, then its closing, with no calls
    abbrev pub opened_at : Lent A → Base (machine_of A g)
    opened_at m = record { state = opened_state A d params g; mem = m }

    abbrev pub stages_on : ℕ → Lent A → Base (machine_of A g)
    stages_on p m = iter (machine_of A g) p (opened_at m)

    -- The Ritz record holds the definition's numbers of the rounds whose products have closed; every place behind them is as it was lent.
    pub record Recorded (m : Lent A) (s : State A) (l : Lent A) : Type 0 where
      pub rounds : HoldsRecord A d params g (rounds_closed s) l
      pub rest : (p : ℕ) → rounds_closed s * (width d + 1) ≤ p → get_or l.ritz_record p A.none ≡ get_or m.ritz_record p A.none
      pub long : length l.ritz_record ≡ length m.ritz_record

    -- Some stages are closed; the state is the definition's there, and the lent memory has, beyond that, exactly the work of the chunks that
    -- are marked. As that stage began, each list showed what the definition says; the Ritz record shows it now.
    pub record Standing (m : Lent A) (o : Outcome A) : Type 0 where
      pub closed : ℕ
      pub within : closed ≤ stages_of
      pub state : o.state ≡ (stages_on closed m).state
      pub lent : o.lent ≡ mem_at (machine_of A g) (stages_on closed m).state (stages_on closed m).mem (done o.marks)
      pub shows : Shows A d params g (stages_on closed m)
      pub recorded : Recorded m o.state o.lent

    -- the list of all chunks of every stage, upward, each stage with its closing
    abbrev pub upward_order : List Call
    upward_order = order (chunks (length g.starts - 1)) stages_of
