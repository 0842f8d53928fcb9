-- Whose place it is: for each stage and chunk the places of the lent lists that the chunk writes, and what it means that two memories
-- agree at some places, or differ at other chunks' places only. Definitions only.
--
-- For the author of a host that calls the chunks of one stage from several threads: cite `proofs.Owned`. Of `work`, what an accepted
-- chunk call does to the lent lists, it has:
--   own-once        no place of a lent list is owned by two chunks of the stage;
--   writes_own      a chunk leaves every place that it does not own as it was; keeps_lengths: and every list as long as it was;
--   reads_own       whatever stands at the places that other chunks of the stage own, a chunk leaves the same at its own places:
--                   it depends on nothing that another chunk of the stage writes.
-- Of a whole chunk call, with its answer and its mark: call_writes_own (a refused call writes nothing) and call_reads_own; and of
-- these the parts verdict-own, mark-own. Each chunk has a mark of its own.
--
-- What own-once, reads_own and call_reads_own rest on: `StateReady`, which an accepted chunk call has shown of its state (`chunk_ready` of
-- ready.proofs.Ready), and row starts that never fall (`Starts`), which an accepted opening has shown of its graph (`request_valid` of
-- input.proofs.Accepted, at .graph .rising). The others rest on nothing.
-- What they do not say:
--   that one chunk may be called from two threads at once: both calls own the same places, and the mark;
--   that calls of two stages may overlap: a closing reads the partials, the roots and all marks, so every chunk call of the stage has
--   returned before it;
--   which loads the compiled code makes: they say what its result depends on, the chunk's own places and those that no chunk of the
--   stage writes.
use Rattle.std.specs.Prelude.{◌≡◌, Bool, true, false, not, List, ℕ, zero, suc, ◌+◌, ◌*◌, length, get_or}
use Rattle.definition.specs.Arith.{Arith}
use Rattle.definition.specs.Memory.{wholes_of}
use Rattle.machine.specs.State.{Stage, stage_of, wide, Lists, State, Lent}
use Rattle.machine.specs.State as stage
use Rattle.machine.specs.Calls.{Outcome}
use Rattle.machine.specs.Work.{own_row, own_entry, own_place, own_partial, free_block}

-- ---- sets of places
-- a set of places in each lent list but the marks
pub record Places : Type 0 where
  pub inverse : ℕ → Bool
  pub v0 : ℕ → Bool
  pub edge_columns : ℕ → Bool
  pub edge_weights : ℕ → Bool
  pub block0 : ℕ → Bool
  pub block1 : ℕ → Bool
  pub block2 : ℕ → Bool
  pub partials : ℕ → Bool
  pub output : ℕ → Bool
  pub ritz_record : ℕ → Bool

abbrev pub none : ℕ → Bool
none p = false

abbrev pub nowhere : Places
nowhere = record { inverse = none; v0 = none; edge_columns = none; edge_weights = none; block0 = none; block1 = none; block2 = none; partials = none; output = none; ritz_record = none }

-- places of one list, or of two
abbrev pub in_roots : (ℕ → Bool) → Places
in_roots t = record { inverse = t; v0 = t; edge_columns = none; edge_weights = none; block0 = none; block1 = none; block2 = none; partials = none; output = none; ritz_record = none }

abbrev pub in_edges : (ℕ → Bool) → Places
in_edges t = record { inverse = none; v0 = none; edge_columns = t; edge_weights = t; block0 = none; block1 = none; block2 = none; partials = none; output = none; ritz_record = none }

abbrev pub in_v0 : (ℕ → Bool) → Places
in_v0 t = record { inverse = none; v0 = t; edge_columns = none; edge_weights = none; block0 = none; block1 = none; block2 = none; partials = none; output = none; ritz_record = none }

abbrev pub in_partials : (ℕ → Bool) → Places
in_partials t = record { inverse = none; v0 = none; edge_columns = none; edge_weights = none; block0 = none; block1 = none; block2 = none; partials = t; output = none; ritz_record = none }

abbrev pub in_output : (ℕ → Bool) → Places
in_output t = record { inverse = none; v0 = none; edge_columns = none; edge_weights = none; block0 = none; block1 = none; block2 = none; partials = none; output = t; ritz_record = none }

-- block 0, 1 or, for any other number, 2
abbrev pub in_block : ℕ → (ℕ → Bool) → Places
in_block zero t = record { inverse = none; v0 = none; edge_columns = none; edge_weights = none; block0 = t; block1 = none; block2 = none; partials = none; output = none; ritz_record = none }
in_block (suc zero) t = record { inverse = none; v0 = none; edge_columns = none; edge_weights = none; block0 = none; block1 = t; block2 = none; partials = none; output = none; ritz_record = none }
in_block (suc (suc b)) t = record { inverse = none; v0 = none; edge_columns = none; edge_weights = none; block0 = none; block1 = none; block2 = t; partials = none; output = none; ritz_record = none }

-- all places but these
abbrev pub outside : Places → Places
outside t = record {
  inverse = λ p. not (t.inverse p);
  v0 = λ p. not (t.v0 p);
  edge_columns = λ p. not (t.edge_columns p);
  edge_weights = λ p. not (t.edge_weights p);
  block0 = λ p. not (t.block0 p);
  block1 = λ p. not (t.block1 p);
  block2 = λ p. not (t.block2 p);
  partials = λ p. not (t.partials p);
  output = λ p. not (t.output p);
  ritz_record = λ p. not (t.ritz_record p);
}

-- no place is two chunks': `whose h` are the places of chunk h
pub record OneOwner (whose : ℕ → Places) : Type 0 where
  pub inverse : (h j p : ℕ) → (whose h).inverse p ≡ true → (whose j).inverse p ≡ true → h ≡ j
  pub v0 : (h j p : ℕ) → (whose h).v0 p ≡ true → (whose j).v0 p ≡ true → h ≡ j
  pub edge_columns : (h j p : ℕ) → (whose h).edge_columns p ≡ true → (whose j).edge_columns p ≡ true → h ≡ j
  pub edge_weights : (h j p : ℕ) → (whose h).edge_weights p ≡ true → (whose j).edge_weights p ≡ true → h ≡ j
  pub block0 : (h j p : ℕ) → (whose h).block0 p ≡ true → (whose j).block0 p ≡ true → h ≡ j
  pub block1 : (h j p : ℕ) → (whose h).block1 p ≡ true → (whose j).block1 p ≡ true → h ≡ j
  pub block2 : (h j p : ℕ) → (whose h).block2 p ≡ true → (whose j).block2 p ≡ true → h ≡ j
  pub partials : (h j p : ℕ) → (whose h).partials p ≡ true → (whose j).partials p ≡ true → h ≡ j
  pub output : (h j p : ℕ) → (whose h).output p ≡ true → (whose j).output p ≡ true → h ≡ j
  pub ritz_record : (h j p : ℕ) → (whose h).ritz_record p ≡ true → (whose j).ritz_record p ≡ true → h ≡ j

-- no chunk but h owns place p
abbrev pub NoOther : (ℕ → ℕ → Bool) → ℕ → ℕ → Type 0
NoOther whose h p = (j : ℕ) → (j ≡ h → ⊥) → whose j p ≡ false

module _ (A : Arith) where
  -- ---- the places that chunk h of a stage writes; the Ritz record is no chunk's: closing writes it
  abbrev pub owned_by : Stage → State A → Lists A → ℕ → Places
  owned_by stage.empty s g h = nowhere
  owned_by stage.degrees s g h = in_roots (own_row s.asked.rows h)
  owned_by stage.edges s g h = in_edges (own_entry (wholes_of g.starts) s.asked.rows h)
  owned_by stage.v0 s g h = in_v0 (own_row s.asked.rows h)
  owned_by stage.start_block s g h = in_block 0 (own_place s.asked.rows (wide s.asked) h)
  owned_by stage.filter_pass s g h = in_block (free_block s.progress.current s.progress.previous) (own_place s.asked.rows (wide s.asked) h)
  owned_by stage.norm_before s g h = in_partials (own_partial (wide s.asked) 1 h)
  owned_by stage.first_dots s g h = in_partials (own_partial (wide s.asked) (s.progress.column + 1) h)
  owned_by stage.first_subtract s g h = in_block s.progress.current (own_place s.asked.rows (wide s.asked) h)
  owned_by stage.second_dots s g h = in_partials (own_partial (wide s.asked) (s.progress.column + 1) h)
  owned_by stage.second_subtract s g h = in_block s.progress.current (own_place s.asked.rows (wide s.asked) h)
  owned_by stage.norm_after s g h = in_partials (own_partial (wide s.asked) 1 h)
  owned_by stage.write s g h = in_block s.progress.current (own_place s.asked.rows (wide s.asked) h)
  owned_by stage.plain_pass s g h = in_block (free_block s.progress.current s.progress.current) (own_place s.asked.rows (wide s.asked) h)
  owned_by stage.products s g h = in_partials (own_partial (wide s.asked) (wide s.asked * wide s.asked) h)
  owned_by stage.rotate s g h = in_output (own_place s.asked.rows s.asked.dims h)
  owned_by stage.sums s g h = in_partials (own_partial (wide s.asked) s.asked.dims h)
  owned_by stage.centre s g h = in_output (own_place s.asked.rows s.asked.dims h)
  owned_by stage.squares s g h = in_partials (own_partial (wide s.asked) s.asked.dims h)
  owned_by stage.scale s g h = in_output (own_place s.asked.rows s.asked.dims h)
  owned_by stage.ended s g h = nowhere

  -- in the stage that the state is in
  unfoldable pub owned : State A → Lists A → ℕ → Places
  owned s g h = owned_by (stage_of s.progress.stage) s g h

  -- ---- two memories
  -- each list of the one is as long as that of the other
  pub record SameLengths (m m' : Lent A) : Type 0 where
    pub inverse : length m.inverse ≡ length m'.inverse
    pub v0 : length m.v0 ≡ length m'.v0
    pub edge_columns : length m.edge_columns ≡ length m'.edge_columns
    pub edge_weights : length m.edge_weights ≡ length m'.edge_weights
    pub block0 : length m.block0 ≡ length m'.block0
    pub block1 : length m.block1 ≡ length m'.block1
    pub block2 : length m.block2 ≡ length m'.block2
    pub partials : length m.partials ≡ length m'.partials
    pub output : length m.output ≡ length m'.output
    pub ritz_record : length m.ritz_record ≡ length m'.ritz_record

  -- they hold the same at these places
  pub record AgreeWhere (t : Places) (m m' : Lent A) : Type 0 where
    pub inverse : (p : ℕ) → t.inverse p ≡ true → get_or m.inverse p A.none ≡ get_or m'.inverse p A.none
    pub v0 : (p : ℕ) → t.v0 p ≡ true → get_or m.v0 p A.none ≡ get_or m'.v0 p A.none
    pub edge_columns : (p : ℕ) → t.edge_columns p ≡ true → get_or m.edge_columns p 0 ≡ get_or m'.edge_columns p 0
    pub edge_weights : (p : ℕ) → t.edge_weights p ≡ true → get_or m.edge_weights p A.none ≡ get_or m'.edge_weights p A.none
    pub block0 : (p : ℕ) → t.block0 p ≡ true → get_or m.block0 p A.none ≡ get_or m'.block0 p A.none
    pub block1 : (p : ℕ) → t.block1 p ≡ true → get_or m.block1 p A.none ≡ get_or m'.block1 p A.none
    pub block2 : (p : ℕ) → t.block2 p ≡ true → get_or m.block2 p A.none ≡ get_or m'.block2 p A.none
    pub partials : (p : ℕ) → t.partials p ≡ true → get_or m.partials p A.none ≡ get_or m'.partials p A.none
    pub output : (p : ℕ) → t.output p ≡ true → get_or m.output p A.none ≡ get_or m'.output p A.none
    pub ritz_record : (p : ℕ) → t.ritz_record p ≡ true → get_or m.ritz_record p A.none ≡ get_or m'.ritz_record p A.none

  -- they are as long and hold the same at every place that no chunk but h owns: m' is m with anything at all at the others' places
  pub record DifferAt (whose : ℕ → Places) (h : ℕ) (m m' : Lent A) : Type 0 where
    pub lengths : SameLengths m m'
    pub inverse : (p : ℕ) → NoOther (λ j. (whose j).inverse) h p → get_or m.inverse p A.none ≡ get_or m'.inverse p A.none
    pub v0 : (p : ℕ) → NoOther (λ j. (whose j).v0) h p → get_or m.v0 p A.none ≡ get_or m'.v0 p A.none
    pub edge_columns : (p : ℕ) → NoOther (λ j. (whose j).edge_columns) h p → get_or m.edge_columns p 0 ≡ get_or m'.edge_columns p 0
    pub edge_weights : (p : ℕ) → NoOther (λ j. (whose j).edge_weights) h p → get_or m.edge_weights p A.none ≡ get_or m'.edge_weights p A.none
    pub block0 : (p : ℕ) → NoOther (λ j. (whose j).block0) h p → get_or m.block0 p A.none ≡ get_or m'.block0 p A.none
    pub block1 : (p : ℕ) → NoOther (λ j. (whose j).block1) h p → get_or m.block1 p A.none ≡ get_or m'.block1 p A.none
    pub block2 : (p : ℕ) → NoOther (λ j. (whose j).block2) h p → get_or m.block2 p A.none ≡ get_or m'.block2 p A.none
    pub partials : (p : ℕ) → NoOther (λ j. (whose j).partials) h p → get_or m.partials p A.none ≡ get_or m'.partials p A.none
    pub output : (p : ℕ) → NoOther (λ j. (whose j).output) h p → get_or m.output p A.none ≡ get_or m'.output p A.none
    pub ritz_record : (p : ℕ) → NoOther (λ j. (whose j).ritz_record) h p → get_or m.ritz_record p A.none ≡ get_or m'.ritz_record p A.none

  -- of the chunks of the state's stage
  abbrev pub DifferAtOthers : State A → Lists A → ℕ → Lent A → Lent A → Type 0
  DifferAtOthers s g h m m' = DifferAt (owned s g) h m m'

  -- ---- whole chunk calls
  -- chunk h's call on m and marks wrote no place outside of t, and no other chunk's mark
  pub record WroteOwn (t : Places) (h : ℕ) (m : Lent A) (marks : List ℕ) (o : Outcome A) : Type 0 where
    pub lengths : SameLengths o.lent m
    pub lent : AgreeWhere (outside t) o.lent m
    pub mark_count : length o.marks ≡ length marks
    pub mark : (j : ℕ) → (j ≡ h → ⊥) → get_or o.marks j 0 ≡ get_or marks j 0

  -- two outcomes of chunk h's call: the same answer and state, the same at the places t, the same mark
  pub record SameOutcome (t : Places) (h : ℕ) (o o' : Outcome A) : Type 0 where
    pub verdict : o.verdict ≡ o'.verdict
    pub state : o.state ≡ o'.state
    pub lent : AgreeWhere t o.lent o'.lent
    pub mark : get_or o.marks h 0 ≡ get_or o'.marks h 0
