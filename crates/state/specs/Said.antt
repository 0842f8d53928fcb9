-- The code's records as the machine's, at binary64. Definitions only.
use Rattle.std.specs.Prelude.{List, [], ℕ, Float, ◌≡◌}
use Rattle.definition.specs.Arith.{ieee64}
use Rattle.definition.specs.SpectralEmbedding as definition
use Rattle.input.specs.Said.{verdict_of}
use Rattle.machine.specs.State as machine
use Rattle.machine.specs.Calls.{Outcome}
use Rattle.state.specs.declared.Asked.{Asked}
use Rattle.state.specs.declared.Progress.{Progress}
use Rattle.state.specs.declared.Counts.{Counts}
use Rattle.state.specs.declared.State.{State}
use Rattle.state.specs.declared.Answer.{Answer}
use Rattle.input.specs.declared.graph.Graph.{Graph}
use Rattle.state.specs.declared.lent.Memory.{Memory}
use Rattle.state.specs.declared.lent.MemoryView.{MemoryView}

abbrev pub asked_in : Asked → machine.Asked
asked_in a = record { dims = a.dims; rows = a.rows; entries = a.entries; rounds = a.rounds; degree = a.degree; seed_std = a.seed_std }

abbrev pub progress_in : Progress → machine.Progress ieee64
progress_in p = record { stage = p.stage; round = p.round; pass = p.pass; column = p.column; attempt = p.attempt; current = p.current; previous = p.previous; bound = p.bound; alpha = p.alpha; before = p.before; norm = p.norm }

abbrev pub counts_in : Counts → definition.Counts
counts_in t = record { passes = t.passes; refreshed = t.refreshed; zeroed = t.zeroed; isolated = t.isolated }

abbrev pub state_in : State → machine.State ieee64
state_in s = record { asked = asked_in s.asked; progress = progress_in s.progress; counts = counts_in s.counts; totals = s.totals; matrix = s.matrix; vectors = s.vectors; order = s.order }

-- the graph's lists, and the lent ones in document 01's order: those that chunks work on, with no Ritz record, and all of them
abbrev pub lists_in : List ℕ → List ℕ → List Float → machine.Lists ieee64
lists_in starts columns values = record { starts = starts; columns = columns; values = values }

abbrev pub lent_in : List Float → List Float → List ℕ → List Float → List Float → List Float → List Float → List Float → List Float → machine.Lent ieee64
lent_in inverse v0 edge_columns edge_weights block0 block1 block2 partials output = record {
  inverse = inverse;
  v0 = v0;
  edge_columns = edge_columns;
  edge_weights = edge_weights;
  block0 = block0;
  block1 = block1;
  block2 = block2;
  partials = partials;
  output = output;
  ritz_record = [];
}

abbrev pub lent_all : List Float → List Float → List ℕ → List Float → List Float → List Float → List Float → List Float → List Float → List Float → machine.Lent ieee64
lent_all inverse v0 edge_columns edge_weights block0 block1 block2 partials output ritz_record =
    machine.with_record ieee64 ritz_record (lent_in inverse v0 edge_columns edge_weights block0 block1 block2 partials output)

-- the same of what a call is lent
abbrev pub lists_of : Graph → machine.Lists ieee64
lists_of g = lists_in g.starts.now g.columns.now g.values.now

abbrev pub lent_of : Memory → machine.Lent ieee64
lent_of m = lent_in m.inverse.now m.v0.now m.edge_columns.now m.edge_weights.now m.block0.now m.block1.now m.block2.now m.partials.now m.output.now

abbrev pub all_of : Memory → List Float → machine.Lent ieee64
all_of m ritz_record = machine.with_record ieee64 ritz_record (lent_of m)

abbrev pub lent_seen : MemoryView → machine.Lent ieee64
lent_seen m = lent_in m.inverse.now m.v0.now m.edge_columns.now m.edge_weights.now m.block0.now m.block1.now m.block2.now m.partials.now m.output.now

abbrev pub all_seen : MemoryView → List Float → machine.Lent ieee64
all_seen m ritz_record = machine.with_record ieee64 ritz_record (lent_seen m)

-- the lists are the same places as before: a caller that lent them finds there what a call left
pub record SamePlaces (m n : Memory) : Type 0 where
  pub inverse : n.inverse.ghost_name ≡ m.inverse.ghost_name
  pub v0 : n.v0.ghost_name ≡ m.v0.ghost_name
  pub edge_columns : n.edge_columns.ghost_name ≡ m.edge_columns.ghost_name
  pub edge_weights : n.edge_weights.ghost_name ≡ m.edge_weights.ghost_name
  pub block0 : n.block0.ghost_name ≡ m.block0.ghost_name
  pub block1 : n.block1.ghost_name ≡ m.block1.ghost_name
  pub block2 : n.block2.ghost_name ≡ m.block2.ghost_name
  pub partials : n.partials.ghost_name ≡ m.partials.ghost_name
  pub output : n.output.ghost_name ≡ m.output.ghost_name

-- what a call answered and left
abbrev pub outcome_in : Answer → machine.Lent ieee64 → List ℕ → Outcome ieee64
outcome_in r m marks = record { verdict = verdict_of r.verdict; state = state_in r.state; lent = m; marks = marks }
