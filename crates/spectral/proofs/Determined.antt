-- A contract of `run` or of the one call leaves one answer: what two answers say is the same only if they are the same. Assumes nothing.
use mathlib.Core.Path.{◌≡◌, ap}
use mathlib.Core.List.{List}
use Prim.Native.Nat.{ℕ}
use Rattle.definition.specs.Arith.{ieee64}
use Rattle.definition.specs.Refusals as definition
use Rattle.definition.specs.SpectralEmbedding as embedding
use Rattle.input.specs.declared.Verdict.{Verdict}
use Rattle.machine.specs.State as machine
use Rattle.machine.specs.Calls.{Outcome}
use Rattle.promises.specs.OneCall.{Whole}
use Rattle.state.specs.declared.Counts.{Counts}
use Rattle.state.specs.declared.State.{State}
use Rattle.state.specs.declared.Answer.{Answer}
use Rattle.state.specs.Said.{outcome_in}
use Rattle.spectral.specs.declared.Embedded.{Embedded}
use Rattle.spectral.specs.Said.{whole_in}

-- ---- the code's records from the machine's
abbrev verdict_back : definition.Verdict → Verdict
verdict_back v = record { number = v.number; place = v.place }

abbrev counts_back : embedding.Counts → Counts
counts_back t = record { passes = t.passes; refreshed = t.refreshed; zeroed = t.zeroed; isolated = t.isolated }

abbrev state_back : machine.State ieee64 → State
state_back s = record {
  asked = record { dims = s.asked.dims; rows = s.asked.rows; entries = s.asked.entries; rounds = s.asked.rounds; degree = s.asked.degree; seed_std = s.asked.seed_std };
  progress = record {
    stage = s.progress.stage;
    round = s.progress.round;
    pass = s.progress.pass;
    column = s.progress.column;
    attempt = s.progress.attempt;
    current = s.progress.current;
    previous = s.progress.previous;
    bound = s.progress.bound;
    alpha = s.progress.alpha;
    before = s.progress.before;
    norm = s.progress.norm;
  };
  counts = counts_back s.counts;
  totals = s.totals;
  matrix = s.matrix;
  vectors = s.vectors;
  order = s.order;
}

-- opening, a chunk, closing
pub answer_once : (r q : Answer) (m n : machine.Lent ieee64) (a b : List ℕ) → outcome_in r m a ≡ outcome_in q n b → (r ≡ q) × (m ≡ n) × (a ≡ b)
answer_once r q m n a b e = (
  ap (λ (o : Outcome ieee64). record { verdict = verdict_back o.verdict; state = state_back o.state }) e,
  ap (λ (o : Outcome ieee64). o.lent) e,
  ap (λ (o : Outcome ieee64). o.marks) e,
)

-- the one call
pub embedded_once : (r q : Embedded) (m n : machine.Lent ieee64) (a b : List ℕ) → whole_in r m a ≡ whole_in q n b → (r ≡ q) × (m ≡ n) × (a ≡ b)
embedded_once r q m n a b e = (
  ap (λ (o : Whole ieee64). record { verdict = verdict_back o.verdict; counts = counts_back o.counts }) e,
  ap (λ (o : Whole ieee64). o.lent) e,
  ap (λ (o : Whole ieee64). o.marks) e,
)
