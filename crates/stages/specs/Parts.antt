-- A state by the parts of it that a chunk's work reads: all but its counts and its matrix. Definitions only.
use Rattle.std.specs.Prelude.{List, [], ℕ, Float}
use Rattle.definition.specs.Arith.{Arith, ieee64}
use Rattle.machine.specs.State as machine
use Rattle.state.specs.Said.{asked_in, progress_in}
use Rattle.state.specs.declared.Asked.{Asked}
use Rattle.state.specs.declared.Progress.{Progress}
use Rattle.stages.specs.declared.StateParts.{StateParts}

-- what was asked, the progress, the totals, the vectors and the Ritz order; no counts and no matrix
abbrev pub parts_state : (A : Arith) → machine.Asked → machine.Progress A → List A.F → List A.F → List ℕ → machine.State A
parts_state A a p totals vectors order = record {
  asked = a;
  progress = p;
  counts = record { passes = 0; refreshed = 0; zeroed = 0; isolated = 0 };
  totals = totals;
  matrix = [];
  vectors = vectors;
  order = order;
}

-- of the code's parts
abbrev pub parts_in : Asked → Progress → List Float → List Float → List ℕ → machine.State ieee64
parts_in a p totals vectors order = parts_state ieee64 (asked_in a) (progress_in p) totals vectors order

abbrev pub parts_of : StateParts → machine.State ieee64
parts_of p = parts_in p.asked p.progress p.totals.now p.vectors.now p.order.now
