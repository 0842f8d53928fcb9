-- The three calls of a held run: opening, a chunk, closing. Each answers a verdict and a state, and leaves the lent lists so. Definitions only.
use Rattle.std.specs.Prelude.{cond, List, ℕ, ◌-◌, length, set}
use Rattle.definition.specs.Arith.{Arith}
use Rattle.definition.specs.Memory.{wholes_of}
use Rattle.definition.specs.Numbers.{Params, chunks}
use Rattle.definition.specs.Refusals.{Verdict, accepted, passes, test_request}
use Rattle.held.specs.Marks.{cleared}
use Rattle.machine.specs.State.{chunk_count, Lists, State, Lent, lengths_of, opened_state, empty_state}
use Rattle.machine.specs.Ranges.{test_chunk, test_close}
use Rattle.machine.specs.Work.{work}
use Rattle.machine.specs.Closing.{closed, tidied}

module _ (A : Arith) where
  -- the answer, and what the lent lists hold then
  pub record Outcome : Type 0 where
    pub verdict : Verdict
    pub state : State A
    pub lent : Lent A
    pub marks : List ℕ

  abbrev pub outcome : Verdict → State A → Lent A → List ℕ → Outcome
  outcome v s m marks = record { verdict = v; state = s; lent = m; marks = marks }

  -- opening writes only the first C marks, all 0; a refused one answers the empty state
  abbrev pub open_by : Verdict → ℕ → Params → Lists A → Lent A → List ℕ → Outcome
  open_by v d p g m marks =
      cond (passes v) (outcome accepted (opened_state A d p g) m (cleared (chunks (length g.starts - 1)) marks)) (outcome v (empty_state A) m marks)

  unfoldable pub open_call : ℕ → Params → Lists A → Lent A → List ℕ → Outcome
  open_call d p g m marks = open_by (test_request A d p g.starts g.columns g.values (wholes_of (lengths_of A m marks))) d p g m marks

  -- a chunk's work, and its mark
  abbrev pub chunk_by : Verdict → State A → ℕ → Lists A → Lent A → List ℕ → Outcome
  chunk_by v s h g m marks = cond (passes v) (outcome accepted s (work A s g h m) (set marks h 1)) (outcome v s m marks)

  unfoldable pub chunk_call : State A → ℕ → Lists A → Lent A → List ℕ → Outcome
  chunk_call s h g m marks = chunk_by (test_chunk A s h g m marks) s h g m marks

  -- closing writes only marks, state and, after the products, the round's places of the Ritz record
  abbrev pub close_by : Verdict → State A → Lent A → List ℕ → Outcome
  close_by v s m marks = cond (passes v) (outcome accepted (closed A s m) (tidied A s m) (cleared (chunk_count s.asked) marks)) (outcome v s m marks)

  unfoldable pub close_call : State A → Lists A → Lent A → List ℕ → Outcome
  close_call s g m marks = close_by (test_close A s g m marks) s m marks
