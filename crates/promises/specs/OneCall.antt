-- The one call: the test of the request once, and then the whole run, chunks upward. Definitions only.
use Rattle.std.specs.Prelude.{cond, List, ℕ, ◌-◌, length}
use Rattle.definition.specs.Arith.{Arith}
use Rattle.definition.specs.Memory.{wholes_of}
use Rattle.definition.specs.Numbers.{Params, chunks}
use Rattle.definition.specs.Refusals.{Verdict, accepted, passes, test_request}
use Rattle.definition.specs.SpectralEmbedding.{Counts}
use Rattle.held.specs.Calls.{Base, whole}
use Rattle.held.specs.Marks.{cleared}
use Rattle.machine.specs.State.{Lists, State, Lent, lengths_of}
use Rattle.machine.specs.Work.{work}
use Rattle.promises.specs.Run.{machine_of}
use Rattle.promises.specs.Promises.{stages_of, stages_on}

module _ (A : Arith) where
  -- the answer, and what the lent lists hold then
  pub record Whole : Type 0 where
    pub verdict : Verdict
    pub counts : Counts
    pub lent : Lent A
    pub marks : List ℕ

  abbrev pub no_counts : Counts
  no_counts = record { passes = 0; refreshed = 0; zeroed = 0; isolated = 0 }

  abbrev pub refused_whole : Verdict → Lent A → List ℕ → Whole
  refused_whole v m marks = record { verdict = v; counts = no_counts; lent = m; marks = marks }

  module _ (d : ℕ) (params : Params) (g : Lists A) where
    -- the end of the run: all stages, one after the other
    abbrev pub end_of : Lent A → Base (machine_of A g)
    end_of m = stages_on A d params g (stages_of A d params g) m

    abbrev pub ran_whole : Lent A → List ℕ → Whole
    ran_whole m marks = record {
      verdict = accepted;
      counts = (end_of m).state.counts;
      lent = (end_of m).mem;
      marks = cleared (chunks (length g.starts - 1)) marks;
    }

    -- refusals 1 to 11, zero counts and nothing changed; otherwise the counts and the memory of the run's end
    abbrev pub whole_by : Verdict → Lent A → List ℕ → Whole
    whole_by v m marks = cond (passes v) (ran_whole m marks) (refused_whole v m marks)

    unfoldable pub whole_call : Lent A → List ℕ → Whole
    whole_call m marks = whole_by (test_request A d params g.starts g.columns g.values (wholes_of (lengths_of A m marks))) m marks

    -- p stages closed, and the first h chunks of the next one done
    abbrev pub midway : ℕ → ℕ → Lent A → Lent A
    midway p h m = whole (λ j x. work A (stages_on A d params g p m).state g j x) h (stages_on A d params g p m).mem
