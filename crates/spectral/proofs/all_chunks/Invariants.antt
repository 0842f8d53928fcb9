-- Each chunk of the stage is done and marked.
use Rattle.machine.specs.State.{chunk_count}
use Rattle.state.specs.Said.{asked_in, state_in, lists_of, lent_of, SamePlaces}
use Rattle.spectral.proofs.Chunks.{Upto}
use lib.ListN.{length}
use mathlib.Core.Path.{◌≡◌}
use Rattle.spectral.proofs.all_chunks.Given as goal

abbrev pub invariant-loop-h : goal.invariant-loop-h
invariant-loop-h l =
    (l.chunks ≡ chunk_count (asked_in l.fn.state.asked))
    × Upto (state_in l.fn.state) (lists_of l.graph) (lent_of l.initial.memory) l.initial.marks l.h (lent_of l.memory) l.marks
    × (length l.marks ≡ length l.initial.marks)
    × SamePlaces l.initial.memory l.memory
