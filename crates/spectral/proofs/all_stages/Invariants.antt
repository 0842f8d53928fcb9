-- Every stage up to the run's end is closed.
use mathlib.Core.Path.{◌≡◌}
use lib.ListN.{length}
use Rattle.state.specs.Said.{asked_in, state_in, lists_of, all_of, SamePlaces}
use Rattle.spectral.specs.Said.{params_asked}
use Rattle.spectral.proofs.Stages.{At}
use Rattle.spectral.proofs.all_stages.Given as goal

abbrev pub invariant-loop-closed : goal.invariant-loop-closed
invariant-loop-closed l =
    At l.initial.reached.asked.dims (params_asked (asked_in l.initial.reached.asked)) (lists_of l.graph) (all_of l.initial.memory l.initial.ritz_record) l.initial.marks l.closed (state_in l.reached) (all_of l.memory l.ritz_record) l.marks
    × (length l.marks ≡ length l.initial.marks)
    × (length l.ritz_record ≡ length l.initial.ritz_record)
    × SamePlaces l.initial.memory l.memory
