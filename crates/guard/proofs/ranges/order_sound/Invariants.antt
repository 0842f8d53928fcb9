-- The invariant: no place looked at is too high.
use mathlib.Core.Path.{◌≡◌}
use lib.Dec.{leb}
use lib.ListN.{get_or}
use Rattle.machine.specs.Ranges.{none_from}
use Rattle.guard.proofs.ranges.order_sound.Given as goal

abbrev pub invariant-loop-place : goal.invariant-loop-place
invariant-loop-place l = none_from (λ i. leb l.k (get_or l.place-items i 0)) 0 15 ≡ none_from (λ i. leb l.k (get_or l.place-items i 0)) l.place-index 15
