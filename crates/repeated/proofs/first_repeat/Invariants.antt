-- The invariant: what is looked for stands from `at` on.
use mathlib.Core.Path.{◌≡◌}
use mathlib.Core.List.{[]}
use Prim.Native.Nat.{◌-◌, ◌≤◌}
use lib.ListN.{length}
use Rattle.lines.specs.Kinds.{kinds_at}
use Rattle.market.specs.Passes.{repeat_from}
use Rattle.repeated.proofs.first_repeat.Given as goal

abbrev pub invariant-loop-at : goal.invariant-loop-at
invariant-loop-at l =
    (l.line ≤ l.at) × (l.at ≤ length l.text)
    × (repeat_from [] l.first l.limit (kinds_at l.text l.from) ≡ repeat_from [] l.line l.end (kinds_at l.text l.at))

abbrev pub decreases-loop-at : goal.decreases-loop-at
decreases-loop-at l = length l.text - l.at
