-- The invariant: what is looked for stands from `at` on.
use mathlib.Core.Path.{◌≡◌}
use Prim.Native.Nat.{◌-◌, ◌≤◌}
use lib.ListN.{length}
use Rattle.lines.specs.Kinds.{kinds_at}
use Rattle.repeated.specs.Blocks.{first_of, meet_from}
use Rattle.repeated.proofs.meet.Given as goal

abbrev pub invariant-loop-at : goal.invariant-loop-at
invariant-loop-at l =
    (l.line ≤ l.at) × (l.at ≤ length l.text)
    × (meet_from (first_of l.text l.block (length l.table)) l.first l.limit (kinds_at l.text l.from) ≡ meet_from (first_of l.text l.block (length l.table)) l.line l.limit (kinds_at l.text l.at))

abbrev pub decreases-loop-at : goal.decreases-loop-at
decreases-loop-at l = length l.text - l.at
