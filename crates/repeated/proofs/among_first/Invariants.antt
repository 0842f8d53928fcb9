-- The invariant: the entry is looked for among those `left` of what is still to come.
use mathlib.Core.Path.{◌≡◌}
use lib.ListN.{length}
use Rattle.market.specs.Market.{has}
use Rattle.repeated.specs.Blocks.{first_of}
use Rattle.repeated.proofs.among_first.Given as goal

abbrev pub invariant-loop-kind : goal.invariant-loop-kind
invariant-loop-kind l =
    (goal.iterator-loop-kind).can_next l.kind-iterator
    × (goal.iterator-loop-kind).is_finite l.kind-iterator
    × (has (first_of l.text l.from l.count) l.row l.column ≡ has (first_of l.kind-iterator.0.now 0 l.left) l.row l.column)
