-- by the laws of proofs.Filling.
use Prim.Native.Nat.{◌-◌}
use lib.ListN.{length}
use Rattle.repeated.proofs.Filling.{Filling}
use Rattle.repeated.proofs.fill.Given as goal

abbrev pub invariant-loop-r : goal.invariant-loop-r
invariant-loop-r l = Filling l.text l.from l.first l.limit l.at l.line l.table

abbrev pub decreases-loop-r : goal.decreases-loop-r
decreases-loop-r l = length l.text - l.at
