use Prim.Native.Nat.{◌-◌}
use lib.ListN.{length}
use Rattle.scanning.proofs.Steps.{Scanning}
use Rattle.scanning.proofs.scan.Given as goal

abbrev pub invariant-loop-at : goal.invariant-loop-at
invariant-loop-at l = Scanning l.text l.from l.first l.n l.m l.at l.line l.passed

abbrev pub decreases-loop-at : goal.decreases-loop-at
decreases-loop-at l = length l.text - l.at
