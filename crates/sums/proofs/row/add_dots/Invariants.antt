-- The sums below p have the row, and at last the one at c.
use mathlib.Core.Path.{◌≡◌}
use mathlib.Core.Bool.{cond}
use Prim.Native.Nat.{◌≤◌, ◌+◌}
use lib.Dec.{eqb}
use lib.ListN.{get_or}
use lib.Ieee.{nan}
use Rattle.definition.specs.Arith.{ieee64}
use Rattle.sums.specs.Accumulators.{raised}
use Rattle.sums.proofs.row.add_dots.Given as goal

abbrev pub invariant-loop-p : goal.invariant-loop-p
invariant-loop-p l = (l.p ≤ l.c) × (l.acc ≡ raised ieee64 0 l.p (λ q. ieee64.mul (cond (eqb q l.c) l.x0 (get_or l.v (l.from + q) nan)) (get_or l.v (l.from + l.c) nan)) l.initial.acc)
