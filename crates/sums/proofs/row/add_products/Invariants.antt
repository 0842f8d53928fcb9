-- The sums of the rows below p of the products have the row.
use mathlib.Core.Path.{◌≡◌}
use Prim.Native.Nat.{◌≤◌, ◌*◌, ◌+◌}
use lib.ListN.{get_or}
use lib.Ieee.{nan}
use Rattle.definition.specs.Arith.{ieee64}
use Rattle.definition.specs.Memory.{row_at, column_at}
use Rattle.sums.specs.Accumulators.{raised}
use Rattle.sums.proofs.row.add_products.Given as goal

abbrev pub invariant-loop-p : goal.invariant-loop-p
invariant-loop-p l = (l.p ≤ l.k) × (l.acc ≡ raised ieee64 0 (l.p * l.k) (λ q. ieee64.mul (get_or l.v (l.from + row_at l.k l.k q) nan) (get_or l.w (l.from + column_at l.k l.k q) nan)) l.initial.acc)
