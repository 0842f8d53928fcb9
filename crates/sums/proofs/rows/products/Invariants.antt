-- The sums have the rows below i.
use mathlib.Core.Path.{◌≡◌}
use Prim.Native.Nat.{◌≤◌, ◌*◌}
use lib.Ieee.{nan}
use Rattle.definition.specs.Arith.{ieee64}
use Rattle.definition.specs.Memory.{block_of}
use Rattle.sums.specs.Accumulators.{summed, product_term}
use Rattle.sums.proofs.rows.products.Given as goal

abbrev pub invariant-loop-i : goal.invariant-loop-i
invariant-loop-i l =
    (l.first ≤ l.i) × (l.i ≤ l.end)
    × (l.acc ≡ summed ieee64 (l.k * l.k) (product_term ieee64 l.k (block_of nan l.fn.own.n l.k l.v) (block_of nan l.fn.own.n l.k l.w)) l.first l.i)
