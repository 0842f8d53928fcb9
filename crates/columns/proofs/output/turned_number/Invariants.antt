use mathlib.Core.Path.{◌≡◌}
use Prim.Native.Nat.{◌≤◌}
use lib.Ieee.{nan}
use Rattle.definition.specs.Arith.{ieee64}
use Rattle.definition.specs.Memory.{vector_of, block_of}
use Rattle.definition.specs.ChunkedColumnReduce.{sum_up}
use Rattle.columns.proofs.output.turned_number.Given as goal

abbrev pub invariant-loop-p : goal.invariant-loop-p
invariant-loop-p l = (l.p ≤ l.k) × (l.sum ≡ sum_up ieee64 (λ i. ieee64.mul (vector_of nan l.row i) (block_of nan l.k l.k l.vectors i l.q)) 0 l.p)
