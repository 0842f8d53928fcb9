use mathlib.Core.Path.{◌≡◌}
use Prim.Native.Nat.{◌≤◌}
use lib.Ieee.{nan}
use Rattle.definition.specs.Arith.{ieee64}
use Rattle.definition.specs.Memory.{vector_of}
use Rattle.definition.specs.ChunkedColumnReduce.{add_up}
use Rattle.columns.proofs.row_delta.Given as goal

abbrev pub invariant-loop-p : goal.invariant-loop-p
invariant-loop-p l = (l.p ≤ l.c) × (l.sum ≡ add_up ieee64 (ieee64.mul (vector_of nan l.dots l.c) l.own) (λ i. ieee64.mul (vector_of nan l.dots i) (vector_of nan l.row i)) 0 l.p)
