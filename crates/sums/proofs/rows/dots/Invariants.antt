-- The sums have the rows below i.
use mathlib.Core.Path.{◌≡◌}
use Prim.Native.Nat.{◌≤◌, ◌+◌}
use lib.Ieee.{nan}
use Rattle.definition.specs.Arith.{ieee64}
use Rattle.definition.specs.OrthonormalizeBlock.{dot_term}
use Rattle.definition.specs.Memory.{vector_of, block_of}
use Rattle.sums.specs.Accumulators.{summed}
use Rattle.sums.proofs.rows.dots.Given as goal

abbrev pub invariant-loop-i : goal.invariant-loop-i
invariant-loop-i l = (l.first ≤ l.i) × (l.i ≤ l.end) × (l.acc ≡ summed ieee64 (l.c + 1) (dot_term ieee64 (vector_of nan l.v0) (block_of nan l.fn.own.n l.k l.v) l.c) l.first l.i)
