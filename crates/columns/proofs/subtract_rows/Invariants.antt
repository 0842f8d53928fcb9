use Prim.Native.Nat.{◌+◌}
use lib.Ieee.{nan}
use Rattle.definition.specs.Arith.{ieee64}
use Rattle.definition.specs.Memory.{block_of, vector_of}
use Rattle.definition.specs.OrthonormalizeBlock.{with_column, delta}
use Rattle.columns.proofs.Fills.{Turn}
use Rattle.columns.proofs.subtract_rows.Given as goal

abbrev pub invariant-loop-r : goal.invariant-loop-r
invariant-loop-r l =
    Turn l.rows l.k (with_column ieee64 (block_of nan l.rows l.k l.initial.part) l.c
    (λ i. ieee64.sub (block_of nan l.rows l.k l.initial.part i l.c) (delta ieee64 (vector_of nan l.dots) (vector_of nan l.v0 (l.first + i)) (block_of nan l.rows l.k l.initial.part i) l.c))) l.initial.part l.r l.part
