use Prim.Native.Nat.{◌-◌}
use lib.Ieee.{nan}
use Rattle.definition.specs.Arith.{ieee64}
use Rattle.definition.specs.Memory.{vector_of, block_of}
use Rattle.columns.proofs.Fills.{Cells}
use Rattle.definition.specs.ChebyshevRayleighRitz.{rotated}
use Rattle.columns.proofs.output.rotate_row.Given as goal

abbrev pub invariant-loop-j : goal.invariant-loop-j
invariant-loop-j l = Cells l.at l.d (λ p. ieee64.mul (rotated ieee64 l.k (λ i. vector_of nan l.row) (block_of nan l.k l.k l.vectors) l.order 0 (p - l.at)) l.weight) l.initial.part l.j l.part
