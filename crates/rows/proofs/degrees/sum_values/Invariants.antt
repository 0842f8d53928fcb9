-- The loop's invariant: the values so far are summed.
use mathlib.Core.Path.{◌≡◌}
use Prim.Native.Nat.{◌+◌}
use Rattle.definition.specs.Arith.{ieee64}
use Rattle.definition.specs.ChunkedColumnReduce.{sum_up}
use Rattle.definition.specs.Memory.{vector_of}
use Rattle.rows.proofs.degrees.sum_values.Given as goal

abbrev pub invariant-loop-value : goal.invariant-loop-value
invariant-loop-value l = l.sum ≡ sum_up ieee64 (vector_of ieee64.none l.values) l.a (l.a + l.value-index)
