-- The loop's invariant: the numbers so far are added to, and the others are as they were.
use mathlib.Core.Path.{◌≡◌}
use Prim.Native.Nat.{◌≤◌, ◌+◌}
use Rattle.definition.specs.Arith.{ieee64}
use Rattle.definition.specs.Memory.{fill_range, vector_of}
use Rattle.rows.proofs.pass.add_entry.Given as goal

abbrev pub invariant-loop-c : goal.invariant-loop-c
invariant-loop-c l = (l.c ≤ l.k) × (l.acc ≡ fill_range 0 l.c (λ j. ieee64.add (vector_of ieee64.none l.initial.acc j) (ieee64.mul l.weight (vector_of ieee64.none l.v (l.from + j)))) l.initial.acc)
