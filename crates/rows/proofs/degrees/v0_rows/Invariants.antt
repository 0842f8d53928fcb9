-- The loop's invariant: the rows so far are done, and the others are as they were.
use mathlib.Core.Path.{◌≡◌}
use Rattle.definition.specs.Arith.{ieee64}
use Rattle.definition.specs.Memory.{fill_range, vector_of}
use Rattle.definition.specs.SpectralEmbedding.{v0_of}
use Rattle.rows.proofs.degrees.v0_rows.Given as goal

abbrev pub invariant-loop-x : goal.invariant-loop-x
invariant-loop-x l = l.v0 ≡ fill_range 0 l.x-index (λ j. v0_of ieee64 l.norm (vector_of ieee64.none l.initial.v0 j)) l.initial.v0
