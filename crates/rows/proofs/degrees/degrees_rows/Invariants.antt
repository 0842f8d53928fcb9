-- The loop's invariant: the rows so far are done in both lists.
use mathlib.Core.Path.{◌≡◌}
use Prim.Native.Nat.{◌≤◌, ◌+◌}
use lib.ListN.{length}
use Rattle.definition.specs.Arith.{ieee64}
use Rattle.definition.specs.Memory.{fill_range, vector_of, wholes_of}
use Rattle.definition.specs.SpectralEmbedding.{degree_root, inverse_weight}
use Rattle.rows.proofs.degrees.degrees_rows.Given as goal

abbrev pub invariant-loop-i : goal.invariant-loop-i
invariant-loop-i l =
    (l.i ≤ length l.initial.inverse) × (length l.inverse ≡ length l.initial.inverse) × (length l.v0 ≡ length l.initial.v0)
    × (l.inverse ≡ fill_range 0 l.i (λ j. inverse_weight ieee64 (wholes_of l.starts) (vector_of ieee64.none l.values) (l.first + j)) l.initial.inverse)
    × (l.v0 ≡ fill_range 0 l.i (λ j. degree_root ieee64 (wholes_of l.starts) (vector_of ieee64.none l.values) (l.first + j)) l.initial.v0)
