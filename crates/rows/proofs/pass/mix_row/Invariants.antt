-- The loop's invariant: the numbers so far are mixed.
use mathlib.Core.Path.{◌≡◌}
use Prim.Native.Nat.{◌≤◌, ◌+◌}
use lib.ListN.{length, replicate}
use Rattle.definition.specs.Arith.{ieee64}
use Rattle.definition.specs.MatvecCombine.{mixed_with, shifted}
use Rattle.definition.specs.Memory.{fill_range, vector_of}
use Rattle.numbers.specs.Answers.{multipliers_of}
use Rattle.rows.proofs.pass.mix_row.Given as goal

abbrev pub invariant-loop-c : goal.invariant-loop-c
invariant-loop-c l =
    (l.c ≤ l.k) × (length l.mixed ≡ 15) × (l.mixed ≡ fill_range 0 l.c
    (λ j. mixed_with ieee64 (multipliers_of l.by)
    (shifted ieee64 l.inverse (vector_of ieee64.none l.v (l.from + j)) (vector_of ieee64.none l.acc j))
    (vector_of ieee64.none l.v (l.from + j)) (vector_of ieee64.none l.prev (l.from + j)))
    (replicate 15 ieee64.zero))
