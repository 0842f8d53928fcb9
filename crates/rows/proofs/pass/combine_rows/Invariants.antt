-- The loop's invariant: the rows so far are written.
use mathlib.Core.Path.{◌≡◌}
use Prim.Native.Nat.{◌≤◌, ◌*◌, ◌+◌}
use lib.ListN.{length}
use Rattle.definition.specs.Arith.{ieee64}
use Rattle.definition.specs.Memory.{fill_range, place}
use Rattle.numbers.specs.Answers.{multipliers_of}
use Rattle.rows.specs.Pass.{combined_at, operator_of}
use Rattle.rows.proofs.pass.combine_rows.Given as goal

abbrev pub invariant-loop-r : goal.invariant-loop-r
invariant-loop-r g l =
    (l.r ≤ l.rows) × (length l.out ≡ length l.initial.out) × (l.out ≡ fill_range 0 (l.r * g.row.K)
    (λ p. combined_at ieee64 l.n g.row.K (operator_of ieee64 l.op.starts.now l.op.columns.now l.op.weights.now l.op.inverse.now) (multipliers_of l.by) l.v l.prev (place l.n g.row.K l.first 0 + p)) l.initial.out)
