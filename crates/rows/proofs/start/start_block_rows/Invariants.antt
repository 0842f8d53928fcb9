-- The loop's invariant: the numbers so far are written.
use mathlib.Core.Path.{◌≡◌}
use Prim.Native.Nat.{◌≤◌, ◌+◌}
use lib.ListN.{length}
use Rattle.definition.specs.Arith.{ieee64}
use Rattle.definition.specs.Memory.{fill_range}
use Rattle.rows.proofs.start.start_block_rows.Given as goal

abbrev pub invariant-loop-p : goal.invariant-loop-p
invariant-loop-p l = (l.p ≤ length l.initial.rows) × (length l.rows ≡ length l.initial.rows) × (l.rows ≡ fill_range 0 l.p (λ j. ieee64.start (l.from + j)) l.initial.rows)
