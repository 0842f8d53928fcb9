-- The loop fills the places behind the bound's.
use mathlib.Core.Path.{◌≡◌}
use Prim.Native.Nat.{◌+◌, ◌-◌, ◌≤◌}
use lib.ListN.{length}
use Rattle.definition.specs.Arith.{ieee64}
use Rattle.definition.specs.Memory.{fill_range}
use Rattle.machine.specs.Closing.{recorded}
use Rattle.closing.proofs.record.record_round.Given as goal

abbrev pub invariant-loop-j : goal.invariant-loop-j
invariant-loop-j l =
    (l.j ≤ l.k)
    × (length l.ritz_record ≡ length l.initial.ritz_record)
    × (l.ritz_record ≡ fill_range (l.first + 1) (l.first + 1 + l.j) (λ p. recorded ieee64 l.k l.bound l.matrix l.order (p - l.first)) l.initial.ritz_record)
