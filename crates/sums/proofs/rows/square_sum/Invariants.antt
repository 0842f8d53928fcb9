-- Acc is the sum over the rows from `first` up to i.
use mathlib.Core.Path.{◌≡◌}
use Prim.Native.Nat.{◌≤◌, ◌*◌, ◌+◌}
use lib.ListN.{get_or}
use lib.Ieee.{nan}
use Rattle.definition.specs.Arith.{ieee64}
use Rattle.definition.specs.ChunkedColumnReduce.{sum_up, square}
use Rattle.sums.proofs.rows.square_sum.Given as goal

abbrev pub invariant-loop-i : goal.invariant-loop-i
invariant-loop-i l = (l.first ≤ l.i) × (l.i ≤ l.end) × (l.acc ≡ sum_up ieee64 (λ j. square ieee64 (get_or l.list (j * l.stride + l.c) nan)) l.first l.i)
