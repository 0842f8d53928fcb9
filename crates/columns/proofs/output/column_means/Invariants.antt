use mathlib.Core.Path.{◌≡◌}
use Prim.Native.Nat.{◌≤◌}
use lib.ListN.{length, replicate}
use lib.Ieee.{nan}
use Rattle.definition.specs.Arith.{ieee64}
use Rattle.definition.specs.Memory.{vector_of, fill_range}
use Rattle.columns.proofs.output.column_means.Given as goal

abbrev pub invariant-loop-j : goal.invariant-loop-j
invariant-loop-j l = (l.j ≤ l.d) × (length l.means ≡ 7) × (l.means ≡ fill_range 0 l.j (λ i. ieee64.div (vector_of nan l.sums i) (ieee64.whole l.n)) (replicate 7 ieee64.zero))
