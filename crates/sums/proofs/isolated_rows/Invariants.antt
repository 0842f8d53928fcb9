-- The invariant: count is that of the first i rows.
use mathlib.Core.Path.{◌≡◌}
use mathlib.Core.List.{List}
use Prim.Native.Nat.{ℕ, ◌≤◌}
use lib.Ieee.{Float}
use Rattle.definition.specs.Arith.{ieee64}
use Rattle.definition.specs.Memory.{vector_of}
use Rattle.definition.specs.SpectralEmbedding.{isolated_rows}
use Rattle.sums.proofs.isolated_rows.Given as goal

abbrev pub counted : List Float → ℕ → ℕ
counted v0 i = isolated_rows ieee64 i (vector_of ieee64.none v0)

abbrev pub invariant-loop-i : goal.invariant-loop-i
invariant-loop-i l = (l.i ≤ l.n) × (l.count ≡ counted l.v0 l.i)
