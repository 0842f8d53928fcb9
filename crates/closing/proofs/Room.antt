-- What the ranges of a sound state leave room for, one more in each count; and the places that a stage's totals take. Assumes nothing.
use mathlib.Core.Path.{◌≡◌, ap, ◌∙◌}
use mathlib.Core.List.{List}
use Prim.Native.Nat.{ℕ, ◌+◌, ◌≤◌}
use native.Mathlib.Nat.{mul-le-mul}
use native.Mathlib.Omega.{arith}
use lib.ListN.{length}
use Rattle.definition.specs.Arith.{Arith}
use Rattle.definition.specs.SpectralEmbedding.{Counts}
use Rattle.machine.specs.State.{Asked, wide}
use Rattle.machine.specs.Ready.{AskedReady, CountsReady}
use Rattle.machine.specs.Closing.{totals_of}
use Rattle.definition.proofs.Fill.{fill_length}

module _ {a : Asked} {t : Counts} (r : AskedReady a) (u : CountsReady a t) where
  pub passes-room : t.passes ≤ 1_001_000
  passes-room = omega (arith, mul-le-mul {n₁ = a.rounds} {m₁ = a.degree + 1} {n₂ = 1000} {m₂ = 1001} (omega arith) (omega arith), u.passes, r.rounds-most, r.degree-most)

  pub refreshed-room : t.refreshed ≤ 15_000
  refreshed-room = omega (arith, mul-le-mul {n₁ = a.rounds} {m₁ = wide a} {n₂ = 1000} {m₂ = 15} (omega arith) (omega arith), u.refreshed)

  pub zeroed-room : t.zeroed ≤ 15_000
  zeroed-room = omega (arith, mul-le-mul {n₁ = a.rounds} {m₁ = wide a} {n₂ = 1000} {m₂ = 15} (omega arith) (omega arith), u.zeroed)

pub totals-room : (A : Arith) (a : Asked) (width : ℕ) (partials : List A.F) {l : List A.F} → l ≡ totals_of A a width partials → length l ≡ 225
unfolding totals_of
totals-room A a width partials e = ap length e ∙ fill_length 0 width _ _
