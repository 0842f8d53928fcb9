-- Laws of a chunk's own part: its rows are a span, what is written there is written at the places that the machine names, and its partial lies within the partials. Assumes nothing.
use mathlib.Core.Path.{◌≡◌, ◌∙◌}
use mathlib.Core.List.{List}
use Prim.Native.Nat.{ℕ, ◌+◌, ◌-◌, ◌*◌, ◌≤◌, ◌<◌}
use native.Mathlib.Nat.{mul_assoc, mul-le-mul}
use native.Mathlib.Omega.{arith}
use lib.Ieee.{Float}
use Rattle.definition.specs.Arith.{ieee64}
use Rattle.definition.specs.ChunkedColumnReduce.{partial_sum}
use Rattle.definition.specs.Memory.{place, fill_range}
use Rattle.definition.specs.Numbers.{chunks, first_row}
use Rattle.definition.specs.Requirements.{Span, Width}
use Rattle.definition.proofs.Chunks.{first-most, first-up}
use Rattle.definition.proofs.Places.{row_end, square-most}
use Rattle.held.specs.Places.{fill_where}
use Rattle.held.proofs.Places.{range_where}
use Rattle.machine.specs.State.{Asked, chunk_count, wide}
use Rattle.machine.specs.Ready.{AskedReady}
use Rattle.machine.specs.Work.{own_place, own_partial}
use Rattle.machine.proofs.Own.{rows_where}
use Rattle.sums.specs.Accumulators.{with_partial}

-- ---- the width of what was asked
pub asked-width : {a : Asked} → AskedReady a → Width (wide a)
asked-width r = record { least = omega (arith, r.dims-least); most = omega (arith, r.dims-most) }

-- chunk h's partial ends within the partials of c chunks
pub partial_end : (h k c : ℕ) {m : ℕ} → h < c → c * k * k ≤ m → h * (k * k) + k * k ≤ m
partial_end h k c p q = omega (arith, row_end h (k * k) c p, mul_assoc c k k)

-- a run has at most as many chunks as rows, and a partial at most 225 numbers, so that each partial's place is a number of the machine
pub partial_most : {a : Asked} (h : ℕ) → AskedReady a → h < chunk_count a → h * (wide a * wide a) ≤ 1_048_576 * 225
unfolding chunks
partial_most {a} h r p =
    mul-le-mul {n₁ = h} {m₁ = wide a * wide a} {n₂ = 1_048_576} {m₂ = 225} (omega (arith, r.rows-most, p)) (square-most (wide a) (omega (arith, r.dims-most)))

-- ---- the rows from `first` up to `end` are chunk h's
module _ (n h : ℕ) {first end : ℕ} (p : first ≡ first_row n h) (q : end ≡ first_row n (h + 1)) where
  pub span_of : Span first end n
  span_of = rw (p, q) (record { ordered = first-up n h (h + 1) (omega arith); within = first-most n (h + 1) })

  pub rows_of : {E : Type 0} (k : ℕ) (f : ℕ → E) (xs : List E) {ys : List E} → 0 < k
      → ys ≡ fill_range (place n k first 0) (place n k end 0) f xs → ys ≡ fill_where (own_place n k h) f xs
  rows_of k f xs some e = rw (p, q) at e ∙ rows_where n k h f xs some

  pub partial_of : (k width : ℕ) (f : ℕ → ℕ → Float) (xs : List Float) {ys : List Float}
      → ys ≡ with_partial ieee64 (h * (k * k)) width f first end xs
      → ys ≡ fill_where (own_partial k width h) (λ i. partial_sum ieee64 n (f (i - h * (k * k))) h) xs
  unfolding partial_sum
  partial_of k width f xs e =
      rw (p, q) at e ∙ range_where (h * (k * k)) (h * (k * k) + width) (λ i. partial_sum ieee64 n (f (i - h * (k * k))) h) xs
