-- From what the row functions ask and leave to the machine's: a chunk's rows, partial or output in the whole lent memory. `first` and `end` are the
-- chunk's rows as the code computes them. The laws of a chunk's own part are those of `blocks`. Assumes nothing.
use mathlib.Core.Path.{◌≡◌, ap}
use mathlib.Core.List.{List}
use Prim.Native.Nat.{ℕ, ◌+◌, ◌*◌, ◌≤◌, ◌<◌}
use native.Mathlib.Omega.{arith}
use lib.Ieee.{Float}
use Rattle.definition.specs.Arith.{ieee64}
use Rattle.definition.specs.ChunkedColumnReduce.{Block}
use Rattle.definition.specs.Memory.{place, number_at, fill_range}
use Rattle.definition.specs.Numbers.{first_row}
use Rattle.definition.specs.Requirements.{Span, Starts}
use Rattle.definition.proofs.Places.{square-least}
use Rattle.held.specs.Places.{fill_where}
use Rattle.held.proofs.Places.{range_where}
use Rattle.machine.specs.State.{Asked, Lent, chunk_count, wide, with_output, with_partials}
use Rattle.machine.specs.Ready.{AskedReady}
use Rattle.machine.specs.Work.{own_row, on_output, on_partials}
use Rattle.sums.specs.Accumulators.{with_partial}
use Rattle.blocks.proofs.Own.{partial_end, span_of, rows_of, partial_of}

-- two lists of a record
pub two : {A B C : Type 0} (f : A → B → C) {a x : A} {b y : B} → a ≡ x → b ≡ y → f a b ≡ f x y
two f p q = cc

-- starts within m entries lie within more
pub starts-within : {starts : List ℕ} {first end m : ℕ} (l : ℕ) → m ≤ l → Starts starts first end m → Starts starts first end l
starts-within l p s = record { enough = s.enough; rising = s.rising; within = λ i a b. omega (arith, s.within i a b) }

-- chunk h's partial of a column for each dimension lies within the partials
pub partial_room : (a : Asked) (h : ℕ) {m : ℕ} → AskedReady a → h < chunk_count a → chunk_count a * wide a * wide a ≤ m → h * (wide a * wide a) + a.dims ≤ m
partial_room a h r p q = omega (arith, partial_end h (wide a) (chunk_count a) p q, square-least (wide a) (omega arith))

module _ (n h : ℕ) {first end : ℕ} (p : first ≡ first_row n h) (q : end ≡ first_row n (h + 1)) where
  -- a chunk's rows lie within a list that has n numbers or more
  pub span : (m : ℕ) → n ≤ m → Span first end m
  span m l = let s = span_of n h p q in record { ordered = s.ordered; within = omega arith }

  -- the chunk's rows of a list with a number for each row
  pub rows_written : (f : ℕ → Float) (xs : List Float) → fill_range first end f xs ≡ fill_where (own_row n h) f xs
  rows_written f xs = rw (p, q) (range_where (first_row n h) (first_row n (h + 1)) f xs)

module _ (a : Asked) (h : ℕ) (m : Lent ieee64) {first end : ℕ} (p : first ≡ first_row a.rows h) (q : end ≡ first_row a.rows (h + 1)) {ys : List Float} where
  -- the chunk's rows of the output
  pub output-written : (v : Block ieee64) → 1 ≤ a.dims
      → ys ≡ fill_range (place a.rows a.dims first 0) (place a.rows a.dims end 0) (number_at a.rows a.dims v) m.output
      → with_output ieee64 ys m ≡ on_output ieee64 a v h m
  output-written v l e = ap (λ (x : List Float). with_output ieee64 x m) (rows_of a.rows h p q a.dims (number_at a.rows a.dims v) m.output l e)

  -- the chunk's partial
  pub partial_written : (width : ℕ) (f : ℕ → ℕ → Float) → ys ≡ with_partial ieee64 (h * (wide a * wide a)) width f first end m.partials
      → with_partials ieee64 ys m ≡ on_partials ieee64 a width f h m
  partial_written width f e = ap (λ (x : List Float). with_partials ieee64 x m) (partial_of a.rows h p q (wide a) width f m.partials e)
