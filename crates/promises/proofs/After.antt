-- What the lists hold after all chunks of a stage: each row, each number of a block, each chunk's partial, and the totals. Assumes nothing.
use mathlib.Core.Path.{◌≡◌, refl, sym, ap, ap₂, ◌∙◌}
use mathlib.Core.Bool.{Bool, true, false}
use mathlib.Core.List.{List}
use Prim.Native.Nat.{ℕ, zero, suc, ◌+◌, ◌-◌, ◌*◌, ◌/◌, ◌≤◌, ◌<◌}
use native.Mathlib.Nat.{mul-le-mul_right, suc-mul, mul_assoc}
use native.Mathlib.Omega.{arith}
use lib.ListN.{length, get_or}
use Rattle.definition.specs.Arith.{Arith}
use Rattle.definition.specs.ChunkedColumnReduce.{Block, sum_up, partial_sum, chunked_sum}
use Rattle.definition.specs.Memory.{place, vector_of, block_of, number_at, fill_range}
use Rattle.definition.specs.Numbers.{chunks, chunk_rows}
use Rattle.definition.proofs.Chunks.{chunk_of}
use Rattle.definition.proofs.Fill.{fill_in}
use Rattle.definition.proofs.Places.{place-below, number-at}
use Rattle.definition.proofs.Sums.{sum_cong}
use Rattle.held.specs.Calls.{whole}
use Rattle.held.proofs.Lens.{Lens, fill_op, Local, whole-at}
use Rattle.machine.specs.State.{Asked, wide, chunk_count, matrix_room, Lent, block_at}
use Rattle.machine.specs.Work.{own_row, own_place, own_partial}
use Rattle.machine.specs.Closing.{total_at, totals_of}
use Rattle.machine.specs.Ready.{AskedReady, LentReady}
use Rattle.machine.proofs.Own.{within-true, own-row-once, own-place-once, row_owner}
use Rattle.promises.proofs.RowPlaces.{place_owner}
use Rattle.promises.proofs.Lenses.{partials_l}
use Rattle.promises.proofs.Acts.{own_partial_once}
use lib.ListN.{replicate, length-replicate}

module _ (A : Arith) (a : Asked) (r : AskedReady a) where
  pub some : 0 < wide a
  some = omega arith

  pub rows-after : (L : Lens (Lent A) A.F) (val : Lent A → ℕ → A.F) → Local L (own_row a.rows) A.none (λ h. val) → (m : Lent A) → a.rows ≤ length (L.get m)
      → (i : ℕ) → i < a.rows → get_or (L.get (whole (fill_op L (own_row a.rows) A.none (λ h. val)) (chunk_count a) m)) i A.none ≡ val m i
  rows-after L val loc m e i p =
      whole-at L (own_row a.rows) A.none (λ h j q. own-row-once a.rows h j q) (λ h. val) loc (chunk_count a) m (i / chunk_rows) i (chunk_of a.rows i p) (row_owner a.rows i p) (omega arith)

  -- n rows of k numbers in one list
  pub places-after : (k : ℕ) → 0 < k → (L : Lens (Lent A) A.F) (v : Lent A → Block A) → Local L (own_place a.rows k) A.none (λ h m. number_at a.rows k (v m))
      → (m : Lent A) → a.rows * k ≤ length (L.get m) → (i c : ℕ) → i < a.rows → c < k
      → block_of A.none a.rows k (L.get (whole (fill_op L (own_place a.rows k) A.none (λ h m. number_at a.rows k (v m))) (chunk_count a) m)) i c ≡ v m i c
  unfolding block_of
  places-after k q L v loc m e i c p l =
      whole-at L (own_place a.rows k) A.none (λ h j x. own-place-once a.rows k h j x) (λ h m. number_at a.rows k (v m)) loc (chunk_count a) m (i / chunk_rows) (place a.rows k i c)
      (chunk_of a.rows i p) (place_owner a.rows k q i c p l) (omega (arith, place-below a.rows k i c p l))
      ∙ number-at a.rows k (v m) i c l

  -- a chunk's partial, and the totals
  abbrev pub partial_val : (Lent A → ℕ → ℕ → A.F) → ℕ → Lent A → ℕ → A.F
  partial_val f h m q = partial_sum A a.rows (f m (q - h * (wide a * wide a))) h

  partial_below : (m : Lent A) → LentReady A a m → (h q : ℕ) → h < chunk_count a → q < wide a * wide a → h * (wide a * wide a) + q < length m.partials
  partial_below m l h q p s =
      omega (arith, l.lists.partials, mul-le-mul_right {m = suc h} {n = chunk_count a} (wide a * wide a) p, suc-mul h (wide a * wide a), mul_assoc (chunk_count a) (wide a) (wide a))

  module _ (width : ℕ) (w : width ≤ wide a * wide a) (f : Lent A → ℕ → ℕ → A.F) (loc : Local (partials_l A) (own_partial (wide a) width) A.none (partial_val f)) (m : Lent A) (l : LentReady A a m) where
    pub partials-after : (h q : ℕ) → h < chunk_count a → q < width
        → vector_of A.none (whole (fill_op (partials_l A) (own_partial (wide a) width) A.none (partial_val f)) (chunk_count a) m).partials (h * (wide a * wide a) + q) ≡ partial_sum A a.rows (f m q) h
    partials-after h q p s =
        whole-at (partials_l A) (own_partial (wide a) width) A.none (λ i j x. own_partial_once (wide a) width i j x w) (partial_val f) loc (chunk_count a) m h (h * (wide a * wide a) + q) p
        (within-true (h * (wide a * wide a)) (h * (wide a * wide a) + width) (h * (wide a * wide a) + q) (omega arith) (omega arith)) (partial_below m l h q p (omega arith))
        ∙ ap (λ (x : ℕ). partial_sum A a.rows (f m x) h) (omega arith)

    pub total_after : (q : ℕ) → q < width
        → total_at A a (whole (fill_op (partials_l A) (own_partial (wide a) width) A.none (partial_val f)) (chunk_count a) m).partials q ≡ chunked_sum A a.rows (f m q)
    unfolding total_at chunked_sum
    total_after q s = sum_cong A _ (partial_sum A a.rows (f m q)) 0 (chunk_count a) (λ h u v. partials-after h q v s)

  -- the totals' list
  pub totals-at : (width : ℕ) (partials : List A.F) (q : ℕ) → width ≤ matrix_room → q < width → vector_of A.none (totals_of A a width partials) q ≡ total_at A a partials q
  unfolding totals_of
  totals-at width partials q w s = fill_in 0 width (total_at A a partials) (replicate matrix_room A.zero) q A.none (omega arith) s (omega (arith, length-replicate matrix_room A.zero))
