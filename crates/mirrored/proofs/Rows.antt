-- Entries put into rows in file order, and each row sorted: the definition's columns. Assumes nothing.
use mathlib.Core.List.{List, ◌++◌, append_assoc}
use mathlib.Core.Path.{◌≡◌, refl, sym, ap, ap₂, ◌∙◌}
use Prim.Native.Nat.{ℕ, zero, suc, ◌+◌, ◌-◌, ◌≤◌, ◌<◌}
use native.Mathlib.Numerals.{add-one}
use native.Mathlib.Omega.{arith}
use lib.ListN.{length, get_or, take, drop, length-append, length-drop, get_or-append}
use lib.Seq.{take-append_seam, drop-append_seam, take-add, get_or-take, get_or-append-add, get_or-drop, ext_get_or}
use Rattle.ascending.specs.Rows.{row_at, RowStarts, RowsRise}
use Rattle.ascending.proofs.Unique.{rising_unique}
use Rattle.definition.specs.Memory.{fill_range}
use Rattle.definition.proofs.Fill.{split, same_or, fill_length, fill_in, fill_high}
use Rattle.edges.specs.Sorting.{count}
use Rattle.market.specs.Market.{Entry}
use Rattle.market.specs.Graph.{row_of, columns_up_to, columns_of, placed_of, with_columns}
use Rattle.market.specs.Passes.{Within, neighbours, gathered_up_to, gathered_start}
use Rattle.market.proofs.Right.{Distinct}
use Rattle.market.proofs.Starts.{start_first, start-next, start-most}
use Rattle.mirrored.proofs.Counts.{same_count}
use Rattle.mirrored.proofs.Lengths.{start-same}
use Rattle.mirrored.proofs.Rising.{strict_rising, row_strict}

-- ---- rows one behind the other

-- g i is the first i of the rows f
module _ (f g : ℕ → List ℕ) (step : (i : ℕ) → g (suc i) ≡ g i ++ f i) where
  pub part_of : (n i : ℕ) (behind : List ℕ) → i < n → take (length (f i)) (drop (length (g i)) (g n ++ behind)) ≡ f i
  part_of zero i behind h = absurd (omega arith)
  part_of (suc n) i behind h =
      rw (step n, append_assoc (g n) (f n) behind) (same_or i n
      (λ e. rw (← e, drop-append_seam, take-append_seam) refl)
      (λ e. part_of n i (f n ++ behind) (omega arith)))

gathered-step : (es : List Entry) (i : ℕ) → gathered_up_to es (suc i) ≡ gathered_up_to es i ++ neighbours i es
unfolding gathered_up_to
gathered-step es i = refl

pub columns-step : (n : ℕ) (es : List Entry) (i : ℕ) → columns_up_to n es (suc i) ≡ columns_up_to n es i ++ row_of n es i
unfolding columns_up_to
columns-step n es i = refl

-- a list with another in front of it
pub front : (v xs : List ℕ) → length v ≤ length xs → fill_range 0 (length v) (λ p. get_or v p 0) xs ≡ v ++ drop (length v) xs
front v xs h =
    ext_get_or 0 _ _ (omega (arith, fill_length 0 (length v) (λ p. get_or v p 0) xs, length-append v (drop (length v) xs), length-drop (length v) xs))
    (λ i p. split i (length v)
    (λ q. fill_in 0 (length v) (λ p. get_or v p 0) xs i 0 (omega arith) q (omega arith) ∙ sym (get_or-append v (drop (length v) xs) 0 i q))
    (λ q. fill_high 0 (length v) (λ p. get_or v p 0) xs i 0 q ∙ sym (behind i q)))
  where
    behind : (i : ℕ) → length v ≤ i → get_or (v ++ drop (length v) xs) i 0 ≡ get_or xs i 0
    behind i q =
        ap (λ (j : ℕ). get_or (v ++ drop (length v) xs) j 0) (omega arith)
        ∙ get_or-append-add v (drop (length v) xs) (i - length v) 0
        ∙ get_or-drop (length v) xs (i - length v) 0
        ∙ ap (λ (j : ℕ). get_or xs j 0) (omega arith)

-- ---- the columns

-- what the sort asks
pub starts_rise : (n : ℕ) (es : List Entry) (starts : List ℕ) (m : ℕ) → n < length starts → ((i : ℕ) → i ≤ n → get_or starts i 0 ≡ gathered_start es i)
    → gathered_start es n ≤ m → RowStarts n starts m
starts_rise n es starts m q are room = record {
  enough = q;
  first = are 0 (omega arith) ∙ start_first es;
  rising = λ i p. omega (arith, are i (omega arith), are (i + 1) (omega arith), ap (gathered_start es) (add-one i), start-next es i);
  within = λ i p. omega (arith, are i p, start-most es i n p);
}

-- what is lent, what stands there in file order, and what stands there sorted
pub record Placed (n : ℕ) (es : List Entry) (starts lent filed sorted : List ℕ) : Type 0 where
  pub within : Within n es
  pub distinct : Distinct es
  pub starts_are : (i : ℕ) → i ≤ n → get_or starts i 0 ≡ gathered_start es i
  pub room : gathered_start es n ≤ length lent
  pub filed_is : filed ≡ fill_range 0 (gathered_start es n) (λ p. get_or (gathered_up_to es n) p 0) lent
  pub sorted_is : RowsRise n starts filed sorted

module _ {n : ℕ} {es : List Entry} {starts lent filed sorted : List ℕ} (h : Placed n es starts lent filed sorted) where
  filed_front : filed ≡ gathered_up_to es n ++ drop (gathered_start es n) lent
  unfolding gathered_start
  filed_front = h.filed_is ∙ front (gathered_up_to es n) lent h.room

  row-size : (i : ℕ) → i < n → get_or starts (i + 1) 0 - get_or starts i 0 ≡ length (neighbours i es)
  row-size i p =
      omega (arith, h.starts_are i (omega arith), h.starts_are (i + 1) (omega arith), ap (gathered_start es) (add-one i), start-next es i)

  filed_row : (i : ℕ) → i < n → row_at starts filed i ≡ neighbours i es
  unfolding gathered_start
  filed_row i p =
      rw (row-size i p, h.starts_are i (omega arith), filed_front)
      (part_of (λ j. neighbours j es) (gathered_up_to es) (gathered-step es) n i (drop (gathered_start es n) lent) p)

  sorted_row : (i : ℕ) → i < n → row_at starts sorted i ≡ row_of n es i
  sorted_row i p =
      rising_unique (row_at starts sorted i) (row_of n es i) (h.sorted_is.rises i p) (strict_rising (row_of n es i) (row_strict n es i))
      (λ x. h.sorted_is.same i p x ∙ ap (count x) (filed_row i p) ∙ same_count n es i x h.within h.distinct)

  sorted_front : (i : ℕ) → i ≤ n → take (gathered_start es i) sorted ≡ columns_up_to n es i
  unfolding columns_up_to
  sorted_front zero p = ap (λ (m : ℕ). take m sorted) (start_first es)
  sorted_front (suc i) p =
      ap (λ (m : ℕ). take m sorted) (start-next es i)
      ∙ take-add (gathered_start es i) (length (neighbours i es)) sorted
      ∙ ap₂ (λ (a b : List ℕ). a ++ b) (sorted_front i (omega arith))
      (ap₂ (λ (s e : ℕ). take s (drop e sorted)) (sym (row-size i (omega arith))) (sym (h.starts_are i (omega arith))) ∙ sorted_row i (omega arith))

  -- the lent list with the definition's columns in front
  pub sorted_are : sorted ≡ with_columns n es lent
  sorted_are =
      let s = start-same n es h.within h.distinct n in
      let size = fill_length 0 (gathered_start es n) (λ p. get_or (gathered_up_to es n) p 0) lent in
      let whole = ap length h.filed_is in
      ext_get_or 0 _ _ (omega (arith, h.sorted_is.length-same, whole, size, fill_length 0 (placed_of n es) (λ p. get_or (columns_of n es) p 0) lent))
      (λ p q. split p (gathered_start es n)
      (λ u. sym (get_or-take (gathered_start es n) sorted p 0 u) ∙ ap (λ (l : List ℕ). get_or l p 0) (sorted_front n (omega arith))
      ∙ sym (fill_in 0 (placed_of n es) (λ p. get_or (columns_of n es) p 0) lent p 0 (omega arith) (omega arith) (omega (arith, h.room))))
      (λ u. h.sorted_is.behind p (omega (arith, h.starts_are n (omega arith)))
      ∙ ap (λ (l : List ℕ). get_or l p 0) h.filed_is
      ∙ fill_high 0 (gathered_start es n) (λ p. get_or (gathered_up_to es n) p 0) lent p 0 u
      ∙ sym (fill_high 0 (placed_of n es) (λ p. get_or (columns_of n es) p 0) lent p 0 (omega arith))))
