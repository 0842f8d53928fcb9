-- Laws of a block's rows lent as a part that begins at the first of them: where a row's numbers stand, the part's length, and the part put back. Assumes nothing.
use mathlib.Core.Path.{◌≡◌, refl, sym, ap, ◌∙◌}
use mathlib.Core.List.{List, ◌++◌}
use Prim.Native.Nat.{ℕ, ◌+◌, ◌-◌, ◌*◌, ◌/◌, ◌%◌, ◌≤◌, ◌<◌}
use native.Mathlib.Nat.{add-zero, add-mul, mul-le-mul_right, mul-add-div_right, mul-add-mod_self_right, div-lt_iff_lt-mul, mod-lt}
use native.Mathlib.Omega.{arith}
use lib.ListN.{length, get_or, take, drop}
use Rattle.definition.specs.Memory.{place, row_at, column_at, block_of, number_at, fill_range}
use Rattle.definition.specs.Requirements.{Span}
use Rattle.definition.proofs.Fill.{fill_part, fill_to}
use Rattle.definition.proofs.Places.{row_below}
use Rattle.definition.proofs.Parts.{part_length, part_at}

-- where a row begins, and its numbers from there on
pub place-first : (n k i : ℕ) → place n k i 0 ≡ i * k
unfolding place
place-first n k i = add-zero (i * k)

pub block_at : {E : Type 0} (d : E) (n k : ℕ) (l : List E) (i c : ℕ) → block_of d n k l i c ≡ get_or l (i * k + c) d
unfolding place block_of
block_at d n k l i c = refl

-- number c of the row that stands r rows after `first`
pub place_after : (n k first r c : ℕ) → place n k first 0 + (r * k + c) ≡ place n k (first + r) c
unfolding place
place_after n k first r c = omega (arith, add-mul first r k)

-- the places of a span of rows are a span of the block's places
pub span-places : (k : ℕ) {first end n m : ℕ} → Span first end n → n * k ≤ m → Span (first * k) (end * k) m
span-places k {first} {end} {n} s h = record {
  ordered = mul-le-mul_right {m = first} {n = end} k s.ordered;
  within = omega (arith, mul-le-mul_right {m = end} {n = n} k s.within);
}

module _ {E : Type 0} (n k first end : ℕ) (xs : List E) (s : Span first end n) (h : n * k ≤ length xs) where
  -- a span's part of the block is as long as its rows
  pub rows-length : length (take (end * k - first * k) (drop (first * k) xs)) ≡ (end - first) * k
  rows-length =
      let e : end - first + first ≡ end = omega (arith, s.ordered) in
      part_length (first * k) (end * k) xs (span-places k s h).within ∙ omega (arith, rw e at (add-mul (end - first) first k))

  -- and is put back where it was lent
  pub rows_back : (f g : ℕ → E) {ys : List E} → ((p : ℕ) → p < (end - first) * k → f p ≡ g (place n k first 0 + p))
      → ys ≡ fill_range 0 (length (take (end * k - first * k) (drop (first * k) xs))) f (take (end * k - first * k) (drop (first * k) xs))
      → take (first * k) xs ++ (ys ++ drop (end * k - first * k) (drop (first * k) xs)) ≡ fill_range (place n k first 0) (place n k end 0) g xs
  rows_back f g e q =
      let t = span-places k s h in
      let l : end * k - first * k ≡ (end - first) * k = sym (part_length (first * k) (end * k) xs t.within) ∙ rows-length in
      rw (place-first n k first, place-first n k end)
      (fill_part (first * k) (end * k) f g xs t.ordered t.within
      (λ p u. e p (omega arith) ∙ ap (λ (a : ℕ). g (a + p)) (place-first n k first)) q)

  -- row r of the part is row first + r of the block
  pub part-number : (none : E) (r d : ℕ) → r < end - first → d < k
      → block_of none (end - first) k (take (end * k - first * k) (drop (first * k) xs)) r d ≡ block_of none n k xs (first + r) d
  unfolding block_of place
  part-number none r d p q =
      let l : end * k - first * k ≡ (end - first) * k = sym (part_length (first * k) (end * k) xs (span-places k s h).within) ∙ rows-length in
      part_at (first * k) (end * k) xs (r * k + d) none (omega (arith, row_below r k d (end - first) p q))
      ∙ ap (λ (i : ℕ). get_or xs i none) (omega (arith, add-mul first r k))

  -- the part as a block of its own, filled and put back, where its row r is to be row first + r
  pub block_back : (u w : ℕ → ℕ → E) {ys : List E} → 0 < k → ((r d : ℕ) → r < end - first → d < k → u r d ≡ w (first + r) d)
      → ys ≡ fill_range 0 (place (end - first) k (end - first) 0) (number_at (end - first) k u) (take (end * k - first * k) (drop (first * k) xs))
      → take (first * k) xs ++ (ys ++ drop (end * k - first * k) (drop (first * k) xs)) ≡ fill_range (place n k first 0) (place n k end 0) (number_at n k w) xs
  unfolding number_at row_at column_at
  block_back u w q same eq =
      rows_back (number_at (end - first) k u) (number_at n k w) each
      (fill_to 0 (number_at (end - first) k u) _ eq (place-first (end - first) k (end - first) ∙ sym rows-length))
    where
      each : (i : ℕ) → i < (end - first) * k → number_at (end - first) k u i ≡ number_at n k w (place n k first 0 + i)
      each i p =
          rw (place-first n k first)
          (same (i / k) (i % k) ((div-lt_iff_lt-mul q).1 p) (mod-lt i q)
          ∙ ap (λ (r : ℕ). w r (i % k)) (sym (mul-add-div_right q first i))
          ∙ ap (w ((first * k + i) / k)) (sym (mul-add-mod_self_right first k i)))
