-- A pass, a row at a time: what a row's entries may ask, one more entry gathered, a row's entries as parts of the lists, and a row gathered, mixed and copied out. Assumes nothing.
use mathlib.Core.Path.{◌≡◌, refl, sym, ap, ◌∙◌}
use mathlib.Core.List.{List}
use Prim.Native.Nat.{ℕ, zero, suc, ◌+◌, ◌-◌, ◌*◌, ◌≤◌, ◌<◌}
use native.Mathlib.Omega.{arith}
use lib.Seq.{ext_get_or}
use lib.ListN.{length, get_or, replicate, length-replicate, take, drop}
use Rattle.definition.specs.Arith.{Arith}
use Rattle.definition.specs.ChunkedColumnReduce.{Block, add_up, sum_up}
use Rattle.definition.specs.MatvecCombine.{Multipliers, mixed_with, shifted, matvec_combine, gather}
use Rattle.definition.specs.Memory.{place, block_of, number_at, vector_of, wholes_of, fill_range}
use Rattle.definition.proofs.Fill.{fill_length, fill_in}
use Rattle.definition.proofs.Parts.{part_length, part_at}
use Rattle.definition.proofs.Places.{number-at}
use Rattle.definition.proofs.Rows.{starts-up}
use Rattle.definition.proofs.Sums.{sum-none, sum_more}
use Rattle.rows.specs.Pass.{operator_of, combined_at, gathered, Entries, Pass}
use Rattle.definition.proofs.Blocks.{block_at, place_after}

-- the entries of a row of the pass
pub row-entries : {E : Type 0} {n k first end : ℕ} {starts columns : List ℕ} {weights inverse v prev : List E}
    → Pass n k first end starts columns weights inverse v prev → (i : ℕ) → first ≤ i → i < end
    → Entries n k (wholes_of starts i) (wholes_of starts (i + 1)) columns weights v
row-entries {first = first} {end = end} {starts = starts} {columns = columns} h i l u = record {
  narrow = h.width.most;
  ordered = h.column_starts.rising i l u;
  columns_enough = h.column_starts.within (i + 1) (omega arith) (omega arith);
  weights_enough = h.weight_starts.within (i + 1) (omega arith) (omega arith);
  v_enough = h.v_enough;
  columns_below = record {
    below = λ p a e. h.columns_below.below p
        (omega (arith, starts-up starts first end (length columns) h.column_starts first i (omega arith) l (omega arith)))
        (omega (arith, starts-up starts first end (length columns) h.column_starts (i + 1) end (omega arith) (omega arith) (omega arith)));
  };
}

module _ (A : Arith) (n k : ℕ) (columns : List ℕ) (weights v : List A.F) where
  -- no entry, and one more
  pub gathered_none : (a c : ℕ) → gathered A columns weights (block_of A.none n k v) a a c ≡ A.zero
  unfolding gathered
  gathered_none a c = sum-none A _ a

  pub gathered-more : (a p c : ℕ) → a ≤ p
      → A.add (gathered A columns weights (block_of A.none n k v) a p c)
      (A.mul (vector_of A.none weights p) (vector_of A.none v (wholes_of columns p * k + c)))
      ≡ gathered A columns weights (block_of A.none n k v) a (p + 1) c
  unfolding gathered
  gathered-more a p c h =
      ap (λ (x : A.F). A.add (gathered A columns weights (block_of A.none n k v) a p c) (A.mul (vector_of A.none weights p) x))
      (sym (block_at A.none n k v (wholes_of columns p) c))
      ∙ sym (sum_more A _ a p h)

-- a list as long as xs is xs filled with its numbers
pub copied : {E : Type 0} (d : E) (xs ys : List E) → length ys ≡ length xs → ys ≡ fill_range 0 (length xs) (λ i. get_or ys i d) xs
copied d xs ys h =
    ext_get_or d ys (fill_range 0 (length xs) (λ i. get_or ys i d) xs) (h ∙ sym (fill_length 0 (length xs) (λ i. get_or ys i d) xs))
    (λ i p. sym (fill_in 0 (length xs) (λ j. get_or ys j d) xs i d (omega arith) (omega arith) (omega arith)))

-- ---- a row's entries as parts of the lists, from a up to e
module _ {E : Type 0} {n k a e : ℕ} {columns own : List ℕ} {weights own_weights v : List E} (h : Entries n k a e columns weights v)
    (c : own ≡ take (e - a) (drop a columns)) (w : own_weights ≡ take (e - a) (drop a weights)) where
  own-length : length own ≡ e - a
  own-length = ap length c ∙ part_length a e columns h.columns_enough

  pub own-entries : Entries n k 0 (length own) own own_weights v
  own-entries = record {
    narrow = h.narrow;
    ordered = omega arith;
    columns_enough = omega arith;
    weights_enough = omega (arith, own-length, ap length w, part_length a e weights h.weights_enough);
    v_enough = h.v_enough;
    columns_below = record {
      below = λ p _ u. omega (
        arith,
        ap (λ (l : List ℕ). get_or l p 0) c,
        part_at a e columns p 0 (omega (arith, own-length)),
        h.columns_below.below (a + p) (omega arith) (omega (arith, own-length)),
      );
    };
  }

module _ (A : Arith) where
  -- a sum does not hang on where its places begin
  add_shift : (z : A.F) (f g : ℕ → A.F) (a m : ℕ) → ((p : ℕ) → p < m → f p ≡ g (a + p)) → add_up A z f 0 m ≡ add_up A z g a m
  unfolding add_up
  add_shift z f g a zero q = refl
  add_shift z f g a (suc m) q =
      let here : 0 + m ≡ m = omega arith in
      ap (λ (x : A.F). A.add x (f (0 + m))) (add_shift z f g a m (λ p u. q p (omega arith)))
      ∙ ap (A.add (add_up A z g a m)) (ap f here ∙ q m (omega arith))

  -- what a row's own entries gather
  pub own-gathered : {n k a e : ℕ} {columns own : List ℕ} {weights own_weights v : List A.F} (b : Block A) → Entries n k a e columns weights v
      → own ≡ take (e - a) (drop a columns) → own_weights ≡ take (e - a) (drop a weights) → (x : ℕ)
      → gathered A own own_weights b 0 (length own) x ≡ gathered A columns weights b a e x
  unfolding gathered sum_up
  own-gathered {a = a} {e = e} {columns = columns} {own = own} {weights = weights} {own_weights = own_weights} b h c w x =
      let l : length own - 0 ≡ e - a = omega (arith, own-length h c w) in
      let f : ℕ → A.F = λ p. A.mul (vector_of A.none own_weights p) (b (wholes_of own p) x) in
      let g : ℕ → A.F = λ p. A.mul (vector_of A.none weights p) (b (wholes_of columns p) x) in
      ap (add_up A A.zero f 0) l
      ∙ add_shift A.zero f g a (e - a)
      (λ p u. rw (
        ap (λ (y : List A.F). get_or y p A.none) w ∙ part_at a e weights p A.none (omega arith),
        ap (λ (y : List ℕ). get_or y p 0) c ∙ part_at a e columns p 0 (omega arith),
      ) refl)

module _ (A : Arith) where
  -- the first k of a row of 15
  row-at : (k : ℕ) (f : ℕ → A.F) {row : List A.F} → k ≤ 15 → row ≡ fill_range 0 k f (replicate 15 A.zero) → (c : ℕ) → c < k → get_or row c A.none ≡ f c
  row-at k f h e c q =
      ap (λ (l : List A.F). get_or l c A.none) e
      ∙ fill_in 0 k f (replicate 15 A.zero) c A.none (omega arith) q (omega (arith, length-replicate 15 A.zero))

  -- row first + r of the pass, at its places from r * k on in a part that begins at row `first`
  pub row_combined : (n k : ℕ) (starts columns : List ℕ) (weights inverse : List A.F) (by : Multipliers A) (v prev : List A.F)
      (first r : ℕ) {acc row : List A.F} → k ≤ 15
      → acc ≡ fill_range 0 k (gathered A columns weights (block_of A.none n k v) (wholes_of starts (first + r)) (wholes_of starts (first + r + 1)))
      (replicate 15 A.zero)
      → row ≡ fill_range 0 k
      (λ c. mixed_with A by
      (shifted A (vector_of A.none inverse (first + r)) (vector_of A.none v ((first + r) * k + c)) (vector_of A.none acc c))
      (vector_of A.none v ((first + r) * k + c)) (vector_of A.none prev ((first + r) * k + c)))
      (replicate 15 A.zero)
      → (p : ℕ) → r * k ≤ p → p < r * k + k
      → get_or row (p - r * k) A.none ≡ combined_at A n k (operator_of A starts columns weights inverse) by v prev (place n k first 0 + p)
  unfolding matvec_combine gather gathered
  row_combined n k starts columns weights inverse by v prev first r {acc} {row} h ea er p l u =
      let c = p - r * k in
      let i = first + r in
      let q : c < k = omega arith in
      let e : p ≡ r * k + c = omega arith in
      let pass = matvec_combine A (operator_of A starts columns weights inverse) by (block_of A.none n k v) (block_of A.none n k prev) in
      let there : number_at n k pass (place n k first 0 + p) ≡ pass i c =
      ap (λ (x : ℕ). number_at n k pass (place n k first 0 + x)) e
      ∙ ap (number_at n k pass) (place_after n k first r c) ∙ number-at n k pass i c q in
      rw (row-at k _ h er c q, row-at k _ h ea c q, there)
      (rw (← block_at A.none n k v i c, ← block_at A.none n k prev i c))
