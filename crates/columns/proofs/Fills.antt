-- Laws of a loop over the rows of a part: after r rows it is filled up to row r, whether a turn stores one number of the row or all. Assumes nothing.
use mathlib.Core.Path.{◌≡◌, refl, sym, ap, ◌∙◌}
use mathlib.Core.List.{List}
use mathlib.Core.Bool.{Bool, cond}
use Prim.Native.Nat.{ℕ, ◌+◌, ◌-◌, ◌*◌, ◌≤◌, ◌<◌}
use native.Mathlib.Nat.{zero-mul}
use native.Mathlib.Omega.{arith}
use borrow.Author.Tests.{eq-eqb, ne_eqb}
use lib.Seq.{get_or-set_other}
use lib.ListN.{length, get_or, set, length-set}
use Rattle.definition.specs.Arith.{Arith}
use Rattle.definition.specs.ChunkedColumnReduce.{Vector, Block}
use Rattle.definition.specs.OrthonormalizeBlock.{with_column}
use Rattle.definition.specs.Memory.{place, block_of, number_at, fill_range}
use Rattle.definition.proofs.Fill.{fill_empty, fill_same, fill_step, fill_next, fill_ahead, fill_to}
use Rattle.definition.proofs.Places.{row_next, row_end, number-at}

-- a store that fills on from b to e, where the list has the values of all other places already
pub fill_one : {E : Type 0} (a b e i : ℕ) (d : E) (g : ℕ → E) (xs : List E) {l : List E} {v : E} → a ≤ b → b ≤ i → i < e
    → ((j : ℕ) → b ≤ j → j < e → (j ≡ i → ⊥) → get_or xs j d ≡ g j) → l ≡ fill_range a b g xs → v ≡ g i → set l i v ≡ fill_range a e g xs
fill_one {E} a b e i d g xs {l} {v} p q r h eq s =
    let below : l ≡ fill_range a i g xs =
    fill_next a b i g g xs p q eq (fill_same b i g l d (λ j t u w. fill_ahead a b g xs j d eq t ∙ h j t (omega arith) (λ x. omega arith))) (λ j t u. refl) in
    fill_next a (i + 1) e g g xs (omega arith) (omega arith) (fill_step a i g xs (omega arith) below s)
    (fill_same (i + 1) e g (set l i v) d
    (λ j t u w. get_or-set_other l i j v d (λ x. omega arith) ∙ fill_ahead a b g xs j d eq (omega arith) ∙ h j (omega arith) u (λ x. omega arith)))
    (λ j t u. refl)

-- a number of row r
pub row_number : {E : Type 0} (rows k : ℕ) (v : ℕ → ℕ → E) (r d : ℕ) → d < k → number_at rows k v (r * k + d) ≡ v r d
unfolding place
row_number rows k v r d q = number-at rows k v r d q

module _ {E : Type 0} (rows k : ℕ) (v : ℕ → ℕ → E) (xs : List E) where
  -- the list l that a loop over the rows of xs has after r of them: those rows keep the block v
  pub record Turn (r : ℕ) (l : List E) : Type 0 where
    pub upto : r ≤ rows
    pub size : length l ≡ length xs
    pub filled : l ≡ fill_range 0 (place rows k r 0) (number_at rows k v) xs

  pub turn_none : Turn 0 xs
  unfolding place
  turn_none = record {
    upto = omega arith;
    size = refl;
    filled = sym (fill_empty 0 (0 * k + 0) (number_at rows k v) xs (omega (arith, zero-mul k)));
  }

  pub turn_end : {r : ℕ} {l : List E} → Turn r l → rows ≤ r → l ≡ fill_range 0 (place rows k rows 0) (number_at rows k v) xs
  turn_end {r} t h = let e : r ≡ rows = omega arith in fill_to 0 (number_at rows k v) xs t.filled (ap (λ (i : ℕ). place rows k i 0) e)

  -- the next row lies within the list
  pub turn_room : {r : ℕ} {l : List E} → Turn r l → rows * k ≤ length xs → r < rows → r * k + k ≤ length l
  turn_room {r} t h p = omega (arith, row_end r k rows p)

  -- a number of a row that is still to come
  pub turn_ahead : {r : ℕ} {l : List E} (none : E) (d : ℕ) → Turn r l → get_or l (r * k + d) none ≡ block_of none rows k xs r d
  unfolding place block_of
  turn_ahead {r} none d t = fill_ahead 0 (r * k + 0) (number_at rows k v) xs (r * k + d) none t.filled (omega arith)

  -- one row more, filled in one call
  pub turn_row : {r : ℕ} {l m : List E} (g : ℕ → E) → Turn r l → r < rows → length m ≡ length l → m ≡ fill_range (r * k) (r * k + k) g l
      → ((d : ℕ) → d < k → g (r * k + d) ≡ v r d) → Turn (r + 1) m
  unfolding place
  turn_row {r} g t p q s h = record {
    upto = omega arith;
    size = q ∙ t.size;
    filled =
        fill_to 0 (number_at rows k v) xs
        (fill_next 0 (r * k) (r * k + k) g (number_at rows k v) xs (omega arith) (omega arith) (fill_to 0 (number_at rows k v) xs t.filled (omega arith)) s
        (λ i u w.
        let e : r * k + (i - r * k) ≡ i = omega arith in
        (rw e at (h (i - r * k) (omega arith) ∙ sym (row_number rows k v r (i - r * k) (omega arith))))))
        (omega (arith, row_next r k));
  }

-- one row more, of which each number x of column d became op x (w d)
module _ {E : Type 0} (none : E) (op : E → E → E) (w : ℕ → E) (rows k : ℕ) (xs : List E) where
  pub turn_each : {r : ℕ} {l m : List E} → Turn rows k (λ i d. op (block_of none rows k xs i d) (w d)) xs r l → r < rows → length m ≡ length l
      → m ≡ fill_range (r * k) (r * k + k) (λ p. op (get_or l p none) (w (p - r * k))) l
      → Turn rows k (λ i d. op (block_of none rows k xs i d) (w d)) xs (r + 1) m
  turn_each {r} {l} t p q s =
      turn_row rows k (λ i d. op (block_of none rows k xs i d) (w d)) xs (λ i. op (get_or l i none) (w (i - r * k))) t p q s
      (λ d h.
      let e : r * k + d - r * k ≡ d = omega arith in
      ap (λ (x : E). op x (w (r * k + d - r * k))) (turn_ahead rows k (λ i j. op (block_of none rows k xs i j) (w j)) xs none d t)
      ∙ ap (λ (j : ℕ). op (block_of none rows k xs r d) (w j)) e)

-- one row more, of which column c was stored and no other number: what the ends of a write and the subtraction share
module _ (A : Arith) (rows k c : ℕ) (f : Vector A) (xs : List A.F) where
  abbrev column : Block A
  column = with_column A (block_of A.none rows k xs) c f

  others : (r d : ℕ) → d < k → (r * k + d ≡ r * k + c → ⊥) → get_or xs (r * k + d) A.none ≡ number_at rows k column (r * k + d)
  unfolding place block_of
  others r d q n =
      sym (row_number rows k column r d q ∙ ap (λ (b : Bool). cond b (f r) (get_or xs (r * k + d) A.none)) (ne_eqb d c (λ e. n (ap (λ (x : ℕ). r * k + x) e))))

  pub turn_column : {r : ℕ} {l : List A.F} {x : A.F} → c < k → Turn rows k column xs r l → r < rows → x ≡ f r
      → Turn rows k column xs (r + 1) (set l (r * k + c) x)
  unfolding place
  turn_column {r} {l} {x} q t p e = record {
    upto = omega arith;
    size = length-set l (r * k + c) x ∙ t.size;
    filled =
        fill_to 0 (number_at rows k column) xs
        (fill_one 0 (r * k) (r * k + k) (r * k + c) A.none (number_at rows k column) xs (omega arith) (omega arith) (omega arith)
        (λ j s u n.
        let w : r * k + (j - r * k) ≡ j = omega arith in
        (rw w at (others r (j - r * k) (omega arith) (λ y. n (sym w ∙ y)))))
        (fill_to 0 (number_at rows k column) xs t.filled (omega arith))
        (e ∙ sym (row_number rows k column r c q ∙ ap (λ (b : Bool). cond b (f r) (block_of A.none rows k xs r c)) (eq-eqb c c refl))))
        (omega (arith, row_next r k));
  }

-- a loop over the d places from `at` on, one store a turn: the list l that it has after j of them
module _ {E : Type 0} (at d : ℕ) (g : ℕ → E) (xs : List E) where
  pub record Cells (j : ℕ) (l : List E) : Type 0 where
    pub upto : j ≤ d
    pub size : length l ≡ length xs
    pub filled : l ≡ fill_range at (at + j) g xs

  pub cells_none : Cells 0 xs
  cells_none = record { upto = omega arith; size = refl; filled = sym (fill_empty at (at + 0) g xs (omega arith)) }

  pub cells_more : {j : ℕ} {l : List E} {x : E} → Cells j l → j < d → x ≡ g (at + j) → Cells (j + 1) (set l (at + j) x)
  cells_more {j} {l} {x} t p e = record {
    upto = omega arith;
    size = length-set l (at + j) x ∙ t.size;
    filled = fill_to at g xs (fill_step at (at + j) g xs (omega arith) t.filled e) (omega arith);
  }

  pub cells_ahead : {j : ℕ} {l : List E} (none : E) → Cells j l → get_or l (at + j) none ≡ get_or xs (at + j) none
  cells_ahead {j} none t = fill_ahead at (at + j) g xs (at + j) none t.filled (omega arith)

  pub cells_end : {j : ℕ} {l : List E} {e : ℕ} → Cells j l → d ≤ j → at + d ≡ e → l ≡ fill_range at e g xs
  cells_end t h q = fill_to at g xs t.filled (omega arith)
