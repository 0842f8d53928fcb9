-- The laws that a layout of blocks owes: a place of a block has a row and a column, and the places of a row have one owner. Assumes nothing.
use mathlib.Core.Path.{◌≡◌, refl, sym, ap, ◌∙◌, subst}
use mathlib.Core.Bool.{Bool, true}
use mathlib.Core.List.{List}
use Prim.Native.Nat.{ℕ, ◌+◌, ◌*◌, ◌/◌, ◌%◌, ◌≤◌, ◌<◌}
use native.Mathlib.Nat.{div-lt_iff_lt-mul, mod-lt}
use native.Mathlib.Omega.{arith}
use lib.ListN.{get_or}
use Rattle.definition.specs.Memory.{place, row_at, column_at, block_of}
use Rattle.definition.specs.Numbers.{first_row, chunk_rows}
use Rattle.definition.proofs.Places.{place-below, place-row}
use Rattle.machine.specs.Work.{own_row, own_place}
use Rattle.machine.proofs.Own.{own-place, place-owned, row-owned, row_owner}
use Rattle.definition.proofs.Chunks.{first-most}

module _ (n k : ℕ) (some : 0 < k) where
  pub row_of_place : (p : ℕ) → p < n * k → row_at n k p < n
  unfolding row_at
  row_of_place p l = (div-lt_iff_lt-mul some).1 l

  pub column_of_place : (p : ℕ) → column_at n k p < k
  unfolding column_at
  column_of_place p = mod-lt p some

  -- chunk h's row i: each of its places is chunk h's
  pub row-places : (h i c : ℕ) → own_row n h i ≡ true → c < k → own_place n k h (place n k i c) ≡ true
  row-places h i c o q =
      let r = row-owned n h i o in
      own-place n k h (place n k i c) (place-below n k i c (omega (arith, r.1, first-most n (h + 1))) q)
      (subst (λ (x : ℕ). own_row n h x ≡ true) (sym (place-row n k i c q)) o)

  -- what a list that agrees with another at chunk h's places has in its rows
  pub row_same : {E : Type 0} (none : E) (h : ℕ) (l l' : List E) → ((j : ℕ) → own_place n k h j ≡ true → get_or l j none ≡ get_or l' j none)
      → (i c : ℕ) → own_row n h i ≡ true → c < k → block_of none n k l i c ≡ block_of none n k l' i c
  unfolding block_of
  row_same none h l l' e i c o q = e (place n k i c) (row-places h i c o q)

  -- row i's place is its chunk's
  pub place_owner : (i c : ℕ) → i < n → c < k → own_place n k (i / chunk_rows) (place n k i c) ≡ true
  place_owner i c p q = row-places (i / chunk_rows) i c (row_owner n i p) q
