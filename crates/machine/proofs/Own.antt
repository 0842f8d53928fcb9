-- Laws of whose place it is: a row-major part is the set of places whose row is the chunk's; no place has two owners; each has one. Assumes nothing.
use mathlib.Core.Path.{◌≡◌, refl, sym, ap, ◌∙◌}
use mathlib.Core.Bool.{Bool, true, false, ◌&&◌, false≢true}
use mathlib.Core.List.{List}
use Prim.Native.Nat.{ℕ, ◌+◌, ◌*◌, ◌/◌, ◌≤◌, ◌<◌}
use native.Mathlib.Nat.{mul-le-mul_right, div-lt_iff_lt-mul}
use native.Mathlib.Omega.{arith}
use borrow.Author.Tests.{leb-true, ltb-true, le-leb, lt-ltb, ltb-false}
use lib.Dec.{leb, ltb}
use Rattle.definition.specs.Memory.{place, row_at, fill_range}
use Rattle.definition.specs.Numbers.{first_row, chunks, chunk_rows}
use Rattle.definition.proofs.Blocks.{place-first}
use Rattle.definition.proofs.Chunks.{first-most, first-up, chunk-once, chunk_of, chunk-from, chunk_to}
use Rattle.definition.proofs.Fill.{split}
use Rattle.held.specs.Places.{fill_where}
use Rattle.held.proofs.Places.{range_where, where_test}
use Rattle.machine.specs.Work.{own_row, own_entry, own_place, own_partial}

-- ---- tests
pub both : (a b : Bool) → a ≡ true → b ≡ true → (a && b) ≡ true
both true b p q = q
both false b p q = absurd (false≢true p)

pub both_of : (a b : Bool) → (a && b) ≡ true → (a ≡ true) × (b ≡ true)
both_of true b h = (refl, h)
both_of false b h = absurd (false≢true h)

pub same_test : (a b : Bool) → (a ≡ true → b ≡ true) → (b ≡ true → a ≡ true) → a ≡ b
same_test true b p q = sym (p refl)
same_test false true p q = absurd (false≢true (q refl))
same_test false false p q = refl

-- x is from a up to e
pub within-true : (a e x : ℕ) → a ≤ x → x < e → (leb a x && ltb x e) ≡ true
within-true a e x p q = both (leb a x) (ltb x e) (le-leb a x p) (lt-ltb x e q)

pub true-within : (a e x : ℕ) → (leb a x && ltb x e) ≡ true → (a ≤ x) × (x < e)
true-within a e x h = let g = both_of (leb a x) (ltb x e) h in (leb-true a x g.0, ltb-true x e g.1)

-- ---- rows
pub own-row : (n h i : ℕ) → first_row n h ≤ i → i < first_row n (h + 1) → own_row n h i ≡ true
own-row n h i p q = within-true (first_row n h) (first_row n (h + 1)) i p q

pub row-owned : (n h i : ℕ) → own_row n h i ≡ true → (first_row n h ≤ i) × (i < first_row n (h + 1))
row-owned n h i t = true-within (first_row n h) (first_row n (h + 1)) i t

pub own-row-once : (n h k i : ℕ) → own_row n h i ≡ true → own_row n k i ≡ true → h ≡ k
own-row-once n h k i p q =
    let a = row-owned n h i p in
    let b = row-owned n k i q in
    chunk-once n h i a.0 a.1 ∙ sym (chunk-once n k i b.0 b.1)

-- each row below n is the row of a chunk below C
pub row_owner : (n i : ℕ) → i < n → own_row n (i / chunk_rows) i ≡ true
row_owner n i p = own-row n (i / chunk_rows) i (chunk-from n i p) (chunk_to n i p)

-- ---- places of a block
pub own-place : (n k h p : ℕ) → p < n * k → own_row n h (row_at n k p) ≡ true → own_place n k h p ≡ true
own-place n k h p a b = both (ltb p (n * k)) (own_row n h (row_at n k p)) (lt-ltb p (n * k) a) b

pub place-owned : (n k h p : ℕ) → own_place n k h p ≡ true → (p < n * k) × (own_row n h (row_at n k p) ≡ true)
place-owned n k h p t = let g = both_of (ltb p (n * k)) (own_row n h (row_at n k p)) t in (ltb-true p (n * k) g.0, g.1)

pub own-place-once : (n k h j p : ℕ) → own_place n k h p ≡ true → own_place n k j p ≡ true → h ≡ j
own-place-once n k h j p a b = own-row-once n h j (row_at n k p) (place-owned n k h p a).1 (place-owned n k j p b).1

-- the law that moves with the layout: the part of a block from the chunk's first row up to its end is the set of places whose row is the chunk's
same-places : (n k h p : ℕ) → 0 < k → (leb (first_row n h * k) p && ltb p (first_row n (h + 1) * k)) ≡ own_place n k h p
unfolding row_at
same-places n k h p q =
    same_test (leb (first_row n h * k) p && ltb p (first_row n (h + 1) * k)) (own_place n k h p)
    (λ t. let g = true-within (first_row n h * k) (first_row n (h + 1) * k) p t in
    own-place n k h p (omega (arith, g.1, mul-le-mul_right {m = first_row n (h + 1)} {n = n} k (first-most n (h + 1))))
    (own-row n h (p / k) (lower g.0) ((div-lt_iff_lt-mul q).1 g.1)))
    (λ t. let g = place-owned n k h p t in
    let r = row-owned n h (p / k) g.1 in
    within-true (first_row n h * k) (first_row n (h + 1) * k) p (raise r.0) ((div-lt_iff_lt-mul q).0 r.1))
  where
    lower : first_row n h * k ≤ p → first_row n h ≤ p / k
    lower l = split (p / k) (first_row n h) (λ s. absurd (omega (arith, (div-lt_iff_lt-mul q).0 s))) (λ s. s)

    raise : first_row n h ≤ p / k → first_row n h * k ≤ p
    raise l = split p (first_row n h * k) (λ s. absurd (omega (arith, (div-lt_iff_lt-mul q).1 s))) (λ s. s)

pub rows_where : {E : Type 0} (n k h : ℕ) (f : ℕ → E) (xs : List E) → 0 < k
    → fill_range (place n k (first_row n h) 0) (place n k (first_row n (h + 1)) 0) f xs ≡ fill_where (own_place n k h) f xs
rows_where n k h f xs q =
    rw (place-first n k (first_row n h), place-first n k (first_row n (h + 1)))
    (range_where (first_row n h * k) (first_row n (h + 1) * k) f xs
    ∙ where_test (λ i. leb (first_row n h * k) i && ltb i (first_row n (h + 1) * k)) (own_place n k h) f xs (λ i l. same-places n k h i q))
