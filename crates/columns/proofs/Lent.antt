-- Laws of a chunk's rows lent as a part of the block that begins at the first of them: the part keeps those rows, and put back it fills them. Assumes nothing.
use mathlib.Core.Path.{◌≡◌, ap, ◌∙◌}
use mathlib.Core.List.{List, ◌++◌}
use Prim.Native.Nat.{ℕ, ◌+◌, ◌-◌, ◌*◌, ◌≤◌, ◌<◌}
use mathlib.Core.Bool.{cond}
use native.Mathlib.Omega.{arith}
use lib.Dec.{eqb}
use lib.Ieee.{Float}
use lib.ListN.{length, get_or, take, drop}
use Rattle.definition.specs.Arith.{Arith}
use Rattle.definition.specs.ChunkedColumnReduce.{Vector}
use Rattle.definition.specs.OrthonormalizeBlock.{with_column, delta, subtracted}
use Rattle.definition.specs.Memory.{place, block_of, number_at, fill_range}
use Rattle.definition.specs.Requirements.{Span}
use Rattle.columns.specs.Rows.{Part, Within, shifted}
use Rattle.columns.proofs.Locals.{left_cong}
use Rattle.definition.proofs.Parts.{part_length, part_at}
use Rattle.definition.proofs.Blocks.{rows-length, part-number, block_back}

-- a part of m places from a on: its length and its numbers
pub cut_length : {E : Type 0} (a m : ℕ) (xs : List E) → a + m ≤ length xs → length (take (a + m - a) (drop a xs)) ≡ m
cut_length a m xs h = part_length a (a + m) xs h ∙ omega arith

pub cut_number : {E : Type 0} (a m : ℕ) (xs : List E) (none : E) (p : ℕ) → p < m → get_or (take (a + m - a) (drop a xs)) p none ≡ get_or xs (a + p) none
cut_number a m xs none p h = part_at a (a + m) xs p none (omega arith)

module _ (n k first end : ℕ) (span : Span first end n) where
  module _ {E : Type 0} (xs : List E) where
    -- the chunk's rows, as they are lent
    abbrev pub part : List E
    part = take (end * k - first * k) (drop (first * k) xs)

    -- the block with ys in the part's place; the part, as ys, keeps the block u; and the block, as zs, has the chunk's rows of w
    abbrev pub back : List E → List E
    back ys = take (first * k) xs ++ (ys ++ drop (end * k - first * k) (drop (first * k) xs))

    abbrev pub KeepsPart : (ℕ → ℕ → E) → List E → Type 0
    KeepsPart u ys = ys ≡ fill_range 0 (place (end - first) k (end - first) 0) (number_at (end - first) k u) part

    abbrev pub HasRows : (ℕ → ℕ → E) → List E → Type 0
    HasRows w zs = zs ≡ fill_range (place n k first 0) (place n k end 0) (number_at n k w) xs

    -- a part of which each number x of column d became op x (w d), where w is z
    pub each_back : (none : E) (op : E → E → E) (w z : ℕ → E) {ys : List E} → 0 < k → n * k ≤ length xs → ((d : ℕ) → d < k → w d ≡ z d)
        → KeepsPart (λ r d. op (block_of none (end - first) k part r d) (w d)) ys → HasRows (λ i d. op (block_of none n k xs i d) (z d)) (back ys)
    each_back none op w z q h same =
        block_back n k first end xs span h (λ r d. op (block_of none (end - first) k part r d) (w d)) (λ i d. op (block_of none n k xs i d) (z d)) q
        (λ r d s t. ap (λ (x : E). op x (w d)) (part-number n k first end xs span h none r d s t) ∙ ap (op (block_of none n k xs (first + r) d)) (same d t))

  -- a part of which one column was filled
  module _ (A : Arith) (c : ℕ) (xs : List A.F) where
    pub column_back : (f g : Vector A) {ys : List A.F} → 0 < k → n * k ≤ length xs → ((r : ℕ) → r < end - first → f r ≡ g (first + r))
        → KeepsPart xs (with_column A (block_of A.none (end - first) k (part xs)) c f) ys
        → HasRows xs (with_column A (block_of A.none n k xs) c g) (back xs ys)
    column_back f g q h same =
        block_back n k first end xs span h (with_column A (block_of A.none (end - first) k (part xs)) c f) (with_column A (block_of A.none n k xs) c g) q
        (λ r d s t. ap (λ (x : A.F). cond (eqb d c) x (block_of A.none (end - first) k (part xs) r d)) (same r s)
        ∙ ap (cond (eqb d c) (g (first + r))) (part-number n k first end xs span h A.none r d s t))

    pub subtracted_back : (dots : ℕ → A.F) (v0 : Vector A) {ys : List A.F} → c < k → n * k ≤ length xs
        → KeepsPart xs (subtracted A dots (shifted first v0) (block_of A.none (end - first) k (part xs)) c) ys
        → HasRows xs (subtracted A dots v0 (block_of A.none n k xs) c) (back xs ys)
    unfolding subtracted
    subtracted_back dots v0 q h =
        column_back (λ r. A.sub (block_of A.none (end - first) k (part xs) r c) (delta A dots (v0 (first + r)) (block_of A.none (end - first) k (part xs) r) c))
        (λ i. A.sub (block_of A.none n k xs i c) (delta A dots (v0 i) (block_of A.none n k xs i) c)) (omega arith) h
        (λ r s. left_cong A dots (v0 (first + r)) (block_of A.none (end - first) k (part xs) r) (block_of A.none n k xs (first + r)) c
        (λ p t. part-number n k first end xs span h A.none r p s (omega arith)))

-- what a chunk function asks gives what the row function asks
pub lent-part : {n k c first end : ℕ} {block : List Float} → (h : Within n k c first end block) → Part k c (end - first) (part n k first end h.span block)
lent-part {n} {k} {c} {first} {end} {block} h = record {
  column = h.column;
  width = h.width;
  enough = omega (arith, rows-length n k first end block h.span h.enough);
}
