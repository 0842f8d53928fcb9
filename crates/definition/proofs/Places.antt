-- Laws of places in a block: a place below its size, the row and the column of a place. Assumes nothing.
use mathlib.Core.Path.{◌≡◌, refl, ap, ◌∙◌}
use Prim.Native.Nat.{ℕ, zero, suc, ◌+◌, ◌-◌, ◌*◌, ◌/◌, ◌%◌, ◌≤◌, ◌<◌}
use native.Mathlib.Nat.{suc-mul, one-mul, mul-le-mul_right, mul-add-div_right, mul-add-mod_self_right, div-eq_of_lt, mod-eq_of_lt}
use native.Mathlib.Numerals.{add-one}
use native.Mathlib.Omega.{arith}
use lib.ListN.{get_or}
use Rattle.definition.specs.Memory.{place, row_at, column_at, block_of, number_at}

-- ---- numbers of the form i * k + d

-- a row's last place ends where the next row begins
pub row_next : (i k : ℕ) → (i + 1) * k ≡ i * k + k
row_next i k = rw (add-one, suc-mul)

-- the one lemma on the place of a row's number
pub row_below : (i k d n : ℕ) → i < n → d < k → i * k + d < n * k
row_below i k d n p q = omega (arith, mul-le-mul_right {m = suc i} {n = n} k p, suc-mul i k)

-- a row below n ends within n rows
pub row_end : (i k n : ℕ) → i < n → i * k + k ≤ n * k
row_end i k n p = omega (arith, mul-le-mul_right {m = suc i} {n = n} k p, suc-mul i k)

pub row_of : (i k d : ℕ) → d < k → (i * k + d) / k ≡ i
row_of i k d q = mul-add-div_right (omega arith) i d ∙ ap (λ (x : ℕ). i + x) (div-eq_of_lt q) ∙ (omega arith)

pub column_of : (i k d : ℕ) → d < k → (i * k + d) % k ≡ d
column_of i k d q = mul-add-mod_self_right i k d ∙ mod-eq_of_lt q

-- ---- a width and its square: the largest matrix is 15 by 15

pub square-least : (k : ℕ) → 1 ≤ k → k ≤ k * k
square-least k p = omega (arith, mul-le-mul_right {m = 1} {n = k} k p, one-mul k)

pub square-most : (k : ℕ) → k ≤ 15 → k * k ≤ 225
square-most k p = omega (arith, mul-le-mul_right {m = k} {n = 15} k p)

-- ---- the block's own places

pub place-below : (n k i c : ℕ) → i < n → c < k → place n k i c < n * k
unfolding place
place-below n k i c p q = row_below i k c n p q

pub place-row : (n k i c : ℕ) → c < k → row_at n k (place n k i c) ≡ i
unfolding place row_at
place-row n k i c q = row_of i k c q

pub place-column : (n k i c : ℕ) → c < k → column_at n k (place n k i c) ≡ c
unfolding place column_at
place-column n k i c q = column_of i k c q

-- what a list that keeps the block v has at the place of row i, column c
pub number-at : {E : Type 0} (n k : ℕ) (v : ℕ → ℕ → E) (i c : ℕ) → c < k → number_at n k v (place n k i c) ≡ v i c
unfolding number_at
number-at n k v i c q = ap (λ (r : ℕ). v r (column_at n k (place n k i c))) (place-row n k i c q) ∙ ap (v i) (place-column n k i c q)
