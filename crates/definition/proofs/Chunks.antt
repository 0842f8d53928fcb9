-- Laws of chunks: they cover the rows, do not meet, and none is empty. Assumes nothing.
use mathlib.Core.Path.{◌≡◌}
use Prim.Native.Nat.{ℕ, zero, suc, ◌+◌, ◌-◌, ◌*◌, ◌/◌, ◌≤◌, ◌<◌, min}
use native.Mathlib.Omega.{arith}
use Rattle.definition.specs.Numbers.{chunks, chunk_rows, first_row}

pub first-zero : (n : ℕ) → first_row n 0 ≡ 0
unfolding first_row
first-zero n = omega arith

pub first-most : (n h : ℕ) → first_row n h ≤ n
unfolding first_row
first-most n h = omega arith

-- the bounds rise
pub first-up : (n h j : ℕ) → h ≤ j → first_row n h ≤ first_row n j
unfolding first_row
first-up n h j p = omega arith

-- the last chunk ends with the last row
pub first-last : (n : ℕ) → first_row n (chunks n) ≡ n
unfolding first_row chunks
first-last n = omega arith

-- a chunk below C begins at a row
pub first_below : (n h : ℕ) → h < chunks n → first_row n h < n
unfolding first_row chunks
first_below n h p = omega arith

pub first-is : (n h : ℕ) → h < chunks n → first_row n h ≡ h * chunk_rows
unfolding first_row chunks
first-is n h p = omega arith

-- no chunk is empty, and none has more than 4,096 rows
pub chunk-some : (n h : ℕ) → h < chunks n → first_row n h < first_row n (h + 1)
unfolding first_row chunks
chunk-some n h p = omega arith

pub chunk-most : (n h : ℕ) → first_row n (h + 1) ≤ first_row n h + chunk_rows
unfolding first_row
chunk-most n h = omega arith

-- which chunk a row is in
pub chunk_of : (n i : ℕ) → i < n → i / chunk_rows < chunks n
unfolding chunks
chunk_of n i p = omega arith

pub chunk-from : (n i : ℕ) → i < n → first_row n (i / chunk_rows) ≤ i
unfolding first_row
chunk-from n i p = omega arith

pub chunk_to : (n i : ℕ) → i < n → i < first_row n (i / chunk_rows + 1)
unfolding first_row
chunk_to n i p = omega arith

-- and it is in no other
pub chunk-once : (n h i : ℕ) → first_row n h ≤ i → i < first_row n (h + 1) → h ≡ i / chunk_rows
unfolding first_row
chunk-once n h i p q = omega arith

pub chunks-some : (n : ℕ) → 0 < n → 0 < chunks n
unfolding chunks
chunks-some n p = omega arith
