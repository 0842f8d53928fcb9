-- What the row functions ask of their callers: the same few records everywhere. Each asks it of its own rows only. Definitions only.
use Rattle.std.specs.Prelude.{List, ℕ, ◌+◌, ◌≤◌, ◌<◌, length, get_or}

-- the rows from `first` up to `end`, of n
pub record Span (first end n : ℕ) : Type 0 where
  pub ordered : first ≤ end
  pub within : end ≤ n

-- k is one of the widths
pub record Width (k : ℕ) : Type 0 where
  pub least : 9 ≤ k
  pub most : k ≤ 15

-- the starts of the rows from `first` up to `end`: each no more than the next, and all within m entries
pub record Starts (starts : List ℕ) (first end m : ℕ) : Type 0 where
  pub enough : end < length starts
  pub rising : (i : ℕ) → first ≤ i → i < end → get_or starts i 0 ≤ get_or starts (i + 1) 0
  pub within : (i : ℕ) → first ≤ i → i ≤ end → get_or starts i 0 ≤ m

-- the entries from a up to e name rows below n
pub record Columns (columns : List ℕ) (a e n : ℕ) : Type 0 where
  pub below : (p : ℕ) → a ≤ p → p < e → get_or columns p 0 < n
