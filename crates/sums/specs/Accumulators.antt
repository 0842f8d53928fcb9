-- The accumulators of a reduction, and the partial that they become. f q i is what row i adds at place q. Definitions only.
use Rattle.std.specs.Prelude.{List, ℕ, ◌+◌, ◌-◌, get_or, replicate}
use Rattle.definition.specs.Arith.{Arith}
use Rattle.definition.specs.ChunkedColumnReduce.{Block, sum_up}
use Rattle.definition.specs.Memory.{row_at, column_at, fill_range}

-- the largest width: 15 by 15 products
abbrev pub accumulators : ℕ
accumulators = 225

module _ (A : Arith) where
  -- a row is added: the places from a up to e each get f of the place
  unfoldable pub raised : ℕ → ℕ → (ℕ → A.F) → List A.F → List A.F
  raised a e f acc = fill_range a e (λ q. A.add (get_or acc q A.none) (f q)) acc

  -- the places below the width hold the sums over the rows from `first` up to `end`; the rest is +0
  unfoldable pub summed : ℕ → (ℕ → ℕ → A.F) → ℕ → ℕ → List A.F
  summed width f first end = fill_range 0 width (λ q. sum_up A (f q) first end) (replicate accumulators A.zero)

  -- the list of partials with those sums from `base` on
  abbrev pub with_partial : ℕ → ℕ → (ℕ → ℕ → A.F) → ℕ → ℕ → List A.F → List A.F
  with_partial base width f first end partials = fill_range base (base + width) (λ p. sum_up A (f (p - base)) first end) partials

  -- the products' term: a column of v, by the place's row among k by k, times a column of w, by its column
  abbrev pub product_term : ℕ → Block A → Block A → ℕ → ℕ → A.F
  product_term k v w q i = A.mul (v i (row_at k k q)) (w i (column_at k k q))
