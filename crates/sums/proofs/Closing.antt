-- Closing: a stage whose chunks are all done has document 01's sums as its totals. Said once over the term f, then of each stage. Assumes nothing.
use mathlib.Core.Path.{◌≡◌, ap, ◌∙◌}
use mathlib.Core.List.{List}
use Prim.Native.Nat.{ℕ, ◌+◌, ◌*◌, ◌<◌}
use native.Mathlib.Omega.{arith}
use lib.ListN.{get_or}
use Rattle.definition.specs.Arith.{Arith}
use Rattle.definition.specs.Numbers.{chunks, first_row}
use Rattle.definition.specs.ChunkedColumnReduce.{Vector, Block, sum_up, partial_sum, chunked_sum, square, column_norm}
use Rattle.definition.specs.OrthonormalizeBlock.{dot_term, dots}
use Rattle.definition.specs.ChebyshevRayleighRitz.{products}
use Rattle.definition.specs.SpectralEmbedding.{column_sum, square_sum}
use Rattle.definition.specs.Memory.{fill_range, number_at}
use Rattle.definition.proofs.Sums.{sum_cong}
use Rattle.definition.proofs.Fill.{fill_cong}
use Rattle.sums.specs.Accumulators.{product_term}

-- the partials of n rows; chunk h's begins at h * stride, and `stride` is k * k
module _ (A : Arith) (n stride : ℕ) (partials : List A.F) where
  -- every chunk is done: place p of its partial, below the width, holds f p summed over its rows
  abbrev pub Done : ℕ → (ℕ → Vector A) → Type 0
  Done width f =
      (h p : ℕ) → h < chunks n → p < width → get_or partials (h * stride + p) A.none ≡ sum_up A (f p) (first_row n h) (first_row n (h + 1))

  -- the total at place p, as `totals` has it
  abbrev pub total : ℕ → A.F
  total p = sum_up A (λ h. get_or partials (h * stride + p) A.none) 0 (chunks n)

  pub total_chunked : (width : ℕ) (f : ℕ → Vector A) → Done width f → (p : ℕ) → p < width → total p ≡ chunked_sum A n (f p)
  unfolding chunked_sum partial_sum
  total_chunked width f done p u = sum_cong A _ _ 0 (chunks n) (λ h l t. done h p t u)

  pub totals_chunked : (width : ℕ) (f : ℕ → Vector A) (xs : List A.F) → Done width f
      → fill_range 0 width (λ p. total p) xs ≡ fill_range 0 width (λ p. chunked_sum A n (f p)) xs
  totals_chunked width f xs done = fill_cong 0 width _ _ xs (λ p l u s. total_chunked width f done p u)

  -- ---- the stages, each with its term

  -- the norm of column c, as `total_norm` has it
  pub norm-closed : (v : Block A) (c : ℕ) → Done 1 (λ p i. square A (v i c))
      → A.root (sum_up A (λ h. get_or partials (h * stride) A.none) 0 (chunks n)) ≡ column_norm A n v c
  unfolding column_norm
  norm-closed v c done =
      ap A.root
      (sum_cong A _ _ 0 (chunks n) (λ h l u. let e : h * stride ≡ h * stride + 0 = omega arith in ap (λ (p : ℕ). get_or partials p A.none) e)
      ∙ total_chunked 1 _ done 0 (omega arith))

  pub dots-closed : (v0 : Vector A) (v : Block A) (c : ℕ) (xs : List A.F) → Done (c + 1) (dot_term A v0 v c)
      → fill_range 0 (c + 1) (λ p. total p) xs ≡ fill_range 0 (c + 1) (λ p. dots A n v0 v c p) xs
  unfolding dots
  dots-closed v0 v c xs done = totals_chunked (c + 1) _ xs done

  pub products-closed : (k : ℕ) (v w : Block A) (xs : List A.F) → Done (k * k) (product_term A k v w)
      → fill_range 0 (k * k) (λ q. total q) xs ≡ fill_range 0 (k * k) (λ q. number_at k k (products A n v w) q) xs
  unfolding products number_at
  products-closed k v w xs done = totals_chunked (k * k) _ xs done

  pub sums_closed : (d : ℕ) (u : Block A) (xs : List A.F) → Done d (λ q i. u i q)
      → fill_range 0 d (λ p. total p) xs ≡ fill_range 0 d (λ p. column_sum A n u p) xs
  unfolding column_sum
  sums_closed d u xs done = totals_chunked d _ xs done

  pub squares_closed : (d : ℕ) (u : Block A) (xs : List A.F) → Done d (λ q i. square A (u i q))
      → fill_range 0 d (λ p. total p) xs ≡ fill_range 0 d (λ p. square_sum A n u p) xs
  unfolding square_sum
  squares_closed d u xs done = totals_chunked d _ xs done
