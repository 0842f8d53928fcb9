-- `orthonormalize_block`: column by column, each kept with its norm, refreshed, or zeroed. Definitions only.
use Rattle.std.specs.Prelude.{Bool, true, false, cond, ℕ, zero, suc, ◌+◌, ◌*◌, eqb}
use Rattle.definition.specs.Arith.{Arith}
use Rattle.definition.specs.ChunkedColumnReduce.{Vector, Block, add_up, chunked_sum, column_norm}

-- the index of the fresh number for row i of column c, round from 0
unfoldable pub fresh_index : ℕ → ℕ → ℕ → ℕ → ℕ → ℕ
fresh_index n k round c i = (round + 1) * n * k + c * n + i

module _ (A : Arith) where
  -- v with f in column c
  abbrev pub with_column : Block A → ℕ → Vector A → Block A
  with_column v c f i d = cond (eqb d c) (f i) (v i d)

  -- dot p of column c: with column p, and at place c with v0
  abbrev pub dot_term : Vector A → Block A → ℕ → ℕ → Vector A
  dot_term v0 v c p i = A.mul (cond (eqb p c) (v0 i) (v i p)) (v i c)

  unfoldable pub dots : ℕ → Vector A → Block A → ℕ → ℕ → A.F
  dots n v0 v c p = chunked_sum A n (dot_term v0 v c p)

  -- starts with v0's share and adds columns upward
  unfoldable pub delta : (ℕ → A.F) → A.F → (ℕ → A.F) → ℕ → A.F
  delta dots v0 row c = add_up A (A.mul (dots c) v0) (λ p. A.mul (dots p) (row p)) 0 c

  unfoldable pub subtracted : (ℕ → A.F) → Vector A → Block A → ℕ → Block A
  subtracted dots v0 v c = with_column v c (λ i. A.sub (v i c) (delta dots (v0 i) (v i) c))

  unfoldable pub projected : ℕ → Vector A → ℕ → Block A → Block A
  projected n v0 c v = subtracted (dots n v0 v c) v0 v c

  unfoldable pub twice_projected : ℕ → Vector A → ℕ → Block A → Block A
  twice_projected n v0 c v = projected n v0 c (projected n v0 c v)

  -- the ends of an attempt at a column
  pub data Ending : Type 0 where
    kept : A.F → Ending
    refreshed zeroed : Ending

  -- kept if norm > before x 2^-26; otherwise once refreshed; otherwise zeroed
  unfoldable pub ending : A.F → A.F → Bool → Ending
  ending before norm already = cond (A.lt (A.mul before A.collapse) norm) (kept norm) (cond already zeroed refreshed)

  unfoldable pub attempt_ending : ℕ → Vector A → Bool → ℕ → Block A → Ending
  attempt_ending n v0 already c v = ending (column_norm A n v c) (column_norm A n (twice_projected n v0 c v) c) already

  unfoldable pub written : ℕ → ℕ → ℕ → ℕ → Ending → Block A → Block A
  written n k round c (kept norm) v = with_column v c (λ i. A.div (v i c) norm)
  written n k round c refreshed v = with_column v c (λ i. A.start (fresh_index n k round c i))
  written n k round c zeroed v = with_column v c (λ i. A.zero)

  -- the block with what has been counted over all rounds
  pub record Basis : Type 0 where
    pub block : Block A
    pub refreshed : ℕ
    pub zeroed : ℕ

  unfoldable pub raised_refreshed : Ending → ℕ → ℕ
  raised_refreshed (kept norm) m = m
  raised_refreshed refreshed m = m + 1
  raised_refreshed zeroed m = m

  unfoldable pub raised_zeroed : Ending → ℕ → ℕ
  raised_zeroed (kept norm) m = m
  raised_zeroed refreshed m = m
  raised_zeroed zeroed m = m + 1

  -- n rows, k columns, v0 and the round
  module _ (n k : ℕ) (v0 : Vector A) (round : ℕ) where
    -- the column written as it ends, and the counts raised
    unfoldable pub ended : Ending → ℕ → Basis → Basis
    ended end c s = record {
      block = written n k round c end (twice_projected n v0 c s.block);
      refreshed = raised_refreshed end s.refreshed;
      zeroed = raised_zeroed end s.zeroed;
    }

    unfoldable pub attempt : Bool → ℕ → Basis → Basis
    attempt already c s = ended (attempt_ending n v0 already c s.block) c s

    -- a refreshed column is tried again
    unfoldable pub tried_again : Ending → ℕ → Basis → Basis
    tried_again (kept norm) c s = s
    tried_again refreshed c s = attempt true c s
    tried_again zeroed c s = s

    unfoldable pub column_step : ℕ → Basis → Basis
    column_step c s = tried_again (attempt_ending n v0 false c s.block) c (attempt false c s)

    -- m columns from column c on
    unfoldable pub columns_from : ℕ → ℕ → Basis → Basis
    columns_from zero c s = s
    columns_from (suc m) c s = columns_from m (suc c) (column_step c s)

    unfoldable pub orthonormalize_block : Basis → Basis
    orthonormalize_block s = columns_from k 0 s
