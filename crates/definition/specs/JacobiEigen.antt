-- `jacobi_eigen`, and the symmetrizing before it. Definitions only.
use Rattle.std.specs.Prelude.{Bool, true, false, cond, ℕ, zero, suc, ◌+◌, ◌-◌, eqb, ltb}
use Rattle.definition.specs.Arith.{Arith}
use Rattle.definition.specs.ChunkedColumnReduce.{add_up, sum_up, square}

module _ (A : Arith) where
  -- by row and column
  abbrev pub Matrix : Type 0
  Matrix = ℕ → ℕ → A.F

  -- both places of a pair hold the mean, taken with the upper place first
  abbrev pub mean : A.F → A.F → A.F
  mean x y = A.div (A.add x y) A.two

  unfoldable pub symmetrized : Matrix → Matrix
  symmetrized b p q = cond (ltb p q) (mean (b p q) (b q p)) (cond (ltb q p) (mean (b q p) (b p q)) (b p q))

  -- the matrix and the vectors
  pub record Eigen : Type 0 where
    pub matrix : Matrix
    pub vectors : Matrix

  -- zeros with ones on the diagonal
  unfoldable pub identity : Matrix
  identity p q = cond (eqb p q) A.one A.zero

  -- ---- a turn of columns, or rows, p and q
  pub record Turn : Type 0 where
    pub cos : A.F
    pub sin : A.F

  unfoldable pub turn_first : Turn → A.F → A.F → A.F
  turn_first t x y = A.sub (A.mul t.cos x) (A.mul t.sin y)

  unfoldable pub turn_second : Turn → A.F → A.F → A.F
  turn_second t x y = A.add (A.mul t.sin x) (A.mul t.cos y)

  unfoldable pub turn_columns : Turn → ℕ → ℕ → Matrix → Matrix
  turn_columns t p q b r c =
      cond (eqb c p) (turn_first t (b r p) (b r q)) (cond (eqb c q) (turn_second t (b r p) (b r q)) (b r c))

  unfoldable pub turn_rows : Turn → ℕ → ℕ → Matrix → Matrix
  turn_rows t p q b r c =
      cond (eqb r p) (turn_first t (b p c) (b q c)) (cond (eqb r q) (turn_second t (b p c) (b q c)) (b r c))

  -- ---- theta, t, cos and sin of a pair
  unfoldable pub theta : A.F → A.F → A.F → A.F
  theta app aqq apq = A.div (A.sub aqq app) (A.mul A.two apq)

  unfoldable pub tangent : A.F → A.F
  tangent h =
      let r = A.root (A.add (square A h) A.one) in
      cond (A.le A.zero h) (A.div A.one (A.add h r)) (A.div A.one (A.sub h r))

  unfoldable pub turn_of : A.F → Turn
  turn_of t = let c = A.div A.one (A.root (A.add (square A t) A.one)) in record { cos = c; sin = A.mul t c }

  unfoldable pub turn_at : ℕ → ℕ → Matrix → Turn
  turn_at p q b = turn_of (tangent (theta (b p p) (b q q) (b p q)))

  -- columns turned before rows, then the vectors
  unfoldable pub turned : Turn → ℕ → ℕ → Eigen → Eigen
  turned t p q s = record {
    matrix = turn_rows t p q (turn_columns t p q s.matrix);
    vectors = turn_columns t p q s.vectors;
  }

  -- skip apq = 0
  unfoldable pub pair_step : ℕ → ℕ → Eigen → Eigen
  pair_step p q s = cond (A.eq (s.matrix p q) A.zero) s (turned (turn_at p q s.matrix) p q s)

  -- ---- a sweep: pairs p < q in row order; m more pairs from q on, m more rows from p on
  unfoldable pub pairs_from : ℕ → ℕ → ℕ → Eigen → Eigen
  pairs_from zero p q s = s
  pairs_from (suc m) p q s = pairs_from m p (suc q) (pair_step p q s)

  unfoldable pub rows_from : ℕ → ℕ → ℕ → Eigen → Eigen
  rows_from k zero p s = s
  rows_from k (suc m) p s = rows_from k m (suc p) (pairs_from (k - suc p) p (suc p) s)

  unfoldable pub sweep : ℕ → Eigen → Eigen
  sweep k s = rows_from k k 0 s

  -- ---- the stop: off <= (k x 2^-52)^2 x diag
  unfoldable pub diagonal : ℕ → Matrix → A.F
  diagonal k b = sum_up A (λ p. square A (b p p)) 0 k

  -- the squares above the diagonal in row order, in one sum
  unfoldable pub off_from : ℕ → Matrix → ℕ → ℕ → A.F → A.F
  off_from k b zero p z = z
  off_from k b (suc m) p z = off_from k b m (suc p) (add_up A z (λ q. square A (b p q)) (suc p) (k - suc p))

  unfoldable pub off_diagonal : ℕ → Matrix → A.F
  off_diagonal k b = off_from k b k 0 A.zero

  unfoldable pub noise_floor : ℕ → A.F
  noise_floor k = let e = A.mul A.epsilon (A.whole k) in A.mul e e

  unfoldable pub converged : ℕ → Matrix → Bool
  converged k b = A.le (off_diagonal k b) (A.mul (noise_floor k) (diagonal k b))

  -- at most m more sweeps
  unfoldable pub sweeps_from : ℕ → ℕ → Eigen → Eigen
  sweeps_from k zero s = s
  sweeps_from k (suc m) s = cond (converged k s.matrix) s (sweeps_from k m (sweep k s))

  abbrev pub sweeps_most : ℕ
  sweeps_most = 50

  unfoldable pub jacobi_eigen : ℕ → Matrix → Eigen
  jacobi_eigen k b = sweeps_from k sweeps_most (record { matrix = b; vectors = identity })
