-- The matrices of 225 numbers that the functions take and hand back, as the definition's functions of row and column. Definitions only.
use Rattle.std.specs.Prelude.{cond, ◌≡◌, List, ℕ, ◌*◌, ◌<◌, min, eqb, length, replicate, Float}
use Rattle.definition.specs.Arith.{Arith, ieee64}
use Rattle.definition.specs.Memory.{block_of, number_at, fill_range}
use Rattle.definition.specs.JacobiEigen as jacobi
use Rattle.definition.specs.JacobiEigen.{Matrix, symmetrized, jacobi_eigen}
use Rattle.ritz.specs.declared.Eigen.{Eigen}

-- p and q are places of a pair, p first
pub record Pair (p q k : ℕ) : Type 0 where
  pub ordered : p < q
  pub within : q < k

-- the k by k matrix that a list keeps
abbrev pub matrix_of : ℕ → List Float → Matrix ieee64
matrix_of k l = block_of ieee64.none k k l

-- the list with the matrix b in its first k * k places
abbrev pub holding : ℕ → Matrix ieee64 → List Float → List Float
holding k b l = fill_range 0 (k * k) (number_at k k b) l

abbrev pub turn_in : Float → Float → jacobi.Turn ieee64
turn_in cos sin = record { cos = cos; sin = sin }

-- the same of a matrix and its vectors
abbrev pub eigen_in : ℕ → Eigen → jacobi.Eigen ieee64
eigen_in k s = record { matrix = matrix_of k s.matrix; vectors = matrix_of k s.vectors }

-- both, where they are lent as two lists
abbrev pub eigen_of : List Float → List Float → Eigen
eigen_of m v = record { matrix = m; vectors = v }

-- both have their 225 numbers, as every value of the type does
pub record Sized (s : Eigen) : Type 0 where
  pub matrix : length s.matrix ≡ 225
  pub vectors : length s.vectors ≡ 225

abbrev pub holding_both : ℕ → jacobi.Eigen ieee64 → Eigen → Eigen
holding_both k e s = record { matrix = holding k e.matrix s.matrix; vectors = holding k e.vectors s.vectors }

-- what `jacobi_eigen` hands back: the vectors begin as 225 zeros
abbrev pub jacobi_held : ℕ → List Float → Eigen
jacobi_held k m = holding_both k (jacobi_eigen ieee64 k (matrix_of k m)) (record { matrix = m; vectors = replicate 225 ieee64.zero })

-- the pairs whose lower index is p, as symmetrized; the others as they are
unfoldable pub means_of : (A : Arith) → ℕ → Matrix A → Matrix A
means_of A p b i c = cond (eqb (min i c) p) (symmetrized A b i c) (b i c)
