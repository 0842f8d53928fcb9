-- Each piece of Jacobi looks at the first k rows and columns only, over any arithmetic: matrices that agree there have results that agree there. Assumes nothing.
use mathlib.Core.Path.{◌≡◌, refl, ap, ◌∙◌}
use mathlib.Core.Bool.{Bool, true, false, cond}
use Prim.Native.Nat.{ℕ, zero, suc, ◌+◌, ◌-◌, ◌≤◌, ◌<◌}
use native.Mathlib.Omega.{arith}
use native.Mathlib.Numerals.{add-one}
use borrow.Author.Tests.{eq-eqb, ne_eqb, lt-ltb, le-ltb}
use Rattle.definition.specs.Arith.{Arith}
use Rattle.definition.specs.ChunkedColumnReduce.{add_up, square}
use Rattle.definition.specs.JacobiEigen.{Matrix, Eigen, Turn, mean, symmetrized, identity, turn_first, turn_second, turn_columns, turn_rows, tangent, turn_at, turned, pair_step, pairs_from, rows_from, sweep, diagonal, off_from, off_diagonal, noise_floor, converged, sweeps_from, sweeps_most, jacobi_eigen}
use Rattle.definition.proofs.Sums.{add_cong, sum_cong}

-- two matrices are the same at the first k rows and columns
abbrev pub Agree : {E : Type 0} → ℕ → (ℕ → ℕ → E) → (ℕ → ℕ → E) → Type 0
Agree k b d = (i c : ℕ) → i < k → c < k → b i c ≡ d i c

module _ (A : Arith) (k : ℕ) where
  abbrev pub Alike : Eigen A → Eigen A → Type 0
  Alike s r = Agree k s.matrix r.matrix × Agree k s.vectors r.vectors

  either : (v : Bool) (a a' b b' : Eigen A) → Alike a a' → Alike b b' → Alike (cond v a b) (cond v a' b')
  either true a a' b b' p q = p
  either false a a' b b' p q = q

  pub symmetrized_agree : (b d : Matrix A) → Agree k b d → Agree k (symmetrized A b) (symmetrized A d)
  unfolding symmetrized
  symmetrized_agree b d h i c u v = rw (h i c u v, h c i v u)

  module _ (p q : ℕ) (u : p < k) (v : q < k) where
    pub columns_agree : (t : Turn A) (b d : Matrix A) → Agree k b d → Agree k (turn_columns A t p q b) (turn_columns A t p q d)
    unfolding turn_columns
    columns_agree t b d h i c x y = rw (h i p x u, h i q x v, h i c x y)

    pub rows_agree : (t : Turn A) (b d : Matrix A) → Agree k b d → Agree k (turn_rows A t p q b) (turn_rows A t p q d)
    unfolding turn_rows
    rows_agree t b d h i c x y = rw (h p c u y, h q c v y, h i c x y)

    turn_same : (b d : Matrix A) → Agree k b d → turn_at A p q b ≡ turn_at A p q d
    unfolding turn_at
    turn_same b d h = rw (h p p u u, h q q v v, h p q u v)

    pub turned_agree : (t : Turn A) (s r : Eigen A) → Alike s r → Alike (turned A t p q s) (turned A t p q r)
    unfolding turned
    turned_agree t s r h = (
      rows_agree t (turn_columns A t p q s.matrix) (turn_columns A t p q r.matrix) (columns_agree t s.matrix r.matrix h.0),
      columns_agree t s.vectors r.vectors h.1,
    )

    pub pair_agree : (s r : Eigen A) → Alike s r → Alike (pair_step A p q s) (pair_step A p q r)
    unfolding pair_step
    pair_agree s r h =
        rw (h.0 p q u v, turn_same s.matrix r.matrix h.0)
        (either (A.eq (r.matrix p q) A.zero) s r (turned A (turn_at A p q r.matrix) p q s) (turned A (turn_at A p q r.matrix) p q r) h (turned_agree (turn_at A p q r.matrix) s r h))

  pub pairs_agree : (m p q : ℕ) → p < k → q + m ≤ k → (s r : Eigen A) → Alike s r → Alike (pairs_from A m p q s) (pairs_from A m p q r)
  unfolding pairs_from
  pairs_agree zero p q u v s r h = h
  pairs_agree (suc m) p q u v s r h = pairs_agree m p (suc q) u (omega arith) (pair_step A p q s) (pair_step A p q r) (pair_agree p q u (omega arith) s r h)

  pub rows-from_agree : (m p : ℕ) → p + m ≤ k → (s r : Eigen A) → Alike s r → Alike (rows_from A k m p s) (rows_from A k m p r)
  unfolding rows_from
  rows-from_agree zero p u s r h = h
  rows-from_agree (suc m) p u s r h =
      rows-from_agree m (suc p) (omega arith) (pairs_from A (k - suc p) p (suc p) s) (pairs_from A (k - suc p) p (suc p) r)
      (pairs_agree (k - suc p) p (suc p) (omega arith) (omega arith) s r h)

  pub sweep_agree : (s r : Eigen A) → Alike s r → Alike (sweep A k s) (sweep A k r)
  unfolding sweep
  sweep_agree s r h = rows-from_agree k 0 (omega arith) s r h

  diagonal_agree : (b d : Matrix A) → Agree k b d → diagonal A k b ≡ diagonal A k d
  unfolding diagonal
  diagonal_agree b d h = sum_cong A _ _ 0 k (λ i l u. ap (square A) (h i i u u))

  off_agree : (b d : Matrix A) → Agree k b d → (m p : ℕ) (z : A.F) → p + m ≤ k → off_from A k b m p z ≡ off_from A k d m p z
  unfolding off_from
  off_agree b d h zero p z u = refl
  off_agree b d h (suc m) p z u =
      ap (off_from A k b m (suc p)) (add_cong A z _ _ (suc p) (k - suc p) (λ i l w. ap (square A) (h p i (omega arith) (omega arith))))
      ∙ off_agree b d h m (suc p) _ (omega arith)

  pub converged_agree : (b d : Matrix A) → Agree k b d → converged A k b ≡ converged A k d
  unfolding converged off_diagonal
  converged_agree b d h =
      ap (λ (x : A.F). A.le x (A.mul (noise_floor A k) (diagonal A k b))) (off_agree b d h k 0 A.zero (omega arith))
      ∙ ap (λ (x : A.F). A.le (off_diagonal A k d) (A.mul (noise_floor A k) x)) (diagonal_agree b d h)

  pub sweeps_agree : (m : ℕ) (s r : Eigen A) → Alike s r → Alike (sweeps_from A k m s) (sweeps_from A k m r)
  unfolding sweeps_from
  sweeps_agree zero s r h = h
  sweeps_agree (suc m) s r h =
      rw (converged_agree s.matrix r.matrix h.0)
      (either (converged A k r.matrix) s r (sweeps_from A k m (sweep A k s)) (sweeps_from A k m (sweep A k r)) h (sweeps_agree m (sweep A k s) (sweep A k r) (sweep_agree s r h)))

  pub jacobi_agree : (b d : Matrix A) → Agree k b d → Alike (jacobi_eigen A k b) (jacobi_eigen A k d)
  unfolding jacobi_eigen
  jacobi_agree b d h = sweeps_agree (sweeps_most A) (record { matrix = b; vectors = identity A }) (record { matrix = d; vectors = identity A }) (h, λ i c u v. refl)

  -- ---- a pair as the code takes it
  pub pair_skipped : (p q : ℕ) (s : Eigen A) {x : A.F} → x ≡ s.matrix p q → A.eq x A.zero ≡ true → pair_step A p q s ≡ s
  unfolding pair_step
  pair_skipped p q s e h = rw (← e, h)

  pub pair_turned : (p q : ℕ) (s : Eigen A) {t : Turn A} {x : A.F} → x ≡ s.matrix p q → t ≡ turn_at A p q s.matrix → A.eq x A.zero ≡ false → turned A t p q s ≡ pair_step A p q s
  unfolding pair_step
  pair_turned p q s e u h = rw (u, ← e, h)

  -- ---- one more of a loop, and none left
  pub pairs-more : (p q : ℕ) (s : Eigen A) → q < k → pairs_from A (k - q) p q s ≡ pairs_from A (k - (q + 1)) p (q + 1) (pair_step A p q s)
  unfolding pairs_from
  pairs-more p q s u = let e : k - q ≡ suc (k - (q + 1)) = omega arith in rw (e, add-one q)

  pub pairs-none : (p q : ℕ) (s : Eigen A) → k ≤ q → pairs_from A (k - q) p q s ≡ s
  unfolding pairs_from
  pairs-none p q s u = let e : k - q ≡ 0 = omega arith in rw e

  pub rows_more : (p : ℕ) (s : Eigen A) → p < k → rows_from A k (k - p) p s ≡ rows_from A k (k - (p + 1)) (p + 1) (pairs_from A (k - suc p) p (suc p) s)
  unfolding rows_from
  rows_more p s u = let e : k - p ≡ suc (k - (p + 1)) = omega arith in rw (e, add-one p)

  pub rows_none : (p : ℕ) (s : Eigen A) → k ≤ p → rows_from A k (k - p) p s ≡ s
  unfolding rows_from
  rows_none p s u = let e : k - p ≡ 0 = omega arith in rw e

  pub off_more : (b : Matrix A) (p : ℕ) (z : A.F) → p < k
      → off_from A k b (k - p) p z ≡ off_from A k b (k - (p + 1)) (p + 1) (add_up A z (λ q. square A (b p q)) (suc p) (k - suc p))
  unfolding off_from
  off_more b p z u = let e : k - p ≡ suc (k - (p + 1)) = omega arith in rw (e, add-one p)

  pub off_none : (b : Matrix A) (p : ℕ) (z : A.F) → k ≤ p → off_from A k b (k - p) p z ≡ z
  unfolding off_from
  off_none b p z u = let e : k - p ≡ 0 = omega arith in rw e

  -- n sweeps of m are done
  pub sweeps_more : (m n : ℕ) (s : Eigen A) → n < m → converged A k s.matrix ≡ false → sweeps_from A k (m - n) s ≡ sweeps_from A k (m - (n + 1)) (sweep A k s)
  unfolding sweeps_from
  sweeps_more m n s u h = let e : m - n ≡ suc (m - (n + 1)) = omega arith in rw (e, h)

  pub sweeps_done : (m n : ℕ) (s : Eigen A) → n < m → converged A k s.matrix ≡ true → sweeps_from A k (m - n) s ≡ s
  unfolding sweeps_from
  sweeps_done m n s u h = let e : m - n ≡ suc (m - (n + 1)) = omega arith in rw (e, h)

  pub sweeps_none : (m n : ℕ) (s : Eigen A) → m ≤ n → sweeps_from A k (m - n) s ≡ s
  unfolding sweeps_from
  sweeps_none m n s u = let e : m - n ≡ 0 = omega arith in rw e

module _ (A : Arith) (t : Turn A) (p q : ℕ) (b : Matrix A) where
  -- ---- the numbers that a turn changes, and those that it leaves
  pub columns-first : (r : ℕ) → turn_columns A t p q b r p ≡ turn_first A t (b r p) (b r q)
  unfolding turn_columns
  columns-first r = simp (eq-eqb p p refl)

  pub columns-second : (r : ℕ) → p < q → turn_columns A t p q b r q ≡ turn_second A t (b r p) (b r q)
  unfolding turn_columns
  columns-second r h = simp (ne_eqb q p (λ e. omega arith), eq-eqb q q refl)

  pub columns_other : (r c : ℕ) → (c ≡ p → ⊥) → (c ≡ q → ⊥) → turn_columns A t p q b r c ≡ b r c
  unfolding turn_columns
  columns_other r c g h = simp (ne_eqb c p g, ne_eqb c q h)

  pub rows-first : (c : ℕ) → turn_rows A t p q b p c ≡ turn_first A t (b p c) (b q c)
  unfolding turn_rows
  rows-first c = simp (eq-eqb p p refl)

  pub rows-second : (c : ℕ) → p < q → turn_rows A t p q b q c ≡ turn_second A t (b p c) (b q c)
  unfolding turn_rows
  rows-second c h = simp (ne_eqb q p (λ e. omega arith), eq-eqb q q refl)

  pub rows_other : (r c : ℕ) → (r ≡ p → ⊥) → (r ≡ q → ⊥) → turn_rows A t p q b r c ≡ b r c
  unfolding turn_rows
  rows_other r c g h = simp (ne_eqb r p g, ne_eqb r q h)

module _ (A : Arith) where
  pub identity-on : (p : ℕ) → identity A p p ≡ A.one
  unfolding identity
  identity-on p = simp (eq-eqb p p refl)

  pub identity_off : (p q : ℕ) → (p ≡ q → ⊥) → identity A p q ≡ A.zero
  unfolding identity
  identity_off p q h = simp (ne_eqb p q h)

  pub upper_mean : (b : Matrix A) (p q : ℕ) → p < q → symmetrized A b p q ≡ mean A (b p q) (b q p)
  unfolding symmetrized
  upper_mean b p q h = simp (lt-ltb p q h)

  pub lower_mean : (b : Matrix A) (p q : ℕ) → p < q → symmetrized A b q p ≡ mean A (b p q) (b q p)
  unfolding symmetrized
  lower_mean b p q h = let g : p ≤ q = omega arith in simp (le-ltb q p g, lt-ltb p q h)

  pub no-mean : (b : Matrix A) (p q : ℕ) → p ≡ q → symmetrized A b p q ≡ b p q
  unfolding symmetrized
  no-mean b p q e = let g : p ≤ q = omega arith in let h : q ≤ p = omega arith in simp (le-ltb q p g, le-ltb p q h)

  -- ---- the tangent of a theta from zero on, and of one below
  pub tangent-up : (h : A.F) {r : A.F} → r ≡ A.root (A.add (square A h) A.one) → A.le A.zero h ≡ true → A.div A.one (A.add h r) ≡ tangent A h
  unfolding tangent
  tangent-up h e t = rw (e, t)

  pub tangent-down : (h : A.F) {r : A.F} → r ≡ A.root (A.add (square A h) A.one) → A.le A.zero h ≡ false → A.div A.one (A.sub h r) ≡ tangent A h
  unfolding tangent
  tangent-down h e t = rw (e, t)
