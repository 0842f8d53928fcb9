-- The end of a round: the products' partials, their totals as a matrix, and what Jacobi, the Ritz order and the next bound make of it. Assumes nothing.
use mathlib.Core.Path.{◌≡◌, refl, sym, ap, ap₂, ◌∙◌, subst}
use mathlib.Core.Bool.{Bool, true, false, cond}
use mathlib.Core.List.{List, ◌++◌}
use Prim.Native.Nat.{ℕ, zero, suc, ◌+◌, ◌-◌, ◌*◌, ◌≤◌, ◌<◌}
use native.Mathlib.Omega.{arith}
use lib.Dec.{eqb, ltb}
use lib.ListN.{length, get_or, replicate, length-replicate, get_or-replicate, get_or-append}
use lib.Seq.{get_or-append-add}
use Rattle.definition.specs.Arith.{Arith}
use Rattle.definition.specs.Arrange.{arranged_by}
use Rattle.definition.specs.ChebyshevRayleighRitz.{Solving, ahead, ritz_order, ritz_value, falling_value, next_bound, cut_value, bound_after, products, plain_multipliers, rounds_from, round_step, round_eigen}
use Rattle.definition.specs.ChunkedColumnReduce.{Vector, Block, partial_sum, chunked_sum}
use Rattle.definition.specs.JacobiEigen.{Matrix, Eigen, symmetrized, jacobi_eigen}
use Rattle.definition.specs.MatvecCombine.{Operator, matvec_combine}
use Rattle.definition.specs.Memory.{place, row_at, column_at, vector_of, block_of, number_at, fill_range}
use Rattle.definition.specs.Numbers.{Params, width, chunks}
use Rattle.definition.proofs.Arranged.{arrange-length, arrange-below, arranged_cong}
use Rattle.definition.proofs.Fill.{split, fill_in, fill_length}
use Rattle.definition.proofs.Places.{square-most, place-below, place-row, place-column, number-at}
use Rattle.definition.proofs.Sums.{partial_cong, chunked_cong}
use Rattle.definition.proofs.Agree.{Agree}
use Rattle.definition.proofs.Agree.{Alike, symmetrized_agree, jacobi_agree}
use Rattle.held.specs.Calls.{whole}
use Rattle.held.proofs.Lens.{fill_op}
use Rattle.machine.specs.State.{Asked, asked_of, matrix_room, order_room, Lists, Progress, Lent}
use Rattle.machine.specs.Ready.{AskedReady}
use Rattle.machine.specs.Work.{free_block, held_block, products_work}
use Rattle.machine.specs.Closing.{totals_of, matrix_in, matrix_held, symmetric_in, eigen_matrix, eigen_vectors, order_in}
use Rattle.promises.specs.Run.{operator_of, v0_of, solving_at, round_block}
use Rattle.promises.specs.Shows.{HoldsBlock}
use Rattle.promises.proofs.After.{partials-after, total_after, totals-at}
use Rattle.promises.proofs.Lenses.{partials-block}
use Rattle.promises.proofs.RowPlaces.{row_of_place, column_of_place}
use Rattle.promises.proofs.Here.{Sure, asked_ready, Standing}
use Rattle.promises.proofs.Column.{partials_local}

module _ (A : Arith) (d : ℕ) (params : Params) (g : Lists A) (U : Sure A d params g) where
  abbrev a : Asked
  a = asked_of A d params g

  abbrev n : ℕ
  n = length g.starts - 1

  abbrev k : ℕ
  k = width d

  abbrev C : ℕ
  C = chunks (length g.starts - 1)

  abbrev ready : AskedReady a
  ready = asked_ready A d params g U

  abbrev v₀ : Vector A
  v₀ = v0_of A d params g

  abbrev Stands : ℕ → Block A → Lent A → Type 0
  Stands = Standing A d params g U

  square-room : k * k ≤ matrix_room
  square-room = square-most k (omega (arith, U.dims-most))

  some : 0 < k
  some = omega arith

  -- ---- the products
  module _ (p : Progress A) (v w : Block A) (m : Lent A) (S : Stands p.current v m) (W : HoldsBlock A d params g (free_block p.current p.current) w m) where
    abbrev after : Lent A
    after = whole (λ h x. products_work A a p h x) C m

    f : Lent A → ℕ → ℕ → A.F
    f x q i = A.mul (held_block A a p.current x i (row_at k k q)) (held_block A a (free_block p.current p.current) x i (column_at k k q))

    both : List A.F → List A.F → ℕ → ℕ → A.F
    both x y q i = A.mul (block_of A.none n k x i (row_at k k q)) (block_of A.none n k y i (column_at k k q))

    same : (q i : ℕ) → q < k * k → i < n → f m q i ≡ A.mul (v i (row_at k k q)) (w i (column_at k k q))
    unfolding f
    same q i l u = ap₂ A.mul (S.block i (row_at k k q) u (row_of_place k k some q l)) (W i (column_at k k q) u (column_of_place k k some q))

    pub products-partials : (h q : ℕ) → h < C → q < k * k
        → vector_of A.none after.partials (h * (k * k) + q) ≡ partial_sum A n (λ i. A.mul (v i (row_at k k q)) (w i (column_at k k q))) h
    unfolding fill_op f both
    products-partials h q l u =
        partials-after A a ready (k * k) (omega arith) f
        (partials_local A d params g U (k * k) f (λ x y. ap₂ both (partials-block A p.current x y) (partials-block A (free_block p.current p.current) x y))) m S.lent h q l u
        ∙ partial_cong A n (f m q) (λ i. A.mul (v i (row_at k k q)) (w i (column_at k k q))) h (λ i t. same q i u t)

    products_total : (q : ℕ) → q < k * k → vector_of A.none (totals_of A a (k * k) after.partials) q ≡ chunked_sum A n (λ i. A.mul (v i (row_at k k q)) (w i (column_at k k q)))
    unfolding fill_op f both
    products_total q u =
        totals-at A a ready (k * k) after.partials q square-room u
        ∙ total_after A a ready (k * k) (omega arith) f
        (partials_local A d params g U (k * k) f (λ x y. ap₂ both (partials-block A p.current x y) (partials-block A (free_block p.current p.current) x y))) m S.lent q u
        ∙ chunked_cong A n (f m q) (λ i. A.mul (v i (row_at k k q)) (w i (column_at k k q))) (λ i t. same q i u t)

    pub products_agree : Agree k (matrix_in A k (totals_of A a (k * k) after.partials)) (products A n v w)
    unfolding block_of products
    products_agree i c l u =
        products_total (place k k i c) (place-below k k i c l u)
        ∙ ap₂ (λ (x y : ℕ). chunked_sum A n (λ j. A.mul (v j x) (w j y))) (place-row k k i c u) (place-column k k i c u)

  -- ---- a matrix in an array
  held_at : (b : Matrix A) (l : List A.F) → length l ≡ matrix_room → Agree k (matrix_in A k (matrix_held A k b l)) b
  unfolding block_of
  held_at b l e i c p q =
      fill_in 0 (k * k) (number_at k k b) l (place k k i c) A.none (omega arith) (place-below k k i c p q) (omega (arith, place-below k k i c p q, square-room))
      ∙ number-at k k b i c q

  pub totals-length : (width : ℕ) (l : List A.F) → length (totals_of A a width l) ≡ matrix_room
  unfolding totals_of
  totals-length width l = fill_length 0 width _ (replicate matrix_room A.zero) ∙ length-replicate matrix_room A.zero

  symmetric_length : (l : List A.F) → length l ≡ matrix_room → length (symmetric_in A k l) ≡ matrix_room
  unfolding symmetric_in
  symmetric_length l e = fill_length 0 (k * k) _ l ∙ e

  -- ---- what the totals of the products come to, where they are the matrix b in the first k rows and columns
  module _ (l : List A.F) (b : Matrix A) (e : length l ≡ matrix_room) (E : Agree k (matrix_in A k l) b) where
    abbrev eigen : Eigen A
    eigen = jacobi_eigen A k (symmetrized A b)

    abbrev matrix : List A.F
    matrix = eigen_matrix A k (symmetric_in A k l)

    symmetric_agree : Agree k (matrix_in A k (symmetric_in A k l)) (symmetrized A b)
    unfolding symmetric_in
    symmetric_agree i c p q = held_at (symmetrized A (matrix_in A k l)) l e i c p q ∙ symmetrized_agree A k (matrix_in A k l) b E i c p q

    alike : Alike A k (jacobi_eigen A k (matrix_in A k (symmetric_in A k l))) eigen
    alike = jacobi_agree A k (matrix_in A k (symmetric_in A k l)) (symmetrized A b) symmetric_agree

    pub matrix_agree : Agree k (matrix_in A k matrix) eigen.matrix
    unfolding eigen_matrix
    matrix_agree i c p q = held_at (jacobi_eigen A k (matrix_in A k (symmetric_in A k l))).matrix (symmetric_in A k l) (symmetric_length l e) i c p q ∙ alike.0 i c p q

    pub vectors_agree : Agree k (matrix_in A k (eigen_vectors A k (symmetric_in A k l))) eigen.vectors
    unfolding eigen_vectors
    vectors_agree i c p q =
        held_at (jacobi_eigen A k (matrix_in A k (symmetric_in A k l))).vectors (replicate matrix_room A.zero) (length-replicate matrix_room A.zero) i c p q ∙ alike.1 i c p q

    -- the Ritz order, and zeros behind it
    order_same : ritz_order A k (ritz_value A (matrix_in A k matrix)) ≡ ritz_order A k (ritz_value A eigen.matrix)
    unfolding ritz_order
    order_same = arranged_cong (ahead A) (ritz_value A (matrix_in A k matrix)) (ritz_value A eigen.matrix) k (λ i p. matrix_agree i i p p)

    order-length : length (ritz_order A k (ritz_value A eigen.matrix)) ≡ k
    unfolding ritz_order arranged_by
    order-length = arrange-length _ k

    order_below : (j : ℕ) → j < k → get_or (ritz_order A k (ritz_value A eigen.matrix)) j 0 < k
    unfolding ritz_order arranged_by
    order_below j p = arrange-below _ k j p

    pub order-at : (j : ℕ) → j < k → get_or (order_in A k matrix) j 0 ≡ get_or (ritz_order A k (ritz_value A eigen.matrix)) j 0
    unfolding order_in
    order-at j p =
        ap (λ (o : List ℕ). get_or (o ++ replicate (order_room - k) 0) j 0) order_same
        ∙ get_or-append (ritz_order A k (ritz_value A eigen.matrix)) (replicate (order_room - k) 0) 0 j (omega (arith, order-length))

    order-rest : (j : ℕ) → j < order_room - k → get_or (order_in A k matrix) (k + j) 0 ≡ 0
    unfolding order_in
    order-rest j p =
        ap (λ (o : List ℕ). get_or (o ++ replicate (order_room - k) 0) (k + j) 0) order_same
        ∙ ap (λ (x : ℕ). get_or (ritz_order A k (ritz_value A eigen.matrix) ++ replicate (order_room - k) 0) (x + j) 0) (sym order-length)
        ∙ get_or-append-add (ritz_order A k (ritz_value A eigen.matrix)) (replicate (order_room - k) 0) j 0
        ∙ get_or-replicate (order_room - k) j 0 0 p

    pub order-ordered : (j : ℕ) → j < order_room → get_or (order_in A k matrix) j 0 < k
    order-ordered j p =
        split j k
        (λ s. omega (arith, order-at j s, order_below j s))
        (λ s. let q : k + (j - k) ≡ j = omega arith in omega (arith, rw q at (order-rest (j - k) (omega arith))))

    -- the values in the Ritz order
    pub value-at : (j : ℕ) → j < k → ritz_value A (matrix_in A k matrix) (get_or (order_in A k matrix) j 0) ≡ falling_value A k (ritz_value A eigen.matrix) j
    unfolding falling_value
    value-at j p = ap (λ (i : ℕ). ritz_value A (matrix_in A k matrix) i) (order-at j p) ∙ matrix_agree _ _ (order_below j p) (order_below j p)

    -- the next bound
    pub bound-same : (rounds round : ℕ) (x : A.F)
        → bound_after A d rounds round x (ritz_value A (matrix_in A k matrix)) (order_in A k matrix) ≡ bound_after A d rounds round x (ritz_value A eigen.matrix) (ritz_order A k (ritz_value A eigen.matrix))
    unfolding bound_after cut_value
    bound-same rounds round x =
        ap (λ (y : A.F). cond (ltb (round + 1) rounds) (next_bound A y) x)
        (unfold falling_value in value-at (d + 1) (omega arith))

  -- ---- one round more at the end
  module _ (op : Operator A) (v0 : Vector A) (s : Solving A) where
    rounds-more : (m r : ℕ) (s : Solving A) → rounds_from A d params n op v0 (suc m) r s ≡ round_step A d params n op v0 (r + m) (rounds_from A d params n op v0 m r s)
    unfolding rounds_from
    rounds-more zero r s = ap (λ (x : ℕ). round_step A d params n op v0 x s) (omega arith)
    rounds-more (suc m) r s =
        rounds-more m (suc r) (round_step A d params n op v0 r s)
        ∙ ap (λ (x : ℕ). round_step A d params n op v0 x (rounds_from A d params n op v0 m (suc r) (round_step A d params n op v0 r s))) (omega arith)

    rounds-last : (m : ℕ) → rounds_from A d params n op v0 (suc m) 0 s ≡ round_step A d params n op v0 m (rounds_from A d params n op v0 m 0 s)
    rounds-last m = rounds-more m 0 s ∙ ap (λ (x : ℕ). round_step A d params n op v0 x (rounds_from A d params n op v0 m 0 s)) (omega arith)

  pub solving_next : (r : ℕ) → solving_at A d params g (suc r) ≡ round_step A d params n (operator_of A d params g) v₀ r (solving_at A d params g r)
  unfolding solving_at
  solving_next r = rounds-last (operator_of A d params g) v₀ _ r
