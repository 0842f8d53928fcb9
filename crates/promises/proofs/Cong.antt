-- The definition's pieces look at the first n rows and k columns only: what agrees there gives results that agree there. Assumes nothing.
use mathlib.Core.Path.{◌≡◌, refl, sym, ap, ap₂, ◌∙◌}
use mathlib.Core.Bool.{Bool, true, false, cond}
use mathlib.Core.List.{List}
use Prim.Native.Nat.{ℕ, zero, suc, ◌+◌, ◌-◌, ◌*◌, ◌≤◌, ◌<◌}
use native.Mathlib.Omega.{arith}
use borrow.Author.Tests.{eqb-true}
use lib.Dec.{eqb}
use lib.ListN.{length, get_or}
use Rattle.definition.specs.Arith.{Arith}
use Rattle.definition.specs.ChunkedColumnReduce.{Vector, Block, sum_up, square, chunked_sum, column_norm}
use Rattle.definition.specs.MatvecCombine.{Operator, Multipliers, gather, shifted, mixed_with, matvec_combine}
use Rattle.definition.specs.Memory.{vector_of, wholes_of}
use Rattle.definition.specs.OrthonormalizeBlock.{dot_term, dots, delta, subtracted, projected}
use Rattle.definition.specs.Requirements.{Starts, Columns}
use Rattle.definition.specs.SpectralEmbedding.{edge, edge_column, operator, inverse_of_row}
use Rattle.definition.proofs.RowOrder.{row_below}
use Rattle.definition.proofs.Rows.{starts-up}
use Rattle.definition.proofs.Sums.{sum_cong, chunked_cong}
use Rattle.definition.proofs.Fill.{split}
use Rattle.input.specs.Valid.{ValidGraph}
use Rattle.machine.specs.State.{Lists, Lent}
use Rattle.machine.specs.Work.{operator_in}
use Rattle.promises.specs.Run.{graph_in}
use Rattle.promises.specs.Shows.{HoldsInverse, HoldsEdges}
use Rattle.promises.proofs.RowLocal.{delta_cong}
use Rattle.definition.specs.Numbers.{Params}

module _ (A : Arith) (n k : ℕ) where
  -- two blocks are the same in n rows of k columns
  abbrev pub SameBlock : Block A → Block A → Type 0
  SameBlock v w = (i c : ℕ) → i < n → c < k → v i c ≡ w i c

  pub norm_cong : (v w : Block A) (c : ℕ) → c < k → SameBlock v w → column_norm A n v c ≡ column_norm A n w c
  unfolding column_norm
  norm_cong v w c q e = ap A.root (chunked_cong A n (λ i. square A (v i c)) (λ i. square A (w i c)) (λ i l. ap (square A) (e i c l q)))

  dot_same : (x y : Vector A) (v w : Block A) (c p i : ℕ) → c < k → p ≤ c → i < n → x i ≡ y i → SameBlock v w → dot_term A x v c p i ≡ dot_term A y w c p i
  dot_same x y v w c p i q l u z e =
      ap₂ (λ (s t : A.F). A.mul (cond (eqb p c) s t) (v i c)) z (e i p u (omega arith)) ∙ ap (A.mul (cond (eqb p c) (y i) (w i p))) (e i c u q)

  pub dots_cong : (x y : Vector A) (v w : Block A) (c p : ℕ) → c < k → p ≤ c → ((i : ℕ) → i < n → x i ≡ y i) → SameBlock v w
      → chunked_sum A n (dot_term A x v c p) ≡ dots A n y w c p
  unfolding dots
  dots_cong x y v w c p q l z e = chunked_cong A n (dot_term A x v c p) (dot_term A y w c p) (λ i u. dot_same x y v w c p i q l u (z i u) e)

  pub subtracted_cong : (t : ℕ → A.F) (x y : Vector A) (v w : Block A) (c : ℕ) → c < k → ((p : ℕ) → p ≤ c → t p ≡ dots A n y w c p) → ((i : ℕ) → i < n → x i ≡ y i) → SameBlock v w
      → SameBlock (subtracted A t x v c) (projected A n y c w)
  unfolding subtracted projected
  subtracted_cong t x y v w c q d z e i p u l =
      ap₂ (λ (s r : A.F). cond (eqb p c) s r)
      (ap₂ A.sub (e i c u q) (delta_cong A k t (dots A n y w c) (x i) (y i) (v i) (w i) c q d (z i u) (λ r m. e i r u m))) (e i p u l)

-- ---- the operator
module _ (A : Arith) (d : ℕ) (params : Params) (g : Lists A) (G : ValidGraph A g.starts g.columns g.values) where
  abbrev n : ℕ
  n = length g.starts - 1

  abbrev start : ℕ → ℕ
  start i = get_or g.starts i 0

  -- an entry of row i is one of the graph's
  pub start-most : (i : ℕ) → i ≤ n → start i ≤ length g.columns
  start-most i l = G.rising.within i (omega arith) l

  pub start_up : (i j : ℕ) → i ≤ j → j ≤ n → start i ≤ start j
  start_up i j p q = starts-up g.starts 0 n (length g.columns) G.rising i j (omega arith) p q

  pub edge_in : (i p : ℕ) → i < n → start i ≤ p → p < start (i + 1) → (start i ≤ edge start (wholes_of g.columns) i p) × (edge start (wholes_of g.columns) i p < start (i + 1))
  unfolding edge
  edge_in i p l q r =
      let b = row_below (wholes_of g.columns) (start i) (start (i + 1)) (p - start i) (omega arith) in (omega arith, omega (arith, b))

  pub column-below : (i p : ℕ) → i < n → start i ≤ p → p < start (i + 1) → edge_column start (wholes_of g.columns) i p < n
  unfolding edge_column
  column-below i p l q r =
      let e = edge_in i p l q r in
      G.below.below (edge start (wholes_of g.columns) i p) (omega arith) (omega (arith, e.1, start-most (i + 1) (omega arith)))

  module _ (k : ℕ) (m : Lent A) (I : HoldsInverse A d params g m) (E : HoldsEdges A d params g m) where
    gather_cong : (v w : Block A) → SameBlock A n k v w → (i c : ℕ) → i < n → c < k → gather A (operator_in A g m) v i c ≡ gather A (operator A (graph_in A g)) w i c
    unfolding gather operator
    gather_cong v w e i c l q =
        sum_cong A (λ p. A.mul (vector_of A.none m.edge_weights p) (v (wholes_of m.edge_columns p) c)) _ (start i) (start (i + 1))
        (λ p u t. ap₂ A.mul (E.weight i p l u t)
        (ap (λ (x : ℕ). v x c) (E.column i p l u t) ∙ e (edge_column start (wholes_of g.columns) i p) c (column-below i p l u t) q))

    pub matvec_cong : (by : Multipliers A) (v w x y : Block A) → SameBlock A n k v w → SameBlock A n k x y
        → SameBlock A n k (matvec_combine A (operator_in A g m) by v x) (matvec_combine A (operator A (graph_in A g)) by w y)
    unfolding matvec_combine operator
    matvec_cong by v w x y e f i c l q =
        ap₂ (λ (s t : A.F). mixed_with A by (shifted A (vector_of A.none m.inverse i) s t) s (x i c)) (e i c l q) (unfold operator in gather_cong v w e i c l q)
        ∙ ap₂ (λ (s t : A.F). mixed_with A by (shifted A s (w i c) (gather A (operator A (graph_in A g)) w i c)) (w i c) t) (I i l) (f i c l q)
