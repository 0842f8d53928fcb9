-- The first four stages: degrees, edges, v0 and the start block. Assumes nothing.
use mathlib.Core.Path.{◌≡◌, refl, sym, ap, ap₂, ◌∙◌, subst}
use mathlib.Core.Bool.{Bool, true, false, false≢true}
use mathlib.Core.List.{List, []}
use Prim.Native.Nat.{ℕ, zero, suc, ◌+◌, ◌-◌, ◌*◌, ◌/◌, ◌≤◌, ◌<◌}
use native.Mathlib.Omega.{arith}
use lib.ListN.{length, get_or, take, replicate, get_or-replicate}
use lib.Seq.{take-length}
use Rattle.definition.specs.Arith.{Arith}
use Rattle.definition.specs.ChebyshevRayleighRitz.{first_alpha, rounds_from, begun}
use Rattle.definition.specs.ChebyshevRayleighRitz as ritz
use Rattle.definition.specs.ChunkedColumnReduce.{Vector, Block, sum_up, square}
use Rattle.definition.specs.Memory.{vector_of, wholes_of, number_at}
use Rattle.definition.specs.Numbers.{Params, width, chunks, first_row, chunk_rows}
use Rattle.definition.specs.Requirements.{Starts}
use Rattle.definition.specs.SpectralEmbedding.{degree_root, inverse_weight, isolated_rows, edge_column, edge_weight, weight_of, edge, root_norm, inverse_of_row, root_of_row, v0}
use Rattle.definition.specs.SpectralEmbedding as embedding
use Rattle.definition.proofs.Chunks.{chunk_of, chunk-from, chunk_to, first-most, first-up}
use Rattle.definition.proofs.Isolated.{isolated_cong}
use Rattle.definition.proofs.Rows.{row-holding}
use Rattle.definition.proofs.Sums.{sum_cong}
use Rattle.held.specs.Calls.{Base, whole}
use Rattle.held.proofs.Lens.{Lens, fill_op, whole-at, whole_is}
use Rattle.held.proofs.Ops.{whole_keeps, whole-holds}
use Rattle.machine.specs.State.{Asked, asked_of, chunk_count, matrix_room, order_room, Lists, State, Lent, with_inverse, with_v0, with_edge_columns, with_edge_weights, block_at, opened_state, begun_at}
use Rattle.machine.specs.State as stage
use Rattle.machine.specs.Ready.{AskedReady, StateReady, LentReady}
use Rattle.machine.specs.Work.{own_row, own_entry, own_place, column_in, value_in, row_in, held_block, degrees_work, edges_work, v0_work, on_block, work}
use Rattle.machine.specs.Closing.{closed}
use Rattle.machine.proofs.Own.{within-true}
use Rattle.ready.proofs.Tested.{state_ready}
use Rattle.promises.specs.Run.{v0_of, graph_in, solving_at}
use Rattle.promises.specs.Shows.{ShowsDegrees, ShowsEdges, ShowsGraph, HoldsInverse, HoldsEdges, HoldsBlock}
use Rattle.promises.proofs.Cong.{start-most, start_up, column-below}
use Rattle.promises.proofs.Lenses.{inverse_l, v0_l, edge_columns_l, edge_weights_l, block_l, still_inverse, still_v0, still_columns, still_weights}
use Rattle.promises.proofs.Acts.{own_entry_once, acts_by}
use Rattle.promises.proofs.Fits.{chunk-starts}
use Rattle.promises.proofs.After.{rows-after}
use Rattle.promises.proofs.Here.{Sure, asked_ready, Idle, isolated_in, isolated-few, here_with, Fine, fine_sound_with, Leads, at, worked, on, on_with, known, Standing, K}
use Rattle.promises.proofs.Column.{standing_block}
use Rattle.promises.proofs.Rounds.{Begun}

-- a projection of the memory on which the chunks act by themselves
whole_onto : {M N : Type 0} (op : ℕ → M → M) (op' : ℕ → N → N) (f : M → N) → ((h : ℕ) (m : M) → f (op h m) ≡ op' h (f m)) → (n : ℕ) (m : M) → f (whole op n m) ≡ whole op' n (f m)
unfolding whole
whole_onto op op' f e zero m = refl
whole_onto op op' f e (suc n) m = e n (whole op n m) ∙ ap (op' n) (whole_onto op op' f e n m)

module _ (A : Arith) (d : ℕ) (params : Params) (g : Lists A) (U : Sure A d params g) where
  abbrev a : Asked
  a = asked_of A d params g

  abbrev n : ℕ
  n = length g.starts - 1

  abbrev k : ℕ
  k = width d

  abbrev C : ℕ
  C = chunks (length g.starts - 1)

  abbrev ready : AskedReady a
  ready = asked_ready A d params g U

  abbrev v₀ : Vector A
  v₀ = v0_of A d params g

  abbrev Stands : ℕ → Block A → Lent A → Type 0
  Stands = Standing A d params g U

  -- ---- degrees
  module _ (m : Lent A) (L : LentReady A a m) where
    abbrev m₁ : Lent A
    m₁ = whole (λ h x. degrees_work A a g h x) C m

    pub degrees-inverse : HoldsInverse A d params g m₁
    unfolding fill_op
    degrees-inverse i l =
        ap (λ (x : Lent A). vector_of A.none x.inverse i)
        (whole_onto (λ h x. degrees_work A a g h x) (fill_op (inverse_l A) (own_row n) A.none (λ h x. inverse_of_row A (graph_in A g))) (λ x. with_v0 A [] x) (λ h x. refl) C m)
        ∙ rows-after A a ready (inverse_l A) (λ x. inverse_of_row A (graph_in A g)) (λ h x y e t j o q. refl) (with_v0 A [] m) L.lists.inverse i l

    pub degrees-roots : (i : ℕ) → i < n → vector_of A.none m₁.v0 i ≡ root_of_row A (graph_in A g) i
    unfolding fill_op
    degrees-roots i l =
        ap (λ (x : Lent A). vector_of A.none x.v0 i)
        (whole_onto (λ h x. degrees_work A a g h x) (fill_op (v0_l A) (own_row n) A.none (λ h x. root_of_row A (graph_in A g))) (λ x. with_inverse A [] x) (λ h x. refl) C m)
        ∙ rows-after A a ready (v0_l A) (λ x. root_of_row A (graph_in A g)) (λ h x y e t j o q. refl) (with_inverse A [] m) L.lists.v0 i l

    pub degrees-norm : root_norm A n (vector_of A.none m₁.v0) ≡ root_norm A n (root_of_row A (graph_in A g))
    unfolding root_norm
    degrees-norm = ap A.root (sum_cong A _ _ 0 n (λ i u v. ap (square A) (degrees-roots i v)))

    pub degrees-isolated : isolated_rows A n (vector_of A.none m₁.v0) ≡ isolated_rows A n (root_of_row A (graph_in A g))
    degrees-isolated = isolated_cong A n _ _ degrees-roots

  -- ---- edges
  module _ (m : Lent A) (L : LentReady A a m) (I : HoldsInverse A d params g m) where
    abbrev m₂ : Lent A
    m₂ = whole (λ h x. edges_work A a g h x) C m

    columns-all : column_in A a g ≡ wholes_of g.columns
    columns-all = ap wholes_of (take-length g.columns)

    values-all : value_in A a g ≡ vector_of A.none g.values
    values-all = ap (vector_of A.none) (ap (λ (x : ℕ). take x g.values) U.graph.lengths ∙ take-length g.values)

    -- an entry of row i belongs to the row's chunk
    entry_owned : (i p : ℕ) → i < n → get_or g.starts i 0 ≤ p → p < get_or g.starts (i + 1) 0 → own_entry (wholes_of g.starts) n (i / chunk_rows) p ≡ true
    entry_owned i p l q r =
        within-true _ _ p
        (omega (arith, start_up A d params g U.graph (first_row n (i / chunk_rows)) i (chunk-from n i l) (omega arith)))
        (omega (arith, start_up A d params g U.graph (i + 1) (first_row n (i / chunk_rows + 1)) (omega (arith, chunk_to n i l)) (first-most n (i / chunk_rows + 1))))

    entry_row : (i p : ℕ) → i < n → get_or g.starts i 0 ≤ p → p < get_or g.starts (i + 1) 0 → row_in A a g (i / chunk_rows) p ≡ i
    entry_row i p l q r =
        let c = i / chunk_rows in
        let u = first-up n c (c + 1) (omega arith) in
        row-holding g.starts (first_row n c) (first_row n (c + 1)) a.entries (chunk-starts A d params g U.graph c) (first_row n (c + 1) - first_row n c) i p
        (chunk-from n i l) (omega (arith, chunk_to n i l)) (omega arith) q r

    abbrev own : ℕ → ℕ → Bool
    own = own_entry (wholes_of g.starts) n

    once : (h j p : ℕ) → own h p ≡ true → own j p ≡ true → h ≡ j
    once h j p = own_entry_once g.starts n a.entries h j p U.graph.rising

    column_val : ℕ → Lent A → ℕ → ℕ
    column_val h x q = edge_column (wholes_of g.starts) (column_in A a g) (row_in A a g h q) q

    weight_val : ℕ → Lent A → ℕ → A.F
    weight_val h x q = edge_weight A (wholes_of g.starts) (column_in A a g) (value_in A a g) (vector_of A.none x.inverse) (row_in A a g h q) q

    entry_room : (i p : ℕ) → i < n → p < get_or g.starts (i + 1) 0 → p < a.entries
    entry_room i p l q = omega (arith, start-most A d params g U.graph (i + 1) (omega arith))

    pub edges_hold : HoldsEdges A d params g m₂
    unfolding fill_op column_val weight_val edge_weight weight_of
    edges_hold = record {
      column = λ i p l q r.
          ap (λ (x : Lent A). wholes_of x.edge_columns p) (whole_onto (λ h x. edges_work A a g h x) (fill_op (edge_columns_l A) own 0 column_val) (λ x. with_edge_weights A [] x) (λ h x. refl) C m)
          ∙ whole-at (edge_columns_l A) own 0 once column_val (λ h x y e t j o z. refl) C (with_edge_weights A [] m) (i / chunk_rows) p (chunk_of n i l) (entry_owned i p l q r) (omega (arith, L.lists.edge_columns, entry_room i p l r))
          ∙ ap₂ (λ (f : ℕ → ℕ) (x : ℕ). edge_column (wholes_of g.starts) f x p) columns-all (entry_row i p l q r);
      weight = λ i p l q r.
          ap (λ (x : Lent A). vector_of A.none x.edge_weights p) (whole_onto (λ h x. edges_work A a g h x) (fill_op (edge_weights_l A) own A.none weight_val) (λ x. with_edge_columns A [] x) (λ h x. refl) C m)
          ∙ whole-at (edge_weights_l A) own A.none once weight_val (λ h x y e t j o z. refl) C (with_edge_columns A [] m) (i / chunk_rows) p (chunk_of n i l) (entry_owned i p l q r) (omega (arith, L.lists.edge_weights, entry_room i p l r))
          ∙ ap₂ (λ (f : ℕ → ℕ) (x : ℕ). edge_weight A (wholes_of g.starts) f (value_in A a g) (vector_of A.none m.inverse) x p) columns-all (entry_row i p l q r)
          ∙ ap (λ (f : ℕ → A.F). edge_weight A (wholes_of g.starts) (wholes_of g.columns) f (vector_of A.none m.inverse) i p) values-all
          ∙ ap (A.mul (vector_of A.none g.values (edge (wholes_of g.starts) (wholes_of g.columns) i p)))
          (I (get_or g.columns (edge (wholes_of g.starts) (wholes_of g.columns) i p) 0) (unfold edge_column in column-below A d params g U.graph i p l q r));
    }

    edges-same : (m₂.inverse ≡ m.inverse) × (m₂.v0 ≡ m.v0)
    edges-same = (whole_keeps (λ h x. edges_work A a g h x) (λ x. x.inverse) (λ h x. refl) C m, whole_keeps (λ h x. edges_work A a g h x) (λ x. x.v0) (λ h x. refl) C m)

  -- ---- v0
  module _ (norm : A.F) (m : Lent A) (L : LentReady A a m) where
    abbrev m₃ : Lent A
    m₃ = whole (λ h x. v0_work A a norm h x) C m

    v0_made : (i : ℕ) → i < n → vector_of A.none m₃.v0 i ≡ embedding.v0_of A norm (vector_of A.none m.v0 i)
    unfolding fill_op
    v0_made i l =
        rows-after A a ready (v0_l A) (λ x j. embedding.v0_of A norm (vector_of A.none x.v0 j)) (λ h x y e t j o q. ap (embedding.v0_of A norm) (t j o)) m L.lists.v0 i l

  -- ---- the four stages
  w₀ : Idle A d params g U
  w₀ = record {
    before = A.zero;
    norm = A.zero;
    totals = replicate matrix_room A.zero;
    matrix = replicate matrix_room A.zero;
    vectors = replicate matrix_room A.zero;
    order = replicate order_room 0;
    ordered = λ j l. omega (arith, get_or-replicate {A = ℕ} order_room j 0 0 l);
  }

  abbrev goes_with : ℕ → ℕ → Idle A d params g U → State A
  goes_with i st w = here_with A d params g U i st 0 0 0 0 0 0 A.bound_first (first_alpha A A.bound_first) 0 0 0 w

  abbrev goes : ℕ → Idle A d params g U → State A
  goes = goes_with (isolated_in A d params g U)

  fine : Fine A d params g U 0 0 0 0 0 0 A.bound_first (first_alpha A A.bound_first) 0 0 0
  fine = record {
    round = omega (arith, U.numbers.rounds-least);
    pass = omega (arith, U.numbers.degree-least);
    column = omega arith;
    attempt = omega arith;
    current = omega arith;
    previous = omega arith;
    bound = U.steady.bound-first;
    alpha = U.steady.alpha-first A.bound_first U.steady.bound-first;
    passes = omega arith;
    refreshed = omega arith;
    zeroed = omega arith;
  }

  -- any stage leaves the memory as long as it was
  kept-long : (i : ℕ) → i ≤ n → (st : ℕ) (w : Idle A d params g U) (m : Lent A) → st ≤ 20 → LentReady A a m → LentReady A a (worked A d params g U (goes_with i st w) m)
  unfolding work
  kept-long i few st w m l L =
      whole-holds (λ h x. work A (goes_with i st w) g h x) (λ x. LentReady A a x)
      (λ h x r. (acts_by A (goes_with i st w) g (state_ready A (goes_with i st w) (fine_sound_with A d params g U i few st 0 0 0 0 0 0 A.bound_first (first_alpha A A.bound_first) 0 0 0 w l fine)) U.graph.rising (stage.stage_of st)).keeps h x r) C m L

  start_made : (m : Lent A) → ShowsGraph A d params g m → LentReady A a m → Stands 0 (ritz.start_block A k) (whole (λ h x. on_block A a 0 (ritz.start_block A k) h x) C m)
  unfolding fill_op
  start_made m G L =
      standing_block A d params g U 0 (λ x. ritz.start_block A k) (ritz.start_block A k) m (λ h x y e t j o q. refl) (λ i c p q. refl) 0 (held_block A a 0 m)
      (record { graph = G; lent = L; block = λ i c p q. refl })

  begun-at : (m : Lent A) → Stands 0 (ritz.start_block A k) m → Begun A d params g U 0 0 m
  unfolding solving_at rounds_from begun
  begun-at m S = record {
    stands = S;
    current = omega arith;
    bound = U.steady.bound-first;
    refreshed = omega arith;
    zeroed = omega arith;
    products = λ r e. absurd (omega arith);
  }

  pub setup_from : (m : Lent A) (rest : ℕ) (Q : Base (K A d params g U) → Type 0) → LentReady A a m
      → ((w : Idle A d params g U) (m' : Lent A) → Begun A d params g U 0 0 m' → Leads A d params g U rest (at A d params g U (goes 5 w) m') Q)
      → Leads A d params g U (suc (suc (suc (suc rest)))) (at A d params g U (opened_state A d params g) m) Q
  unfolding work closed opened_state begun_at w₀ v0
  setup_from m rest Q L next =
      on_with A d params g U 0 (omega arith) 1 0 0 0 0 0 0 A.bound_first (first_alpha A A.bound_first) 0 0 0 w₀ m _ Q (omega arith) (omega arith) fine L (λ z. absurd (false≢true z)) tt
      (known A d params g U _ (goes 2 w₁) x₁ _ Q (ap (λ (i : ℕ). goes_with i 2 w₁) (degrees-isolated m L))
      (on A d params g U 2 0 0 0 0 0 0 A.bound_first (first_alpha A A.bound_first) 0 0 0 w₁ x₁ _ Q (omega arith) (omega arith) fine L₁ (λ z. absurd (false≢true z)) D₁
      (on A d params g U 3 0 0 0 0 0 0 A.bound_first (first_alpha A A.bound_first) 0 0 0 w₁ x₂ _ Q (omega arith) (omega arith) fine L₂ (λ z. absurd (false≢true z)) (record { degrees = D₂; edges = E₂ })
      (on A d params g U 4 0 0 0 0 0 0 A.bound_first (first_alpha A A.bound_first) 0 0 0 w₁ x₃ _ Q (omega arith) (omega arith) fine L₃ (λ z. absurd (false≢true z)) G₃
      (next w₁ x₄ (begun-at x₄ S₄))))))
    where
      few : isolated_in A d params g U ≤ n
      few = isolated-few A d params g U

      x₁ : Lent A
      x₁ = worked A d params g U (goes_with 0 1 w₀) m

      L₁ : LentReady A a x₁
      L₁ = unfold work in kept-long 0 (omega arith) 1 w₀ m (omega arith) L

      w₁ : Idle A d params g U
      w₁ = record { before = A.zero; norm = root_norm A n (vector_of A.none x₁.v0); totals = w₀.totals; matrix = w₀.matrix; vectors = w₀.vectors; order = w₀.order; ordered = w₀.ordered }

      D₁ : ShowsDegrees A d params g (goes 2 w₁) x₁
      D₁ = record { inverse = degrees-inverse m L; roots = degrees-roots m L; norm = degrees-norm m L; isolated = refl }

      x₂ : Lent A
      x₂ = worked A d params g U (goes 2 w₁) x₁

      L₂ : LentReady A a x₂
      L₂ = unfold work in kept-long _ few 2 w₁ x₁ (omega arith) L₁

      E₂ : HoldsEdges A d params g x₂
      E₂ = edges_hold x₁ L₁ D₁.inverse

      D₂ : ShowsDegrees A d params g (goes 3 w₁) x₂
      D₂ = record {
        inverse = λ i l. ap (λ (y : List A.F). vector_of A.none y i) (edges-same x₁ L₁ D₁.inverse).0 ∙ D₁.inverse i l;
        roots = λ i l. ap (λ (y : List A.F). vector_of A.none y i) (edges-same x₁ L₁ D₁.inverse).1 ∙ D₁.roots i l;
        norm = D₁.norm;
        isolated = refl;
      }

      x₃ : Lent A
      x₃ = worked A d params g U (goes 3 w₁) x₂

      L₃ : LentReady A a x₃
      L₃ = unfold work in kept-long _ few 3 w₁ x₂ (omega arith) L₂

      same₃ : {X : Type 0} (f : List A.F → List ℕ → List A.F → X) → f x₃.inverse x₃.edge_columns x₃.edge_weights ≡ f x₂.inverse x₂.edge_columns x₂.edge_weights
      same₃ f = whole_keeps (λ h x. v0_work A a w₁.norm h x) (λ x. f x.inverse x.edge_columns x.edge_weights) (λ h x. refl) C x₂

      G₃ : ShowsGraph A d params g x₃
      G₃ = record {
        inverse = λ i l. same₃ (λ x y z. vector_of A.none x i) ∙ D₂.inverse i l;
        edges = record {
          column = λ i p l q r. same₃ (λ x y z. wholes_of y p) ∙ E₂.column i p l q r;
          weight = λ i p l q r. same₃ (λ x y z. vector_of A.none z p) ∙ E₂.weight i p l q r;
        };
        v0 = λ i l. v0_made w₁.norm x₂ L₂ i l ∙ ap₂ (embedding.v0_of A) D₂.norm (D₂.roots i l);
      }

      x₄ : Lent A
      x₄ = worked A d params g U (goes 4 w₁) x₃

      S₄ : Stands 0 (ritz.start_block A k) x₄
      S₄ = start_made x₃ G₃ L₃
