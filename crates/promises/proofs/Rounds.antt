-- The rounds: filter, columns, plain pass, products; each ends with the definition's basis, bound, vectors and order. Assumes nothing.
use mathlib.Core.Path.{◌≡◌, refl, sym, ap, ap₂, ◌∙◌, subst}
use mathlib.Core.Bool.{Bool, true, false, cond}
use mathlib.Core.List.{List}
use Prim.Native.Nat.{ℕ, zero, suc, ◌+◌, ◌-◌, ◌*◌, ◌≤◌, ◌<◌}
use native.Mathlib.Nat.{mul-le-mul_right, suc-mul}
use native.Mathlib.Omega.{arith}
use borrow.Author.Tests.{lt-ltb, le-ltb}
use lib.Dec.{eqb, ltb}
use lib.ListN.{length, get_or}
use Rattle.definition.specs.Arith.{Arith}
use Rattle.definition.specs.ChebyshevRayleighRitz.{Solving, filtered, filtered_basis, first_alpha, next_bound, bound_after, products, plain_multipliers, ritz_step, round_step, round_basis, round_eigen}
use Rattle.definition.specs.ChunkedColumnReduce.{Vector, Block}
use Rattle.definition.specs.MatvecCombine.{Operator, matvec_combine}
use Rattle.definition.specs.Numbers.{Params, width, chunks}
use Rattle.definition.specs.OrthonormalizeBlock.{Basis, columns_from, orthonormalize_block}
use Rattle.definition.specs.Memory.{block_of}
use Rattle.definition.proofs.Agree.{Agree}
use Rattle.definition.proofs.Fill.{fill_length}
use Rattle.held.specs.Calls.{Base, whole}
use Rattle.held.proofs.Lens.{fill_op}
use Rattle.machine.specs.State.{Asked, asked_of, Lists, State, Lent, with_record}
use Rattle.machine.specs.Ready.{AskedReady}
use Rattle.machine.specs.Ranges.{bound_sound, alpha_sound}
use Rattle.machine.specs.Work.{free_block, work}
use Rattle.machine.proofs.Record.{record-block}
use Rattle.machine.specs.Closing.{round_recorded, tidied, totals_of, matrix_in, symmetric_in, eigen_matrix, eigen_vectors, order_in, after_round, closed}
use Rattle.promises.specs.Run.{operator_of, v0_of, solving_at, filtering_at, basis_at, round_block}
use Rattle.promises.specs.Shows.{HoldsBlock, HoldsProducts, ShowsBasis, ShowsPlain}
use Rattle.promises.proofs.Here.{Sure, asked_ready, Idle, here, Fine, Leads, at, worked, on, known, graph-record, Standing, K}
use Rattle.promises.proofs.Lenses.{still_record}
use Rattle.promises.proofs.Column.{standing_partials}
use Rattle.promises.proofs.Columns.{Counted, columns_stages, columns-from}
use Rattle.promises.proofs.Filter.{more, Passed, pass_leaves, pass_keeps, filter_from}
use Rattle.promises.proofs.Ritz.{products-partials, products_agree, vectors_agree, order-at, order-ordered, bound-same, totals-length, solving_next}

module _ (A : Arith) (d : ℕ) (params : Params) (g : Lists A) (U : Sure A d params g) where
  abbrev a : Asked
  a = asked_of A d params g

  abbrev n : ℕ
  n = length g.starts - 1

  abbrev k : ℕ
  k = width d

  abbrev C : ℕ
  C = chunks (length g.starts - 1)

  abbrev ready : AskedReady a
  ready = asked_ready A d params g U

  abbrev v₀ : Vector A
  v₀ = v0_of A d params g

  abbrev Stands : ℕ → Block A → Lent A → Type 0
  Stands = Standing A d params g U

  abbrev op : Operator A
  op = operator_of A d params g

  abbrev S : ℕ → Solving A
  S r = solving_at A d params g r

  -- ---- the stages of a round before `rest` more, and of q + 1 rounds from round r on
  abbrev pub round_stages : ℕ → ℕ → ℕ
  round_stages r rest = suc (more (params.degree - 1) (columns_stages A d params g U r k 0 (suc (suc rest))))

  unfoldable pub rounds_stages : ℕ → ℕ → ℕ → ℕ
  rounds_stages zero r rest = round_stages r rest
  rounds_stages (suc q) r rest = round_stages r (rounds_stages q (suc r) rest)

  -- what stands before round r, and what the last round has left besides
  pub record Begun (r cur : ℕ) (m : Lent A) : Type 0 where
    pub stands : Stands cur (S r).basis.block m
    pub current : cur < 3
    pub bound : bound_sound A (S r).bound ≡ true
    pub refreshed : (S r).basis.refreshed ≤ r * k
    pub zeroed : (S r).basis.zeroed ≤ r * k
    pub products : (r' : ℕ) → r ≡ suc r' → HoldsProducts A d params g r' m

  -- another record of the same length beside it
  begun-record : (r cur : ℕ) (m : Lent A) (l : List A.F) → length l ≡ length m.ritz_record → Begun r cur m → Begun r cur (with_record A l m)
  begun-record r cur m l e B = record {
    stands = record {
      graph = graph-record A d params g U l m B.stands.graph;
      lent = still_record A a l m e B.stands.lent;
      block = λ i c p q. ap (λ (x : List A.F). block_of A.none n k x i c) (record-block A l cur m) ∙ B.stands.block i c p q;
    };
    current = B.current;
    bound = B.bound;
    refreshed = B.refreshed;
    zeroed = B.zeroed;
    products = B.products;
  }

  pub record Solves (r : ℕ) (w : Idle A d params g U) : Type 0 where
    pub vectors : Agree k (matrix_in A k w.vectors) (S r).vectors
    pub order : (j : ℕ) → j < k → get_or w.order j 0 ≡ get_or (S r).order j 0

  -- the state after round r: before the next, or before the last stages
  abbrev pub after_at : Bool → ℕ → ℕ → A.F → ℕ → Idle A d params g U → State A
  after_at t r cur al p w =
      here A d params g U (cond t 5 15) (cond t (r + 1) r) 0 0 0 cur cur (S (suc r)).bound (cond t (first_alpha A (S (suc r)).bound) al) p (S (suc r)).basis.refreshed (S (suc r)).basis.zeroed w

  bound-kept : (r : ℕ) → bound_sound A (S r).bound ≡ true → bound_sound A (S (suc r)).bound ≡ true
  unfolding round_step ritz_step bound_after
  bound-kept r h = ap (λ (s : Solving A). bound_sound A s.bound) (solving_next A d params g U r) ∙ go (ltb (r + 1) params.rounds) _
    where
      go : (t : Bool) (x : A.F) → bound_sound A (cond t (next_bound A x) (S r).bound) ≡ true
      go true x = U.steady.bound-next x
      go false x = h

  module _ (Q : Base (K A d params g U) → Type 0) where
    -- ---- the plain pass and the products
    module _ (r cur prev : ℕ) (al : A.F) (p : ℕ) (w : Idle A d params g U) (m : Lent A) (rest : ℕ) (rl : r < params.rounds) (B : bound_sound A (S r).bound ≡ true) (al-ok : alpha_sound A al ≡ true)
        (cl : cur < 3) (vl : prev < 3) (pe : p ≡ r * (params.degree + 1) + params.degree) (N : Counted A d params g U r k (basis_at A d params g r k)) (T : Stands cur (basis_at A d params g r k).block m) where
      abbrev f : ℕ
      f = (basis_at A d params g r k).refreshed

      abbrev z : ℕ
      z = (basis_at A d params g r k).zeroed

      abbrev v : Block A
      v = (basis_at A d params g r k).block

      abbrev y : Block A
      y = matvec_combine A op (plain_multipliers A) v v

      abbrev goes : ℕ → ℕ → State A
      goes st q = here A d params g U st r 0 0 0 cur prev (S r).bound al q f z w

      fine : (q : ℕ) → q ≤ r * (params.degree + 1) + params.degree + 1 → Fine A d params g U r 0 0 0 cur prev (S r).bound al q f z
      fine q l = record {
        round = rl;
        pass = omega (arith, U.numbers.degree-least);
        column = omega arith;
        attempt = omega arith;
        current = cl;
        previous = vl;
        bound = B;
        alpha = al-ok;
        passes = omega (arith, mul-le-mul_right {m = suc r} {n = params.rounds} (params.degree + 1) rl, suc-mul r (params.degree + 1));
        refreshed = omega (arith, N.refreshed, mul-le-mul_right {m = suc r} {n = params.rounds} k rl, suc-mul r k);
        zeroed = omega (arith, N.zeroed, mul-le-mul_right {m = suc r} {n = params.rounds} k rl, suc-mul r k);
      }

      m₁ : Lent A
      m₁ = worked A d params g U (goes 13 p) m

      T₁ : Stands cur v m₁
      unfolding m₁ work
      T₁ = record {
        graph = (pass_leaves A d params g U (plain_multipliers A) cur cur v v m cl cl T T.block).graph;
        lent = (pass_leaves A d params g U (plain_multipliers A) cur cur v v m cl cl T T.block).lent;
        block = pass_keeps A d params g U (plain_multipliers A) cur cur v v m cl cl T T.block;
      }

      Y₁ : HoldsBlock A d params g (free_block cur cur) y m₁
      unfolding m₁ work
      Y₁ = (pass_leaves A d params g U (plain_multipliers A) cur cur v v m cl cl T T.block).block

      m₂ : Lent A
      m₂ = worked A d params g U (goes 14 (p + 1)) m₁

      abbrev l : List A.F
      l = totals_of A a (k * k) m₂.partials

      agree : Agree k (matrix_in A k l) (products A n v y)
      unfolding m₂ work
      agree = products_agree A d params g U (goes 14 (p + 1)).progress v y m₁ T₁ Y₁

      sized : length l ≡ 225
      sized = totals-length A d params g U (k * k) m₂.partials

      w₂ : Idle A d params g U
      w₂ = record {
        before = w.before;
        norm = w.norm;
        totals = l;
        matrix = eigen_matrix A k (symmetric_in A k l);
        vectors = eigen_vectors A k (symmetric_in A k l);
        order = order_in A k (eigen_matrix A k (symmetric_in A k l));
        ordered = order-ordered A d params g U l (products A n v y) sized agree;
      }

      T₂ : Stands cur v m₂
      unfolding m₂ work fill_op
      T₂ = standing_partials A d params g U _ _ cur v m₁ T₁

      -- the definition's round ends so
      ends : S (suc r) ≡ ritz_step A d params.rounds r (S r).bound (basis_at A d params g r k) (round_eigen A d params n op v₀ v)
      unfolding round_step round_basis orthonormalize_block basis_at
      ends = solving_next A d params g U r

      begun : Begun (suc r) cur m₂
      unfolding ritz_step m₂ work round_block round_basis orthonormalize_block basis_at
      begun = record {
        stands = subst (λ (s : Solving A). Stands cur s.basis.block m₂) (sym ends) T₂;
        current = cl;
        bound = bound-kept r B;
        refreshed = subst (λ (s : Solving A). s.basis.refreshed ≤ suc r * k) (sym ends) (omega (arith, N.refreshed, suc-mul r k));
        zeroed = subst (λ (s : Solving A). s.basis.zeroed ≤ suc r * k) (sym ends) (omega (arith, N.zeroed, suc-mul r k));
        products = λ r' e. subst (λ (x : ℕ). HoldsProducts A d params g x m₂) (let q : r ≡ r' = omega arith in q)
            (products-partials A d params g U (goes 14 (p + 1)).progress v y m₁ T₁ Y₁);
      }

      solves : Solves (suc r) w₂
      unfolding ritz_step round_eigen w₂
      solves = record {
        vectors = subst (λ (s : Solving A). Agree k (matrix_in A k w₂.vectors) s.vectors) (sym ends) (vectors_agree A d params g U l (products A n v y) sized agree);
        order = λ j q. subst (λ (s : Solving A). get_or w₂.order j 0 ≡ get_or s.order j 0) (sym ends) (order-at A d params g U l (products A n v y) sized agree j q);
      }

      -- and the memory that the products' closing leaves
      m₃ : Lent A
      m₃ = tidied A (goes 14 (p + 1)) m₂

      begun-next : Begun (suc r) cur m₃
      unfolding m₃ round_recorded
      begun-next = begun-record (suc r) cur m₂ _ (fill_length _ _ _ m₂.ritz_record) begun

      -- the state that the products' closing answers
      closes : closed A (goes 14 (p + 1)) m₂ ≡ after_at (ltb (r + 1) params.rounds) r cur al (p + 1) w₂
      unfolding closed after_round ritz_step round_eigen w₂
      closes =
          ap (λ (x : A.F). here A d params g U (cond (ltb (r + 1) params.rounds) 5 15) (cond (ltb (r + 1) params.rounds) (r + 1) r) 0 0 0 cur cur x (cond (ltb (r + 1) params.rounds) (first_alpha A x) al) (p + 1) f z w₂)
          (bound-same A d params g U l (products A n v y) sized agree params.rounds r (S r).bound)
          ∙ ap (λ (s : Solving A). here A d params g U (cond (ltb (r + 1) params.rounds) 5 15) (cond (ltb (r + 1) params.rounds) (r + 1) r) 0 0 0 cur cur s.bound
          (cond (ltb (r + 1) params.rounds) (first_alpha A s.bound) al) (p + 1) s.basis.refreshed s.basis.zeroed w₂) (sym ends)

      pub plain-from : ((w' : Idle A d params g U) (m' : Lent A) → Begun (suc r) cur m' → Solves (suc r) w' → Leads A d params g U rest (at A d params g U (after_at (ltb (r + 1) params.rounds) r cur al (p + 1) w') m') Q)
          → Leads A d params g U (suc (suc rest)) (at A d params g U (goes 13 p) m) Q
      unfolding closed m₁ m₂ m₃ round_block round_basis orthonormalize_block basis_at
      plain-from next =
          on A d params g U 13 r 0 0 0 cur prev (S r).bound al p f z w m (suc rest) Q (omega arith) (omega arith) (fine p (omega arith)) T.lent (λ t. T.graph.edges)
          (record { graph = T.graph; current = T.block })
          (on A d params g U 14 r 0 0 0 cur prev (S r).bound al (p + 1) f z w m₁ rest Q (omega arith) (omega arith) (fine (p + 1) (omega arith)) T₁.lent (λ t. T₁.graph.edges)
          (record { basis = record { graph = T₁.graph; current = T₁.block }; bound = refl; plain = Y₁ })
          (known A d params g U _ (after_at (ltb (r + 1) params.rounds) r cur al (p + 1) w₂) m₃ rest Q closes (next w₂ m₃ begun-next solves)))

    -- ---- one round
    abbrev begins_at : ℕ → ℕ → A.F → ℕ → Idle A d params g U → State A
    begins_at r cur al p w = here A d params g U 5 r 0 0 0 cur cur (S r).bound al p (S r).basis.refreshed (S r).basis.zeroed w

    Next : ℕ → ℕ → Type 0
    Next r rest = (cur : ℕ) (al : A.F) (p : ℕ) (w : Idle A d params g U) (m : Lent A) → alpha_sound A al ≡ true → p ≡ suc r * (params.degree + 1) → Begun (suc r) cur m → Solves (suc r) w
        → Leads A d params g U rest (at A d params g U (after_at (ltb (r + 1) params.rounds) r cur al p w) m) Q

    round-from : (r cur : ℕ) (al : A.F) (p : ℕ) (w : Idle A d params g U) (m : Lent A) (rest : ℕ) → r < params.rounds → al ≡ first_alpha A (S r).bound → p ≡ r * (params.degree + 1) → Begun r cur m
        → Next r rest → Leads A d params g U (round_stages r rest) (at A d params g U (begins_at r cur al p w) m) Q
    unfolding Next basis_at columns_from filtered_basis filtered filtering_at
    round-from r cur al p w m rest rl e pe B next =
        filter_from A d params g U r rl B.bound B.refreshed B.zeroed w Q cur al p m (columns_stages A d params g U r k 0 (suc (suc rest))) B.current e pe B.stands B.products
        (λ cur' prev' al' p' m' i t H.
        subst (λ (x : Bool). Leads A d params g U (columns_stages A d params g U r k 0 (suc (suc rest)))
        (at A d params g U (here A d params g U (cond x 6 13) r 0 (cond x 0 0) 0 cur' prev' (S r).bound al' p' (S r).basis.refreshed (S r).basis.zeroed w) m') Q) (lt-ltb 0 k (omega arith))
        (unfold basis_at columns_from filtered_basis filtered in
        columns-from A d params g U r cur' prev' (S r).bound al' p' rl (few p' (omega (arith, H.passes))) H.current H.previous B.bound H.unitary Q k 0 w m' (suc (suc rest)) (omega arith)
        (record { refreshed = omega (arith, B.refreshed); zeroed = omega (arith, B.zeroed) })
        (subst (λ (j : ℕ). Stands cur' (filtering_at A d params g r j).current m') (omega arith) H.stands)
        (λ w'' m'' N T. plain-from r cur' prev' al' p' w'' m'' rest rl B.bound H.unitary H.current H.previous (omega (arith, H.passes)) N T
        (λ w''' m''' B' X. next cur' al' (p' + 1) w''' m''' H.unitary (omega (arith, H.passes, suc-mul r (params.degree + 1))) B' X))))
      where
        few : (q : ℕ) → q ≤ r * (params.degree + 1) + params.degree → q ≤ params.rounds * (params.degree + 1)
        few q l = omega (arith, mul-le-mul_right {m = suc r} {n = params.rounds} (params.degree + 1) rl, suc-mul r (params.degree + 1))

    -- ---- all rounds: q + 1 from round r on, and then the last stages
    pub rounds-from : (q r cur : ℕ) (al : A.F) (p : ℕ) (w : Idle A d params g U) (m : Lent A) (rest : ℕ) → r + suc q ≡ params.rounds → al ≡ first_alpha A (S r).bound → p ≡ r * (params.degree + 1) → Begun r cur m
        → ((r' cur : ℕ) (al : A.F) (p : ℕ) (w : Idle A d params g U) (m : Lent A) → suc r' ≡ params.rounds → alpha_sound A al ≡ true → p ≡ params.rounds * (params.degree + 1)
        → Begun params.rounds cur m → Solves params.rounds w
        → Leads A d params g U rest (at A d params g U (here A d params g U 15 r' 0 0 0 cur cur (S params.rounds).bound al p (S params.rounds).basis.refreshed (S params.rounds).basis.zeroed w) m) Q)
        → Leads A d params g U (rounds_stages q r rest) (at A d params g U (begins_at r cur al p w) m) Q
    unfolding Next rounds_stages
    rounds-from zero r cur al p w m rest e ae pe B next =
        round-from r cur al p w m rest (omega arith) ae pe B
        (λ cur' al' p' w' m' u t B' X.
        subst (λ (x : Bool). Leads A d params g U rest (at A d params g U (after_at x r cur' al' p' w') m') Q) (sym (le-ltb (r + 1) params.rounds (omega arith)))
        (let z : params.rounds ≡ suc r = omega arith in
        subst (λ (x : ℕ). Leads A d params g U rest (at A d params g U (here A d params g U 15 r 0 0 0 cur' cur' (S x).bound al' p' (S x).basis.refreshed (S x).basis.zeroed w') m') Q) z
        (next r cur' al' p' w' m' (omega arith) u (t ∙ ap (λ (x : ℕ). x * (params.degree + 1)) (sym z)) (subst (λ (x : ℕ). Begun x cur' m') (sym z) B') (subst (λ (x : ℕ). Solves x w') (sym z) X))))
    rounds-from (suc q) r cur al p w m rest e ae pe B next =
        round-from r cur al p w m (rounds_stages q (suc r) rest) (omega arith) ae pe B
        (λ cur' al' p' w' m' u t B' X.
        subst (λ (x : Bool). Leads A d params g U (rounds_stages q (suc r) rest) (at A d params g U (after_at x r cur' al' p' w') m') Q) (sym (lt-ltb (r + 1) params.rounds (omega arith)))
        (let z : suc r ≡ r + 1 = omega arith in
        subst (λ (x : ℕ). Leads A d params g U (rounds_stages q (suc r) rest) (at A d params g U
        (here A d params g U 5 x 0 0 0 cur' cur' (S (suc r)).bound (first_alpha A (S (suc r)).bound) p' (S (suc r)).basis.refreshed (S (suc r)).basis.zeroed w') m') Q) z
        (rounds-from q (suc r) cur' (first_alpha A (S (suc r)).bound) p' w' m' rest (omega arith) refl t B' next)))
