-- A round's filter: its passes, from the round's first to the first column. Assumes nothing.
use mathlib.Core.Path.{◌≡◌, refl, sym, ap, ap₂, ◌∙◌, subst}
use mathlib.Core.Bool.{Bool, true, false, cond}
use mathlib.Core.List.{List}
use Prim.Native.Nat.{ℕ, zero, suc, ◌+◌, ◌-◌, ◌*◌, ◌≤◌, ◌<◌}
use native.Mathlib.Nat.{mul-le-mul_right, suc-mul}
use native.Mathlib.Omega.{arith}
use borrow.Author.Tests.{lt-ltb, le-ltb, ne_eqb}
use lib.Dec.{eqb, ltb}
use lib.ListN.{length, get_or}
use Rattle.definition.specs.Arith.{Arith}
use Rattle.definition.specs.ChebyshevRayleighRitz.{Filtering, Solving, first_pass, later_pass, passes_from, first_alpha, next_alpha, first_multipliers, later_multipliers}
use Rattle.definition.specs.ChunkedColumnReduce.{Vector, Block}
use Rattle.definition.specs.MatvecCombine.{Operator, Multipliers, matvec_combine}
use Rattle.definition.specs.Memory.{block_of, number_at}
use Rattle.definition.specs.Numbers.{Params, width, chunks}
use Rattle.held.specs.Calls.{Base, whole}
use Rattle.held.proofs.Lens.{fill_op, whole_is}
use Rattle.machine.specs.State.{Asked, asked_of, Lists, State, Lent, block_at, with_block}
use Rattle.machine.specs.Ready.{AskedReady}
use Rattle.machine.specs.Ranges.{bound_sound, alpha_sound}
use Rattle.machine.specs.Work.{own_place, free_block, operator_in, held_block, pass_work, filter_multipliers, work}
use Rattle.machine.specs.Closing.{closed}
use Rattle.promises.specs.Run.{operator_of, v0_of, solving_at, filtering_at}
use Rattle.promises.specs.Shows.{HoldsBlock, HoldsProducts, ShowsFilter}
use Rattle.promises.proofs.Cong.{matvec_cong}
use Rattle.promises.proofs.Lenses.{block_l, free_current, free_previous, free_below}
use Rattle.promises.proofs.Acts.{pass_local}
use Rattle.promises.proofs.Here.{Sure, asked_ready, Idle, here, Fine, Leads, at, worked, on, known, Standing, K}
use Rattle.promises.proofs.Column.{standing_block}

-- q stages before `rest` more
abbrev pub more : ℕ → ℕ → ℕ
more zero rest = rest
more (suc q) rest = suc (more q rest)

-- one pass more at the end
pub passes-more : (A : Arith) (op : Operator A) (b : A.F) (m : ℕ) (s : Filtering A) → passes_from A op b (suc m) s ≡ later_pass A op b (passes_from A op b m s)
unfolding passes_from
passes-more A op b zero s = refl
passes-more A op b (suc m) s = passes-more A op b m (later_pass A op b s)

module _ (A : Arith) (d : ℕ) (params : Params) (g : Lists A) (U : Sure A d params g) where
  abbrev a : Asked
  a = asked_of A d params g

  abbrev n : ℕ
  n = length g.starts - 1

  abbrev k : ℕ
  k = width d

  abbrev C : ℕ
  C = chunks (length g.starts - 1)

  abbrev ready : AskedReady a
  ready = asked_ready A d params g U

  abbrev v₀ : Vector A
  v₀ = v0_of A d params g

  abbrev Stands : ℕ → Block A → Lent A → Type 0
  Stands = Standing A d params g U

  abbrev op : Operator A
  op = operator_of A d params g

  -- what a pass leaves: the block that it writes, and the one that it read as current
  module _ (by : Multipliers A) (c q : ℕ) (v w : Block A) (m : Lent A) (lc : c < 3) (lq : q < 3) (S : Stands c v m) (W : HoldsBlock A d params g q w m) where
    pub pass_leaves : Stands (free_block c q) (matvec_combine A op by v w) (whole (λ h x. pass_work A a by c q g h x) C m)
    unfolding fill_op
    pass_leaves =
        standing_block A d params g U (free_block c q) (λ x. matvec_combine A (operator_in A g x) by (held_block A a c x) (held_block A a q x)) (matvec_combine A op by v w) m
        (pass_local A a g by c q lc lq)
        (matvec_cong A d params g U.graph k m S.graph.inverse S.graph.edges by (held_block A a c m) v (held_block A a q m) w S.block W) c v S

    pub pass_keeps : HoldsBlock A d params g c v (whole (λ h x. pass_work A a by c q g h x) C m)
    unfolding fill_op
    pass_keeps i e p l =
        ap (λ (x : Lent A). block_of A.none n k (block_at A c x) i e)
        (whole_is (block_l A (free_block c q)) (own_place n k) A.none (λ h x. number_at n k (matvec_combine A (operator_in A g x) by (held_block A a c x) (held_block A a q x))) C m)
        ∙ ap (λ (x : List A.F). block_of A.none n k x i e) (free_current A c q _ m lc lq) ∙ S.block i e p l

  pub filtering_next : (r i : ℕ) → filtering_at A d params g r (suc i) ≡ later_pass A op (solving_at A d params g r).bound (filtering_at A d params g r i)
  unfolding filtering_at
  filtering_next r i = passes-more A op (solving_at A d params g r).bound i _

  module _ (r : ℕ) (rl : r < params.rounds) (bs : bound_sound A (solving_at A d params g r).bound ≡ true)
      (fl : (solving_at A d params g r).basis.refreshed ≤ r * k) (zl : (solving_at A d params g r).basis.zeroed ≤ r * k) (w : Idle A d params g U) (Q : Base (K A d params g U) → Type 0) where
    abbrev b : A.F
    b = (solving_at A d params g r).bound

    abbrev f : ℕ
    f = (solving_at A d params g r).basis.refreshed

    abbrev z : ℕ
    z = (solving_at A d params g r).basis.zeroed

    -- the passes closed before round r
    abbrev gone : ℕ
    gone = r * (params.degree + 1)

    below : (x : ℕ) → x ≤ r * k → x ≤ params.rounds * k
    below x h = omega (arith, mul-le-mul_right {m = r} {n = params.rounds} k (omega arith))

    passes-below : (j : ℕ) → j ≤ params.degree + 1 → gone + j ≤ params.rounds * (params.degree + 1)
    passes-below j h = omega (arith, mul-le-mul_right {m = suc r} {n = params.rounds} (params.degree + 1) rl, suc-mul r (params.degree + 1))

    fine : (j cur prev : ℕ) (al : A.F) (p : ℕ) → j < params.degree → cur < 3 → prev < 3 → alpha_sound A al ≡ true → p ≡ gone + j → Fine A d params g U r j 0 0 cur prev b al p f z
    fine j cur prev al p l u v s e = record {
      round = rl;
      pass = l;
      column = omega arith;
      attempt = omega arith;
      current = u;
      previous = v;
      bound = bs;
      alpha = s;
      passes = omega (arith, e, passes-below j (omega arith));
      refreshed = below f fl;
      zeroed = below z zl;
    }

    abbrev goes : ℕ → ℕ → ℕ → ℕ → A.F → ℕ → State A
    goes st j cur prev al p = here A d params g U st r j 0 0 cur prev b al p f z w

    -- the state after i + 1 passes: at the next, or at the first column
    abbrev next_at : ℕ → ℕ → ℕ → A.F → ℕ → State A
    next_at j cur prev al p = goes (cond (ltb j params.degree) 5 6) (cond (ltb j params.degree) j 0) cur prev al p

    -- what a pass goes on with: i + 1 passes are closed
    pub record Passed (i cur prev : ℕ) (al : A.F) (p : ℕ) (m : Lent A) : Type 0 where
      pub stands : Stands cur (filtering_at A d params g r i).current m
      pub held : HoldsBlock A d params g prev (filtering_at A d params g r i).previous m
      pub alpha : al ≡ (filtering_at A d params g r i).alpha
      pub unitary : alpha_sound A al ≡ true
      pub current : cur < 3
      pub previous : prev < 3
      pub passes : p ≡ gone + suc i

    Then : ℕ → Type 0
    Then rest = (cur prev : ℕ) (al : A.F) (p : ℕ) (m : Lent A) (i : ℕ) → suc i ≡ params.degree → Passed i cur prev al p m → Leads A d params g U rest (at A d params g U (goes 6 0 cur prev al p) m) Q

    -- a later pass
    not_first : (i : ℕ) → eqb (suc i) 0 ≡ false
    not_first i = ne_eqb (suc i) 0 (λ x. omega arith)

    later_leaves : (i cur prev : ℕ) (al : A.F) (p : ℕ) (m : Lent A) → Passed i cur prev al p m
        → Passed (suc i) (free_block cur prev) cur (next_alpha A b al) (p + 1) (worked A d params g U (goes 5 (suc i) cur prev al p) m)
    unfolding work filter_multipliers later_pass
    later_leaves i cur prev al p m H =
        subst (λ (t : Bool). Passed (suc i) (free_block cur prev) cur (next_alpha A b al) (p + 1) (whole (λ h x. pass_work A a (cond t (first_multipliers A b al) by) cur prev g h x) C m)) (sym (not_first i))
        (record {
          stands = subst (λ (x : Filtering A). Stands (free_block cur prev) x.current y) e
              (subst (λ (x : A.F). Stands (free_block cur prev) (matvec_combine A op (later_multipliers A b x (next_alpha A b x)) F.current F.previous) y) H.alpha
              (pass_leaves by cur prev F.current F.previous m H.current H.previous H.stands H.held));
          held = subst (λ (x : Filtering A). HoldsBlock A d params g cur x.previous y) e
              (pass_keeps by cur prev F.current F.previous m H.current H.previous H.stands H.held);
          alpha = ap (next_alpha A b) H.alpha ∙ ap (λ (x : Filtering A). x.alpha) e;
          unitary = U.steady.alpha-next b al bs H.unitary;
          current = free_below A cur prev H.current H.previous;
          previous = H.current;
          passes = omega (arith, H.passes);
        })
      where
        F : Filtering A
        F = filtering_at A d params g r i

        by : Multipliers A
        by = later_multipliers A b al (next_alpha A b al)

        y : Lent A
        y = whole (λ h x. pass_work A a by cur prev g h x) C m

        e : later_pass A op b F ≡ filtering_at A d params g r (suc i)
        e = sym (filtering_next r i)

    passes-from : (q i cur prev : ℕ) (al : A.F) (p : ℕ) (m : Lent A) (rest : ℕ) → suc i + q ≡ params.degree → Passed i cur prev al p m → Then rest
        → Leads A d params g U (more q rest) (at A d params g U (next_at (suc i) cur prev al p) m) Q
    unfolding closed Then
    passes-from zero i cur prev al p m rest e H next =
        subst (λ (t : Bool). Leads A d params g U rest (at A d params g U (goes (cond t 5 6) (cond t (suc i) 0) cur prev al p) m) Q) (sym (le-ltb (suc i) params.degree (omega arith)))
        (next cur prev al p m i (omega arith) H)
    passes-from (suc q) i cur prev al p m rest e H next =
        subst (λ (t : Bool). Leads A d params g U (suc (more q rest)) (at A d params g U (goes (cond t 5 6) (cond t (suc i) 0) cur prev al p) m) Q) (sym (lt-ltb (suc i) params.degree (omega arith)))
        (on A d params g U 5 r (suc i) 0 0 cur prev b al p f z w m (more q rest) Q (omega arith) (omega arith) (fine (suc i) cur prev al p (omega arith) H.current H.previous H.unitary H.passes) H.stands.lent
        (λ t. H.stands.graph.edges)
        (record { graph = H.stands.graph; current = H.stands.block; previous = H.held; bound = refl; products = λ r' x y. absurd (omega arith) })
        (known A d params g U _ (next_at (suc i + 1) (free_block cur prev) cur (next_alpha A b al) (p + 1)) _ (more q rest) Q
        (ap (λ (t : Bool). next_at (suc i + 1) (free_block cur prev) cur (cond t al (next_alpha A b al)) (p + 1)) (not_first i))
        (subst (λ (j : ℕ). Leads A d params g U (more q rest) (at A d params g U (next_at j (free_block cur prev) cur (next_alpha A b al) (p + 1)) (worked A d params g U (goes 5 (suc i) cur prev al p) m)) Q) (omega arith)
        (passes-from q (suc i) (free_block cur prev) cur (next_alpha A b al) (p + 1) (worked A d params g U (goes 5 (suc i) cur prev al p) m) rest (omega arith) (later_leaves i cur prev al p m H) next))))

    -- the first pass, which takes the current block for both
    first_leaves : (cur : ℕ) (al : A.F) (p : ℕ) (m : Lent A) → cur < 3 → al ≡ first_alpha A b → p ≡ gone → Stands cur (solving_at A d params g r).basis.block m
        → Passed 0 (free_block cur cur) cur al (p + 1) (worked A d params g U (goes 5 0 cur cur al p) m)
    unfolding work filter_multipliers filtering_at passes_from first_pass
    first_leaves cur al p m l e u S =
        let v = (solving_at A d params g r).basis.block in
        record {
          stands = subst (λ (x : A.F). Stands (free_block cur cur) (matvec_combine A op (first_multipliers A b x) v v) (worked A d params g U (goes 5 0 cur cur al p) m)) e
              (pass_leaves (first_multipliers A b al) cur cur v v m l l S S.block);
          held = pass_keeps (first_multipliers A b al) cur cur v v m l l S S.block;
          alpha = e;
          unitary = subst (λ (x : A.F). alpha_sound A x ≡ true) (sym e) (U.steady.alpha-first b bs);
          current = free_below A cur cur l l;
          previous = l;
          passes = omega (arith, u);
        }

    -- the whole filter
    pub filter_from : (cur : ℕ) (al : A.F) (p : ℕ) (m : Lent A) (rest : ℕ) → cur < 3 → al ≡ first_alpha A b → p ≡ gone → Stands cur (solving_at A d params g r).basis.block m
        → ((r' : ℕ) → r ≡ suc r' → HoldsProducts A d params g r' m)
        → ((cur prev : ℕ) (al : A.F) (p : ℕ) (m : Lent A) (i : ℕ) → suc i ≡ params.degree → Passed i cur prev al p m → Leads A d params g U rest (at A d params g U (goes 6 0 cur prev al p) m) Q)
        → Leads A d params g U (suc (more (params.degree - 1) rest)) (at A d params g U (goes 5 0 cur cur al p) m) Q
    unfolding closed Then
    filter_from cur al p m rest l e u S H next =
        on A d params g U 5 r 0 0 0 cur cur b al p f z w m (more (params.degree - 1) rest) Q (omega arith) (omega arith)
        (fine 0 cur cur al p (omega (arith, U.numbers.degree-least)) l l (first_leaves cur al p m l e u S).unitary (omega arith)) S.lent (λ t. S.graph.edges)
        (record { graph = S.graph; current = S.block; previous = S.block; bound = refl; products = λ r' x y. H r' x })
        (passes-from (params.degree - 1) 0 (free_block cur cur) cur al (p + 1) (worked A d params g U (goes 5 0 cur cur al p) m) rest (omega (arith, U.numbers.degree-least))
        (first_leaves cur al p m l e u S) next)
