-- The Ritz record: after each stage the rounds whose products have closed hold the definition's numbers, and every place behind them is as it was lent. Assumes nothing.
use mathlib.Core.Path.{◌≡◌, refl, sym, ap, ap₂, ◌∙◌, subst}
use mathlib.Core.Bool.{Bool, true, false, not, cond, false≢true}
use mathlib.Core.List.{List}
use Prim.Native.Nat.{ℕ, zero, suc, ◌+◌, ◌-◌, ◌*◌, ◌≤◌, ◌<◌}
use native.Mathlib.Nat.{mul-le-mul_right, suc-mul}
use native.Mathlib.Omega.{arith}
use borrow.Author.Tests.{eqb-true, eqb-false, eq-eqb, not-false, ltb-true, ltb-false}
use lib.Dec.{eqb, ltb}
use lib.ListN.{length, get_or}
use Rattle.definition.specs.Arith.{Arith}
use Rattle.definition.specs.ChebyshevRayleighRitz.{round_record, record_at, round_eigen, products, plain_multipliers}
use Rattle.definition.specs.ChunkedColumnReduce.{Block}
use Rattle.definition.specs.MatvecCombine.{matvec_combine}
use Rattle.definition.specs.Memory.{vector_of, fill_range}
use Rattle.definition.specs.Numbers.{Params, width, chunks}
use Rattle.definition.specs.OrthonormalizeBlock.{Ending, kept, refreshed, zeroed}
use Rattle.definition.specs.Refusals.{first_from}
use Rattle.definition.specs.SpectralEmbedding.{ritz_record}
use Rattle.definition.proofs.Fill.{split, fill_length, fill_in, fill_low, fill_high}
use Rattle.definition.proofs.First.{first-all}
use Rattle.held.specs.Calls.{Machine, Base, iter, whole}
use Rattle.held.specs.Calls as held
use Rattle.held.proofs.Law.{Way}
use Rattle.machine.specs.State.{Stage, stage_of, Asked, wide, last_stage, Lists, State, Lent, asked_of, with_record, begun_at, opened_state}
use Rattle.machine.specs.State as stage
use Rattle.machine.specs.Work.{ending_in, products_work, work_by, work}
use Rattle.machine.specs.Closing.{totals_of, symmetric_in, eigen_matrix, order_in, after_write, after_round, closed_by, closed, recorded, round_recorded, record_after, tidied}
use Rattle.machine.proofs.Record.{whole-record}
use Rattle.ready.proofs.Tested.{state_ready}
use Rattle.promises.specs.Run.{machine_of, graph_in, operator_of, solving_at, round_block}
use Rattle.promises.specs.Shows.{Shows, shows_by, ShowsPlain}
use Rattle.promises.specs.Promises.{rounds_closed, Recorded}
use Rattle.promises.proofs.Fits.{Fit}
use Rattle.promises.proofs.Here.{Sure, Standing}
use Rattle.promises.proofs.Ritz.{products_agree, totals-length, value-at}

-- ---- a stage has one number
numbered : Stage → ℕ
numbered stage.empty = 0
numbered stage.degrees = 1
numbered stage.edges = 2
numbered stage.v0 = 3
numbered stage.start_block = 4
numbered stage.filter_pass = 5
numbered stage.norm_before = 6
numbered stage.first_dots = 7
numbered stage.first_subtract = 8
numbered stage.second_dots = 9
numbered stage.second_subtract = 10
numbered stage.norm_after = 11
numbered stage.write = 12
numbered stage.plain_pass = 13
numbered stage.products = 14
numbered stage.rotate = 15
numbered stage.sums = 16
numbered stage.centre = 17
numbered stage.squares = 18
numbered stage.scale = 19
numbered stage.ended = 20

stage-number : (n : ℕ) → n ≤ last_stage → numbered (stage_of n) ≡ n
unfolding numbered first_from
stage-number n l =
    eqb-true (numbered (stage_of n)) n
    (not-false (eqb (numbered (stage_of n)) n) (first-all (λ i. not (eqb (numbered (stage_of i)) i)) 0 21 n (omega arith) (omega arith) (omega arith)))

other_stage : (n : ℕ) (st : Stage) → n ≤ last_stage → (n ≡ numbered st → ⊥) → stage_of n ≡ st → ⊥
other_stage n st l f e = f (sym (stage-number n l) ∙ ap numbered e)

module _ (A : Arith) where
  -- ---- a filter pass and a column's end stay within the round
  filter_round : (b : Bool) (rounds round : ℕ) → cond (ltb 14 (cond b 5 6)) rounds round ≡ round
  filter_round true rounds round = refl
  filter_round false rounds round = refl

  next-round : (b : Bool) (rounds round : ℕ) → cond (ltb 14 (cond b 6 13)) rounds round ≡ round
  next-round true rounds round = refl
  next-round false rounds round = refl

  column-round : (e : Ending A) (s : State A) → cond (ltb 14 (after_write A e s.asked s.progress).stage) s.asked.rounds (after_write A e s.asked s.progress).round ≡ s.progress.round
  column-round (kept norm) s = next-round (ltb (s.progress.column + 1) (wide s.asked)) s.asked.rounds s.progress.round
  column-round refreshed s = refl
  column-round zeroed s = next-round (ltb (s.progress.column + 1) (wide s.asked)) s.asked.rounds s.progress.round

  -- every closing but the products' leaves the rounds that are closed
  rounds-by : (st : Stage) (s : State A) (roots partials : List A.F) → (st ≡ stage.products → ⊥) → (st ≡ stage.empty → ⊥) → (st ≡ stage.ended → ⊥)
      → cond (ltb 14 (closed_by A st s roots partials).progress.stage) (closed_by A st s roots partials).asked.rounds (closed_by A st s roots partials).progress.round
      ≡ cond (ltb 14 (numbered st)) s.asked.rounds s.progress.round
  unfolding numbered
  rounds-by stage.empty s v m p e f = absurd (e refl)
  rounds-by stage.degrees s v m p e f = refl
  rounds-by stage.edges s v m p e f = refl
  rounds-by stage.v0 s v m p e f = refl
  rounds-by stage.start_block s v m p e f = refl
  rounds-by stage.filter_pass s v m p e f = filter_round (ltb (s.progress.pass + 1) s.asked.degree) s.asked.rounds s.progress.round
  rounds-by stage.norm_before s v m p e f = refl
  rounds-by stage.first_dots s v m p e f = refl
  rounds-by stage.first_subtract s v m p e f = refl
  rounds-by stage.second_dots s v m p e f = refl
  rounds-by stage.second_subtract s v m p e f = refl
  rounds-by stage.norm_after s v m p e f = refl
  rounds-by stage.write s v m p e f = column-round (ending_in A s.progress) s
  rounds-by stage.plain_pass s v m p e f = refl
  rounds-by stage.products s v m p e f = absurd (p refl)
  rounds-by stage.rotate s v m p e f = refl
  rounds-by stage.sums s v m p e f = refl
  rounds-by stage.centre s v m p e f = refl
  rounds-by stage.squares s v m p e f = refl
  rounds-by stage.scale s v m p e f = refl
  rounds-by stage.ended s v m p e f = absurd (f refl)

  rounds-same : (s : State A) (m : Lent A) → 1 ≤ s.progress.stage → s.progress.stage < last_stage → (s.progress.stage ≡ 14 → ⊥) → rounds_closed A (closed A s m) ≡ rounds_closed A s
  unfolding rounds_closed closed numbered
  rounds-same s m l u f =
      rounds-by (stage_of s.progress.stage) s m.v0 m.partials
      (other_stage s.progress.stage stage.products (omega arith) f)
      (other_stage s.progress.stage stage.empty (omega arith) (λ e. omega arith))
      (other_stage s.progress.stage stage.ended (omega arith) (λ e. omega arith))
      ∙ ap (λ (n : ℕ). cond (ltb 14 n) s.asked.rounds s.progress.round) (stage-number s.progress.stage (omega arith))

  -- the products' closing ends a round
  products-closed : (s : State A) (m : Lent A) → s.progress.stage ≡ 14 → closed A s m ≡ after_round A s m.partials
  unfolding closed
  products-closed s m e = ap (λ (n : ℕ). closed_by A (stage_of n) s m.v0 m.partials) e

  rounds-here : (s : State A) → s.progress.stage ≡ 14 → rounds_closed A s ≡ s.progress.round
  unfolding rounds_closed
  rounds-here s e = ap (λ (n : ℕ). cond (ltb 14 n) s.asked.rounds s.progress.round) e

  rounds-more : (s : State A) (m : Lent A) → s.progress.stage ≡ 14 → s.progress.round < s.asked.rounds → rounds_closed A (closed A s m) ≡ s.progress.round + 1
  unfolding rounds_closed after_round
  rounds-more s m e l = ap (rounds_closed A) (products-closed s m e) ∙ go (ltb (s.progress.round + 1) s.asked.rounds) refl
    where
      go : (b : Bool) → ltb (s.progress.round + 1) s.asked.rounds ≡ b
          → cond (ltb 14 (cond b 5 15)) s.asked.rounds (cond b (s.progress.round + 1) s.progress.round) ≡ s.progress.round + 1
      go true z = refl
      go false z = omega (arith, ltb-false (s.progress.round + 1) s.asked.rounds z)

module _ (A : Arith) (d : ℕ) (params : Params) (g : Lists A) (U : Sure A d params g) where
  abbrev a : Asked
  a = asked_of A d params g

  abbrev k : ℕ
  k = width d

  abbrev C : ℕ
  C = chunks (length g.starts - 1)

  abbrev K : Machine
  K = machine_of A g

  -- ---- what the products' closing writes
  module _ (s : State A) (m : Lent A) (F : Fit A d params g s m) (at : s.progress.stage ≡ 14) (P : ShowsPlain A d params g s m) where
    abbrev after : Lent A
    after = whole (λ h x. work A s g h x) C m

    -- the matrix that closing gives the state, by what was asked
    abbrev matrix_of : Asked → List A.F → List A.F
    matrix_of q partials = eigen_matrix A (wide q) (symmetric_in A (wide q) (totals_of A q (wide q * wide q) partials))

    abbrev numbers : Asked → List A.F → ℕ → A.F
    numbers q partials = recorded A (wide q) s.progress.bound (matrix_of q partials) (order_in A (wide q) (matrix_of q partials))

    abbrev plain : Lent A
    plain = whole (λ h x. products_work A a s.progress h x) C m

    worked_plain : after ≡ plain
    unfolding work
    worked_plain =
        ap (λ (n : ℕ). whole (λ h x. work_by A (stage_of n) s g h x) C m) at
        ∙ ap (λ (q : Asked). whole (λ h x. products_work A q s.progress h x) C m) F.asks

    abbrev block : Block A
    block = round_block A d params g s.progress.round

    abbrev image : Block A
    image = matvec_combine A (operator_of A d params g) (plain_multipliers A) block block

    stands : Standing A d params g U s.progress.current block m
    stands = record { graph = P.basis.graph; lent = F.lent; block = P.basis.current }

    number_is : (j : ℕ) → j < k + 1 → numbers a plain.partials j ≡ ritz_record A d params (graph_in A g) s.progress.round j
    unfolding recorded ritz_record record_at round_record round_eigen round_block solving_at
    number_is zero l = P.bound
    number_is (suc j) l =
        value-at A d params g U (totals_of A a (k * k) plain.partials) (products A (length g.starts - 1) block image) (totals-length A d params g U (k * k) plain.partials)
        (products_agree A d params g U s.progress block image m stands P.plain) j (omega arith)

    pub written : (j : ℕ) → j < k + 1
        → recorded A (wide s.asked) s.progress.bound (closed A s after).matrix (closed A s after).order j ≡ ritz_record A d params (graph_in A g) s.progress.round j
    unfolding after_round
    written j l =
        ap (λ (c : State A). recorded A (wide s.asked) s.progress.bound c.matrix c.order j) (products-closed A s after at)
        ∙ ap (λ (x : Lent A). numbers s.asked x.partials j) worked_plain
        ∙ ap (λ (q : Asked). numbers q plain.partials j) F.asks
        ∙ number_is j l

  module _ (m₀ : Lent A) where
    abbrev Says : State A → Lent A → Type 0
    Says = Recorded A d params g m₀

    -- another state with as many rounds closed, and the same record
    pub says_same : (s s' : State A) (m m' : Lent A) → rounds_closed A s' ≡ rounds_closed A s → m'.ritz_record ≡ m.ritz_record → Says s m → Says s' m'
    says_same s s' m m' e f R = record {
      rounds = λ q j l u. ap (λ (x : List A.F). vector_of A.none x (q * (k + 1) + j)) f ∙ R.rounds q j (omega arith) u;
      rest = λ p l. ap (λ (x : List A.F). get_or x p A.none) f ∙ R.rest p (subst (λ (x : ℕ). x * (k + 1) ≤ p) e l);
      long = ap length f ∙ R.long;
    }

    -- a round more
    says-more : (s s' : State A) (m m' : Lent A) (r : ℕ) (f : ℕ → A.F) → rounds_closed A s ≡ r → rounds_closed A s' ≡ r + 1 → (r + 1) * (k + 1) ≤ length m.ritz_record
        → ((j : ℕ) → j < k + 1 → f (r * (k + 1) + j) ≡ ritz_record A d params (graph_in A g) r j)
        → m'.ritz_record ≡ fill_range (r * (k + 1)) (r * (k + 1) + (k + 1)) f m.ritz_record → Says s m → Says s' m'
    says-more s s' m m' r f e e' room right w R = record {
      rounds = λ q j l u. ap (λ (x : List A.F). get_or x (q * (k + 1) + j) A.none) w ∙
          split q r
          (λ t. fill_low _ _ f m.ritz_record (q * (k + 1) + j) A.none (omega (arith, mul-le-mul_right {m = suc q} {n = r} (k + 1) t, suc-mul q (k + 1)))
          ∙ R.rounds q j (omega arith) u)
          (λ t. let z : q ≡ r = omega arith in
          rw z (fill_in _ _ f m.ritz_record (r * (k + 1) + j) A.none (omega arith) (omega arith) (omega (arith, suc-mul r (k + 1))) ∙ right j u));
      rest = λ p l. let t : (r + 1) * (k + 1) ≤ p = subst (λ (x : ℕ). x * (k + 1) ≤ p) e' l in
          ap (λ (x : List A.F). get_or x p A.none) w
          ∙ fill_high _ _ f m.ritz_record p A.none (omega (arith, suc-mul r (k + 1)))
          ∙ R.rest p (subst (λ (x : ℕ). x * (k + 1) ≤ p) (sym e) (omega (arith, suc-mul r (k + 1))));
      long = ap length w ∙ fill_length _ _ f m.ritz_record ∙ R.long;
    }

    -- ---- a stage on
    module _ (s : State A) (m : Lent A) (F : Fit A d params g s m) (R : Says s m) where
      abbrev full : Lent A
      full = whole (λ h x. work A s g h x) C m

      abbrev next : State A
      next = closed A s full

      -- the memory as closing leaves it, where the test for the products answers b
      abbrev left : Bool → Lent A
      left b = with_record A (cond b (round_recorded A (wide s.asked) s.progress.round s.progress.bound next.matrix next.order full.ritz_record) full.ritz_record) full

      abbrev number : ℕ → A.F
      number = recorded A (wide s.asked) s.progress.bound next.matrix next.order

      says-products : s.progress.stage ≡ 14 → ShowsPlain A d params g s m → Says next (left true)
      unfolding round_recorded
      says-products e P =
          let T = state_ready A s F.state in
          let fewer : s.progress.round + 1 ≤ params.rounds = omega (arith, T.progress.round, ap (λ (q : Asked). q.rounds) F.asks) in
          let begins = s.progress.round * (k + 1) in
          says-more s next m (left true) s.progress.round (λ p. number (p - begins)) (rounds-here A s e) (rounds-more A s full e T.progress.round)
          (omega (arith, F.lent.ritz_record, mul-le-mul_right {m = s.progress.round + 1} {n = params.rounds} (k + 1) fewer))
          (λ j l. ap number (let z : begins + j - begins ≡ j = omega arith in z) ∙ written s m F e P j l)
          (ap₂ (λ (w : ℕ) (l : List A.F). fill_range (s.progress.round * (w + 1)) (s.progress.round * (w + 1) + (w + 1)) (λ p. number (p - s.progress.round * (w + 1))) l)
          (ap wide F.asks) (whole-record A s g C m)) R

      says_other : (s.progress.stage ≡ 14 → ⊥) → s.progress.stage < last_stage → Says next full
      says_other f u = says_same s next m full (rounds-same A s full F.begun u f) (whole-record A s g C m) R

      pub says-stage : eqb s.progress.stage last_stage ≡ false → Shows A d params g (record { state = s; mem = m }) → Says next (tidied A s full)
      says-stage o S = go (eqb s.progress.stage 14) refl
        where
          below : (x : ℕ) → x ≤ 20 → (x ≡ 20 → ⊥) → x < 20
          below x p q = omega arith

          go : (b : Bool) → eqb s.progress.stage 14 ≡ b → Says next (left (eqb s.progress.stage 14))
          go true z =
              let e : s.progress.stage ≡ 14 = eqb-true s.progress.stage 14 z in
              subst (λ (b : Bool). Says next (left b)) (sym z) (says-products e (subst (λ (n : ℕ). shows_by A d params g (stage_of n) s m) e S))
          go false z =
              subst (λ (b : Bool). Says next (left b)) (sym z)
              (says_other (eqb-false s.progress.stage 14 z) (below s.progress.stage F.last (eqb-false s.progress.stage last_stage o)))

    -- any stages on
    pub says_way : (n : ℕ) (b e : Base K) → Way K (Fit A d params g) (Shows A d params g) n b e → Says b.state b.mem → (p : ℕ) → p ≤ n → Says (iter K p b).state (iter K p b).mem
    unfolding iter held.stage held.full
    says_way n b e w R zero l = R
    says_way zero b e w R (suc p) l = absurd (omega arith)
    says_way (suc n) b e w R (suc p) l = says_way n (held.stage K b) e w.3 (says-stage b.state b.mem w.1 R w.0 w.2) p (omega arith)

    -- as the run opens: no round is closed
    pub says-opened : Says (opened_state A d params g) m₀
    unfolding rounds_closed opened_state begun_at
    says-opened = record { rounds = λ q j l u. absurd (omega arith); rest = λ p l. refl; long = refl }
