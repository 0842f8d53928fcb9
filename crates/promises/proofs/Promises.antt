-- THE THEOREMS OF THE RUN: for every accepted request, every opening memory and every list of calls, refused ones among them. Assumes nothing.
use mathlib.Core.Path.{◌≡◌, refl, sym, ap, ap₂, ◌∙◌, subst}
use mathlib.Core.Bool.{Bool, true, false, not, cond, ◌&&◌}
use mathlib.Core.List.{List}
use Prim.Native.Nat.{ℕ, zero, suc, ◌+◌, ◌-◌, ◌*◌, ◌≤◌, ◌<◌}
use native.Mathlib.Omega.{arith}
use borrow.Author.Tests.{eqb-true, eq-eqb, ne_eqb}
use lib.Dec.{eqb, leb, ltb}
use lib.Ieee.{lt, of_bits, binary64}
use lib.ListN.{length, get_or, replicate, get_or-replicate}
use Rattle.definition.specs.Arith.{Arith, is_finite}
use Rattle.definition.specs.ChebyshevRayleighRitz.{first_alpha}
use Rattle.definition.specs.Memory.{wholes_of}
use Rattle.definition.specs.Numbers.{Params, width, chunks, lent_sizes, default_seed_std}
use Rattle.definition.specs.Refusals.{Verdict, given, refused, accepted, passes, test_seed_std, test_request}
use Rattle.definition.specs.Requirements.{Starts}
use Rattle.definition.specs.SpectralEmbedding.{Counts, counts}
use Rattle.input.specs.Valid.{ValidParams, ValidRequest}
use Rattle.input.proofs.Accepted.{request_valid}
use Rattle.held.specs.Calls.{Call, chunk, close, Machine, Base, Conf, opened, finished, iter, full, run, refusal, order, whole}
use Rattle.held.specs.Calls as held
use Rattle.held.specs.Marks.{done, count, cleared, Marked}
use Rattle.held.proofs.Law.{Way, counted, progressed, reached, not_damaged, one_end, canonical, as_canonical, iter_end}
use Rattle.machine.specs.State.{Asked, chunk_count, last_stage, matrix_room, order_room, Lists, State, Lent, asked_of, lengths_of, opened_state, begun_at, empty_state}
use Rattle.machine.specs.Ready.{LentReady}
use Rattle.machine.specs.Ranges.{state_sound, is_open, test_chunk, test_close}
use Rattle.machine.specs.Work.{work}
use Rattle.machine.specs.Calls.{Outcome, outcome, open_by, open_call, chunk_call, close_call, chunk_by, close_by}
use Rattle.machine.proofs.Own.{both}
use Rattle.machine.proofs.Record.{work-record}
use Rattle.ready.proofs.Tested.{state_ready, state-sound}
use Rattle.ready.proofs.Ready.{chunk_15, close_15, shut_for_chunk, shut_for_close}
use Rattle.promises.specs.Run.{Steady, machine_of, graph_in}
use Rattle.promises.specs.Shows.{Shows, ShowsSeed, ShowsEnd}
use Rattle.promises.specs.Promises.{Untouched, call_on, called, accepted_of, has_ended, Accepted, after, stages_of, opened_at, stages_on, rounds_closed, Recorded, Standing, upward_order}
use Rattle.promises.proofs.Calls.{Follows, run_follows, run-counts, refusal_is}
use Rattle.promises.proofs.Fits.{Fit, fits}
use Rattle.promises.proofs.Here.{Sure}
use Rattle.promises.proofs.Stages.{stages, stages_are, meets}
use Rattle.promises.proofs.Record.{says_same, says_way, says-opened}
use Rattle.promises.proofs.Untouched.{put_record, work-untouched, whole_below, parts_below}

-- the seed_std of a valid request passes its test
seed-passes : (p : Params) → ValidParams p → passes (test_seed_std p.seed_std) ≡ true
unfolding test_seed_std
seed-passes p h = ap (λ (b : Bool). passes (given (not b) 10 0)) (both (lt (of_bits binary64 0) p.seed_std) (is_finite p.seed_std) h.positive h.finite)

module _ (A : Arith) (steady : Steady A) (d : ℕ) (params : Params) (g : Lists A) (m : Lent A) (marks : List ℕ) (ok : Accepted A d params g m marks) where
  abbrev pub K : Machine
  K = machine_of A g

  pub valid : ValidRequest A d params g.starts g.columns g.values (wholes_of (lengths_of A m marks))
  valid = request_valid A g.starts g.columns g.values d params (wholes_of (lengths_of A m marks)) ok

  pub sure : Sure A d params g
  sure = record {
    dims-least = valid.dims-least;
    dims-most = valid.dims-most;
    graph = valid.graph;
    numbers = valid.params;
    seed = seed-passes params valid.params;
    steady = steady;
  }

  pub lent_ready : LentReady A (asked_of A d params g) m
  unfolding lent_sizes
  lent_ready = record {
    lists = record {
      inverse = valid.enough 0 (omega arith);
      v0 = valid.enough 1 (omega arith);
      edge_columns = valid.enough 2 (omega arith);
      edge_weights = valid.enough 3 (omega arith);
      block0 = valid.enough 4 (omega arith);
      block1 = valid.enough 5 (omega arith);
      block2 = valid.enough 6 (omega arith);
      partials = valid.enough 7 (omega arith);
      output = valid.enough 9 (omega arith);
    };
    ritz_record = valid.enough 10 (omega arith);
  }

  pub marks-enough : K.chunks ≤ length marks
  unfolding lent_sizes
  marks-enough = valid.enough 8 (omega arith)

  -- ---- the run as a way of stages
  abbrev pub start : Base K
  start = opened_at A d params g m

  pub end : Base K
  end = (meets A d params g sure m lent_ready).at

  pub way : Way K (Fit A d params g) (Shows A d params g) (stages A d params g sure) start end
  unfolding end
  way = (meets A d params g sure m lent_ready).way

  end_seed : ShowsSeed A d params g end.state end.mem
  unfolding end
  end_seed = (meets A d params g sure m lent_ready).holds

  pub opening : Follows A d params g (opened K start marks) (open_call A d params g m marks)
  unfolding opened open_call opened_state begun_at
  opening =
      subst (λ (b : Bool). Follows A d params g (opened K start marks) (cond b (outcome A accepted (opened_state A d params g) m (cleared K.chunks marks)) (outcome A (test_request A d params g.starts g.columns g.values (wholes_of (lengths_of A m marks))) (empty_state A) m marks)))
      (sym (ap (λ (x : ℕ). eqb x 0) ok)) (record { state = refl; lent = refl; marks = refl; asks = refl })

  -- what lies behind the sizes in use, after any stages
  pub way_fit : (n : ℕ) (a b : Base K) → Way K (Fit A d params g) (Shows A d params g) n a b → Fit A d params g a.state a.mem
  way_fit zero a b w = w.1
  way_fit (suc n) a b w = w.1

  abbrev Behind : Lent A → Type 0
  Behind x = Untouched A (asked_of A d params g) m x

  behind-work : (s : State A) (x : Lent A) → Fit A d params g s x → (h : ℕ) (y : Lent A) → h < K.chunks → Behind y → Behind (work A s g h y)
  behind-work s x F h y l T =
      subst (λ (a : Asked). Untouched A a m (work A s g h y)) F.asks
      (work-untouched A m s g (state_ready A s F.state) (subst (λ (a : Asked). Starts g.starts 0 a.rows a.entries) (sym F.asks) valid.graph.rising) h y
      (subst (λ (a : Asked). h < chunk_count a) (sym F.asks) l) (subst (λ (a : Asked). Untouched A a m y) (sym F.asks) T))

  behind_way : (n : ℕ) (a b : Base K) → Way K (Fit A d params g) (Shows A d params g) n a b → Behind a.mem → (p : ℕ) → p ≤ n → Behind (iter K p a).mem × Fit A d params g (iter K p a).state (iter K p a).mem
  unfolding iter held.stage full
  behind_way n a b w T zero l = (T, way_fit n a b w)
  behind_way zero a b w T (suc p) l = absurd (omega arith)
  behind_way (suc n) a b w T (suc p) l =
      behind_way n (held.stage K a) b w.3 (put_record A m (asked_of A d params g) _ (whole_below (λ h y. work A a.state g h y) Behind K.chunks (λ h y q t. behind-work a.state a.mem w.1 h y q t) a.mem T) _) p (omega arith)

  itself : Behind m
  itself = record { inverse = λ p l. refl; v0 = λ p l. refl; edge_columns = λ p l. refl; edge_weights = λ p l. refl; block0 = λ p l. refl; block1 = λ p l. refl; block2 = λ p l. refl; partials = λ p l. refl; output = λ p l. refl }

  -- the Ritz record after any stages, and at the end, where all rounds are closed
  abbrev Says : State A → Lent A → Type 0
  Says = Recorded A d params g m

  says_at : (p : ℕ) → p ≤ stages A d params g sure → Says (iter K p start).state (iter K p start).mem
  says_at = says_way A d params g sure m (stages A d params g sure) start end way (says-opened A d params g sure m)

  way_last : (n : ℕ) (a b : Base K) → Way K (Fit A d params g) (Shows A d params g) n a b → (iter K n a ≡ b) × (K.over b.state ≡ true) × Fit A d params g b.state b.mem
  unfolding iter
  way_last zero a b w = (w.3, subst (λ (x : Base K). K.over x.state ≡ true) w.3 w.0, subst (λ (x : Base K). Fit A d params g x.state x.mem) w.3 w.1)
  way_last (suc n) a b w = way_last n (held.stage K a) b w.3

  all_closed : (s : State A) → s.progress.stage ≡ last_stage → s.asked ≡ asked_of A d params g → rounds_closed A s ≡ params.rounds
  unfolding rounds_closed
  all_closed s e q = ap (λ (x : ℕ). cond (ltb 14 x) s.asked.rounds s.progress.round) e ∙ ap (λ (a : Asked). a.rounds) q

  pub end_shows : ShowsEnd A d params g end.state end.mem
  end_shows =
      let w = way_last (stages A d params g sure) start end way in
      let R = subst (λ (b : Base K). Says b.state b.mem) w.0 (says_at (stages A d params g sure) (omega arith)) in
      let e = all_closed end.state (eqb-true end.state.progress.stage last_stage w.1) w.2.asks in
      record { seed = end_seed.seed; counts = end_seed.counts; ritz = λ q j l u. R.rounds q j (omega arith) u }

  pub over-is : (s : State A) → has_ended A s → K.over s ≡ true
  over-is s e = eq-eqb s.progress.stage last_stage e

  pub is-over : (s : State A) → K.over s ≡ true → has_ended A s
  is-over s e = eqb-true s.progress.stage last_stage e

  module _ (ks : List Call) where
    abbrev now : Outcome A
    now = after A d params g m marks ks

    abbrev conf : Conf K
    conf = run K ks (opened K start marks)

    pub follows : Follows A d params g conf now
    follows = run_follows A d params g ks (opened K start marks) (open_call A d params g m marks) opening

    -- the stages closed, and what the general law says of the run there
    there : (p : ℕ) × (p ≤ stages A d params g sure) × held.Seen K start marks p conf × Shows A d params g (iter K p start)
    there = progressed K (Fit A d params g) (Shows A d params g) (fits A d params g valid.graph) start marks (stages A d params g sure) end way marks-enough ks

    -- 1: the state and the memory are the definition's for exactly the chunks done; each list shows what the definition says as the stage began
    pub stands : Standing A d params g m now
    stands = record {
      closed = there.0;
      within = omega (arith, there.1, stages_are A d params g sure);
      state = sym follows.state ∙ there.2.state;
      lent = sym follows.lent ∙ there.2.mem ∙ ap (λ (l : List ℕ). held.mem_at K (iter K there.0 start).state (iter K there.0 start).mem (done l)) follows.marks;
      shows = there.3;
      recorded =
          let s = iter K there.0 start in
          says_same A d params g sure m s.state now.state s.mem now.lent (ap (rounds_closed A) (sym follows.state ∙ there.2.state))
          (ap (λ (x : Lent A). x.ritz_record) (sym follows.lent ∙ there.2.mem)
          ∙ parts_below (λ h y. work A s.state g h y) (λ x. x.ritz_record ≡ s.mem.ritz_record) (done conf.marks) K.chunks (λ h y q t. work-record A s.state g h y ∙ t) s.mem refl)
          (says_at there.0 there.1);
    }

    -- only the run has changed the marks; and the chunks done are calls accepted
    pub marked : Marked K.chunks marks now.marks
    marked = subst (Marked K.chunks marks) follows.marks there.2.marks

    pub so_far : accepted_of A g ks (open_call A d params g m marks) ≡ stands.closed * suc K.chunks + count (done now.marks) K.chunks
    unfolding opened stands
    so_far =
        run-counts A d params g ks (opened K start marks) (open_call A d params g m marks) opening
        ∙ (let u : conf.calls ≡ 0 + held.accepted K ks (opened K start marks) = counted K ks (opened K start marks) in omega (arith, u, there.2.calls))
        ∙ ap (λ (l : List ℕ). there.0 * suc K.chunks + count (done l) K.chunks) follows.marks

    -- and what lies behind the sizes in use is untouched
    pub untouched : Untouched A (asked_of A d params g) m now.lent
    untouched =
        let s = stands in
        let b = behind_way (stages A d params g sure) start end way itself s.closed (omega (arith, s.within, stages_are A d params g sure)) in
        subst Behind (sym s.lent) (parts_below (λ h y. work A (iter K s.closed start).state g h y) Behind _ K.chunks
        (λ h y q t. behind-work (iter K s.closed start).state (iter K s.closed start).mem b.1 h y q t) (iter K s.closed start).mem b.0)

    -- 2: a run that has ended equals the upward order's, in state and every list
    pub same_end : has_ended A now.state → (up : List Call) → up ≡ upward_order A d params g
        → (now.state ≡ (after A d params g m marks up).state) × (now.lent ≡ (after A d params g m marks up).lent) × (now.marks ≡ (after A d params g m marks up).marks)
    same_end e up q =
        let z = as_canonical K (Fit A d params g) (Shows A d params g) (fits A d params g valid.graph) start marks (stages A d params g sure) end way marks-enough ks (over-is conf.state (ap (λ (s : State A). s.progress.stage) follows.state ∙ e)) in
        let f = run_follows A d params g up (opened K start marks) (open_call A d params g m marks) opening in
        let r : conf ≡ run K up (opened K start marks) = z ∙ ap (λ (x : List Call). run K x (opened K start marks)) (ap (order K.chunks) (stages_are A d params g sure) ∙ sym q) in (
          sym follows.state ∙ ap (λ (c : Conf K). c.state) r ∙ f.state,
          sym follows.lent ∙ ap (λ (c : Conf K). c.mem) r ∙ f.lent,
          sym follows.marks ∙ ap (λ (c : Conf K). c.marks) r ∙ f.marks,
        )

    ended : has_ended A now.state → conf ≡ finished K marks (stages A d params g sure) end
    ended e = one_end K (Fit A d params g) (Shows A d params g) (fits A d params g valid.graph) start marks (stages A d params g sure) end way marks-enough ks (over-is conf.state (ap (λ (s : State A). s.progress.stage) follows.state ∙ e))

    -- 3: it took as many accepted calls as document 01 gives
    pub calls_are : has_ended A now.state → accepted_of A g ks (open_call A d params g m marks) ≡ stages_of A d params g * suc K.chunks
    unfolding finished opened
    calls_are e =
        run-counts A d params g ks (opened K start marks) (open_call A d params g m marks) opening
        ∙ (let u : conf.calls ≡ 0 + held.accepted K ks (opened K start marks) = counted K ks (opened K start marks) in
        let z : conf ≡ finished K marks (stages A d params g sure) end = ended e in
        omega (arith, u, ap (λ (c : Conf K). c.calls) z))
        ∙ ap (λ (x : ℕ). x * suc K.chunks) (stages_are A d params g sure)

    -- 4: the output is the seed, and the counts and the Ritz record are the definition's
    pub ends : has_ended A now.state → ShowsEnd A d params g now.state now.lent
    unfolding finished
    ends e =
        let z : conf ≡ finished K marks (stages A d params g sure) end = ended e in
        subst (λ (s : State A). ShowsEnd A d params g s now.lent) (sym (ap (λ (c : Conf K). c.state) z) ∙ follows.state)
        (subst (λ (l : Lent A). ShowsEnd A d params g end.state l) (sym (ap (λ (c : Conf K). c.mem) z) ∙ follows.lent) end_shows)

    pub passes_are : has_ended A now.state → now.state.counts.passes ≡ params.rounds * (params.degree + 1)
    unfolding counts
    passes_are e = ap (λ (c : Counts). c.passes) (ends e).counts

    -- 5: 16 is never met
    pub never_16 : (k : Call) → K.refuse k now.state now.lent now.marks ≡ 16 → ⊥
    never_16 k e =
        let s = reached K (Fit A d params g) (Shows A d params g) (fits A d params g valid.graph) start marks (stages A d params g sure) end way marks-enough ks in
        not_damaged K (Fit A d params g) (Shows A d params g) (fits A d params g valid.graph) start marks (stages A d params g sure) end s.0 s.1 s.2 conf k s.3
        (sym (refusal_is A d params g k conf now follows) ∙ e)

  -- 6: the upward order ends, so some list of calls does
  pub some_end : has_ended A (after A d params g m marks (upward_order A d params g)).state
  some_end =
      let f = run_follows A d params g (upward_order A d params g) (opened K start marks) (open_call A d params g m marks) opening in
      let c = canonical K (Fit A d params g) (Shows A d params g) (fits A d params g valid.graph) start marks (stages A d params g sure) end way marks-enough in
      is-over (after A d params g m marks (upward_order A d params g)).state
      (ap K.over (sym f.state) ∙ ap (λ (x : ℕ). K.over (run K (order K.chunks x) (opened K start marks)).state) (sym (stages_are A d params g sure)) ∙ c)
