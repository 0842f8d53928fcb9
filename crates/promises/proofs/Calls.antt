-- The calls on outcomes are the machine's steps: state, lent memory, marks, and which calls are accepted. Assumes nothing.
use mathlib.Core.Path.{◌≡◌, refl, sym, ap, ap₂, ◌∙◌, subst}
use mathlib.Core.Bool.{Bool, true, false, cond}
use mathlib.Core.List.{List, [], ◌∷◌}
use Prim.Native.Nat.{ℕ, zero, suc, ◌+◌, ◌-◌, ◌≤◌, ◌<◌}
use native.Mathlib.Omega.{arith}
use borrow.Author.Tests.{ne_eqb}
use lib.Dec.{eqb}
use lib.ListN.{length, set}
use Rattle.definition.specs.Arith.{Arith}
use Rattle.definition.specs.Numbers.{Params, chunks}
use Rattle.definition.specs.Refusals.{Verdict, accepted, passes}
use Rattle.held.specs.Calls.{Call, chunk, close, Machine, Conf, one, accept, step_by, refusal, step, run}
use Rattle.held.specs.Calls as held
use Rattle.held.specs.Marks.{cleared}
use Rattle.machine.specs.State.{Stage, stage_of, Asked, chunk_count, Lists, State, Lent, asked_of}
use Rattle.machine.specs.State as stage
use Rattle.machine.specs.Ranges.{test_chunk, test_close}
use Rattle.machine.specs.Work.{work}
use Rattle.machine.specs.Closing.{closed_by, closed, tidied, after_round}
use Rattle.machine.specs.Calls.{Outcome, outcome, chunk_by, close_by, chunk_call, close_call}
use Rattle.promises.specs.Run.{machine_of}
use Rattle.promises.specs.Promises.{call_on, called, accepted_of}

-- a numbered refusal
refused-number : (x : ℕ) → eqb (suc x) 0 ≡ false
refused-number x = ne_eqb (suc x) 0 (λ e. omega arith)

module _ (A : Arith) where
  -- closing keeps what was asked
  asked_by : (st : Stage) (s : State A) (roots partials : List A.F) → (closed_by A st s roots partials).asked ≡ s.asked
  unfolding after_round
  asked_by stage.empty s v m = refl
  asked_by stage.degrees s v m = refl
  asked_by stage.edges s v m = refl
  asked_by stage.v0 s v m = refl
  asked_by stage.start_block s v m = refl
  asked_by stage.filter_pass s v m = refl
  asked_by stage.norm_before s v m = refl
  asked_by stage.first_dots s v m = refl
  asked_by stage.first_subtract s v m = refl
  asked_by stage.second_dots s v m = refl
  asked_by stage.second_subtract s v m = refl
  asked_by stage.norm_after s v m = refl
  asked_by stage.write s v m = refl
  asked_by stage.plain_pass s v m = refl
  asked_by stage.products s v m = refl
  asked_by stage.rotate s v m = refl
  asked_by stage.sums s v m = refl
  asked_by stage.centre s v m = refl
  asked_by stage.squares s v m = refl
  asked_by stage.scale s v m = refl
  asked_by stage.ended s v m = refl

  pub asked-kept : (s : State A) (m : Lent A) → (closed A s m).asked ≡ s.asked
  unfolding closed
  asked-kept s m = asked_by (stage_of s.progress.stage) s m.v0 m.partials

  module _ (d : ℕ) (params : Params) (g : Lists A) where
    abbrev K : Machine
    K = machine_of A g

    -- the machine's configuration is the outcome
    pub record Follows (c : Conf K) (o : Outcome A) : Type 0 where
      pub state : c.state ≡ o.state
      pub lent : c.mem ≡ o.lent
      pub marks : c.marks ≡ o.marks
      pub asks : c.state.asked ≡ asked_of A d params g

    -- a call taken or refused, by its verdict's number x
    record Steps (k : Call) (x : ℕ) (c : Conf K) (o : Outcome A) : Type 0 where
      follows : Follows (step_by K x k c) o
      counts : one x ≡ cond (passes o.verdict) 1 0

    chunk-by : (v : Verdict) (h : ℕ) (c : Conf K) (x : ℕ) → v.number ≡ x → c.state.asked ≡ asked_of A d params g → Steps (chunk h) x c (chunk_by A v c.state h g c.mem c.marks)
    unfolding step_by accept
    chunk-by v h c zero e q =
        subst (λ (b : Bool). Steps (chunk h) 0 c (cond b (outcome A accepted c.state (work A c.state g h c.mem) (set c.marks h 1)) (outcome A v c.state c.mem c.marks))) (sym (ap (λ (y : ℕ). eqb y 0) e))
        (record { follows = record { state = refl; lent = refl; marks = refl; asks = q }; counts = refl })
    chunk-by v h c (suc x) e q =
        subst (λ (b : Bool). Steps (chunk h) (suc x) c (cond b (outcome A accepted c.state (work A c.state g h c.mem) (set c.marks h 1)) (outcome A v c.state c.mem c.marks))) (sym (ap (λ (y : ℕ). eqb y 0) e ∙ refused-number x))
        (record { follows = record { state = refl; lent = refl; marks = refl; asks = q }; counts = ap (λ (b : Bool). cond {A = ℕ} b 1 0) (sym (ap (λ (y : ℕ). eqb y 0) e ∙ refused-number x)) })

    close-by : (v : Verdict) (c : Conf K) (x : ℕ) → v.number ≡ x → c.state.asked ≡ asked_of A d params g → Steps close x c (close_by A v c.state c.mem c.marks)
    unfolding step_by accept
    close-by v c zero e q =
        subst (λ (b : Bool). Steps close 0 c (cond b (outcome A accepted (closed A c.state c.mem) (tidied A c.state c.mem) (cleared (chunk_count c.state.asked) c.marks)) (outcome A v c.state c.mem c.marks))) (sym (ap (λ (y : ℕ). eqb y 0) e))
        (record {
          follows = record { state = refl; lent = refl; marks = ap (λ (y : Asked). cleared (chunk_count y) c.marks) (sym q); asks = asked-kept c.state c.mem ∙ q };
          counts = refl;
        })
    close-by v c (suc x) e q =
        subst (λ (b : Bool). Steps close (suc x) c (cond b (outcome A accepted (closed A c.state c.mem) (tidied A c.state c.mem) (cleared (chunk_count c.state.asked) c.marks)) (outcome A v c.state c.mem c.marks))) (sym (ap (λ (y : ℕ). eqb y 0) e ∙ refused-number x))
        (record { follows = record { state = refl; lent = refl; marks = refl; asks = q }; counts = ap (λ (b : Bool). cond {A = ℕ} b 1 0) (sym (ap (λ (y : ℕ). eqb y 0) e ∙ refused-number x)) })

    -- one call
    same_call : (k : Call) (c : Conf K) (o : Outcome A) → Follows c o → call_on A g k (outcome A accepted c.state c.mem c.marks) ≡ call_on A g k o
    same_call (chunk h) c o f =
        ap₂ (λ (s : State A) (m : Lent A). chunk_call A s h g m c.marks) f.state f.lent ∙ ap (chunk_call A o.state h g o.lent) f.marks
    same_call close c o f =
        ap₂ (λ (s : State A) (m : Lent A). close_call A s g m c.marks) f.state f.lent ∙ ap (close_call A o.state g o.lent) f.marks

    steps_from : (k : Call) (c : Conf K) → c.state.asked ≡ asked_of A d params g → Steps k (refusal K k c) c (call_on A g k (outcome A accepted c.state c.mem c.marks))
    unfolding refusal chunk_call close_call
    steps_from (chunk h) c q = chunk-by (test_chunk A c.state h g c.mem c.marks) h c _ refl q
    steps_from close c q = close-by (test_close A c.state g c.mem c.marks) c _ refl q

    steps : (k : Call) (c : Conf K) (o : Outcome A) → Follows c o → Steps k (refusal K k c) c (call_on A g k o)
    steps k c o f = subst (λ (x : Outcome A). Steps k (refusal K k c) c x) (same_call k c o f) (steps_from k c f.asks)

    -- any calls
    pub run_follows : (ks : List Call) (c : Conf K) (o : Outcome A) → Follows c o → Follows (run K ks c) (called A g ks o)
    unfolding run called step
    run_follows [] c o f = f
    run_follows (k ∷ ks) c o f = run_follows ks (step K k c) (call_on A g k o) (unfold step in (steps k c o f).follows)

    pub run-counts : (ks : List Call) (c : Conf K) (o : Outcome A) → Follows c o → accepted_of A g ks o ≡ held.accepted K ks c
    unfolding held.accepted accepted_of step
    run-counts [] c o f = refl
    run-counts (k ∷ ks) c o f =
        let s = steps k c o f in
        omega (arith, s.counts, run-counts ks (step K k c) (call_on A g k o) (unfold step in s.follows))

    -- the refusal that a call would meet
    pub refusal_is : (k : Call) (c : Conf K) (o : Outcome A) → Follows c o → (machine_of A g).refuse k o.state o.lent o.marks ≡ refusal K k c
    unfolding refusal
    refusal_is k c o f =
        sym (ap₂ (λ (s : State A) (m : Lent A). (machine_of A g).refuse k s m c.marks) f.state f.lent ∙ ap ((machine_of A g).refuse k o.state o.lent) f.marks)
