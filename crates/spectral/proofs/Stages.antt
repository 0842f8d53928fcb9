-- The stages of an accepted request, one after the other, to the run's end. Assumes nothing.
use mathlib.Core.Path.{◌≡◌, refl, sym, ap, ap₂, ◌∙◌, subst}
use mathlib.Core.List.{List, []}
use Prim.Native.Nat.{ℕ, ◌+◌, ◌-◌, ◌*◌, ◌≤◌, ◌<◌}
use native.Mathlib.Nat.{mul-le-mul_left}
use native.Mathlib.Omega.{arith}
use lib.Ieee.{Float, binary64}
use lib.ListN.{length}
use Rattle.definition.specs.Arith.{ieee64}
use Rattle.definition.specs.Memory.{fill_range}
use Rattle.definition.specs.Numbers.{Params, width, chunks}
use Rattle.definition.specs.SpectralEmbedding.{Counts, counts}
use Rattle.definition.proofs.Fill.{split, fill_over, fill_length}
use Rattle.held.specs.Calls.{Base, iter}
use Rattle.held.specs.Marks.{cleared}
use Rattle.machine.specs.State.{Asked, stage_of, chunk_count, last_stage, Lists, State, Lent, with_record, asked_of, begun_at, opened_state}
use Rattle.machine.specs.Ready.{Ready, Closable, CountsReady}
use Rattle.machine.specs.Closing.{closed_by, closed, record_after, tidied}
use Rattle.machine.proofs.Record.{whole_beside}
use Rattle.ready.proofs.Tested.{state_ready}
use Rattle.ready.proofs.Ready.{ready_beside}
use Rattle.promises.specs.Run.{machine_of, graph_in}
use Rattle.promises.specs.Promises.{Accepted, stages_of, stages_on}
use Rattle.promises.specs.OneCall.{midway, end_of}
use Rattle.promises.proofs.Ieee.{steady}
use Rattle.promises.proofs.Promises.{valid, marks-enough}
use Rattle.promises.proofs.Upward.{here_fit, here-over, end_ended, whole-shows, midway_ready, midway_closable, stage-next, chunks-asked}
use Rattle.spectral.specs.Said.{done_up}

-- no run has more stages than the loop has turns
bound : (rounds degree k refreshed : ℕ) → rounds ≤ 1000 → degree ≤ 1000 → k ≤ 15 → refreshed ≤ rounds * k → 9 + rounds * (degree + 2 + 7 * k) + 7 * refreshed < 2000000
bound rounds degree k refreshed p q r l =
    omega (
      arith,
      mul-le-mul_left {m = degree + 2 + 7 * k} {n = 1107} rounds (omega arith),
      mul-le-mul_left {m = k} {n = 15} rounds r,
    )

module _ (d : ℕ) (params : Params) (g : Lists ieee64) (m : Lent ieee64) (marks : List ℕ) where
  abbrev here : ℕ → Base (machine_of ieee64 g)
  here p = stages_on ieee64 d params g p m

  abbrev all : ℕ
  all = stages_of ieee64 d params g

  -- p stages are closed
  pub record At (p : ℕ) (s : State ieee64) (l : Lent ieee64) (k : List ℕ) : Type 0 where
    pub within : p ≤ all
    pub state : s ≡ (here p).state
    pub lent : l ≡ (here p).mem
    pub marked : k ≡ marks

  pub none-closed : (s : State ieee64) → s ≡ opened_state ieee64 d params g → At 0 s m marks
  unfolding iter
  none-closed s e = record { within = omega arith; state = e; lent = refl; marked = refl }

  module _ (ok : Accepted ieee64 d params g m marks) where
    few : all < 2000000
    unfolding stages_of
    few =
        let sound = valid ieee64 (steady binary64) d params g m marks ok in
        let F = here_fit ieee64 (steady binary64) d params g m marks ok all (omega arith) in
        let R : CountsReady (here all).state.asked (here all).state.counts = (state_ready ieee64 (here all).state F.state).counts in
        let S : CountsReady (asked_of ieee64 d params g) (here all).state.counts = subst (λ (a : Asked). CountsReady a (here all).state.counts) F.asks R in
        let T : CountsReady (asked_of ieee64 d params g) (counts ieee64 d params (graph_in ieee64 g)) = subst (λ (t : Counts). CountsReady (asked_of ieee64 d params g) t) (whole-shows ieee64 (steady binary64) d params g m marks ok).counts S in
        bound params.rounds params.degree (width d) (counts ieee64 d params (graph_in ieee64 g)).refreshed sound.params.rounds-most sound.params.degree-most (omega (arith, sound.dims-most)) T.refreshed

module _ {d : ℕ} {params : Params} {g : Lists ieee64} {m : Lent ieee64} {marks : List ℕ} (ok : Accepted ieee64 d params g m marks)
    {p : ℕ} {s : State ieee64} {l : Lent ieee64} {k : List ℕ} (at : At d params g m marks p s l k) where
  asked_here : s.asked ≡ asked_of ieee64 d params g
  asked_here = ap (λ (x : State ieee64). x.asked) at.state ∙ chunks-asked ieee64 (steady binary64) d params g m marks ok p at.within

  chunks-here : chunk_count s.asked ≡ chunks (length g.starts - 1)
  chunks-here = ap chunk_count asked_here

  midway-here : (h : ℕ) → done_up s g h l ≡ midway ieee64 d params g p h m
  midway-here h = ap₂ (λ (x : State ieee64) (y : Lent ieee64). done_up x g h y) at.state at.lent

  -- chunks work beside the record: as beside none
  beside_here : (h : ℕ) → done_up s g h l ≡ with_record ieee64 l.ritz_record (done_up s g h (with_record ieee64 [] l))
  beside_here h = whole_beside ieee64 l.ritz_record s g h (with_record ieee64 [] l)

  -- a run that has not ended has a stage to come
  pub to_come : (s.progress.stage ≡ last_stage → ⊥) → p < all d params g m marks
  to_come f =
      split p (all d params g m marks) (λ q. q)
      (λ q. let e : p ≡ all d params g m marks = omega (arith, at.within) in
      absurd (f (ap (λ (x : State ieee64). x.progress.stage) (at.state ∙ ap (λ (i : ℕ). (here d params g m marks i).state) e) ∙ end_ended ieee64 (steady binary64) d params g m marks ok)))

  -- each chunk of it will be ready, and has a mark
  pub chunks_ready : (h : ℕ) → h < chunk_count s.asked → Ready ieee64 s h g (done_up s g h (with_record ieee64 [] l))
  chunks_ready h q =
      ready_beside ieee64 s h g l.ritz_record (done_up s g h (with_record ieee64 [] l))
      (subst (λ (x : Lent ieee64). Ready ieee64 s h g x) (sym (midway-here h) ∙ beside_here h)
      (subst (λ (x : State ieee64). Ready ieee64 x h g (midway ieee64 d params g p h m)) (sym at.state)
      (midway_ready ieee64 (steady binary64) d params g m marks ok p h at.within (omega (arith, chunks-here)))))

  pub marks-here : chunk_count s.asked ≤ length k
  marks-here = omega (arith, chunks-here, ap length at.marked, marks-enough ieee64 (steady binary64) d params g m marks ok)

  pub marks-done : {k' : List ℕ} → k' ≡ fill_range 0 (chunk_count s.asked) (λ j. 1) k → chunk_count s.asked ≤ length k'
  marks-done e = omega (arith, marks-here, ap length e, fill_length 0 (chunk_count s.asked) (λ j. 1) k)

  -- where all chunks are done it can be closed, and the next one begins
  module _ {y : Lent ieee64} (done : y ≡ done_up s g (chunk_count s.asked) (with_record ieee64 [] l)) where
    abbrev l' : Lent ieee64
    l' = with_record ieee64 l.ritz_record y

    done-here : l' ≡ midway ieee64 d params g p (chunks (length g.starts - 1)) m
    done-here =
        ap (with_record ieee64 l.ritz_record) done ∙ sym (beside_here (chunk_count s.asked))
        ∙ ap (λ (c : ℕ). done_up s g c l) chunks-here ∙ midway-here (chunks (length g.starts - 1))

    pub closable : Closable ieee64 s l'
    closable =
        subst (λ (x : Lent ieee64). Closable ieee64 s x) (sym done-here)
        (subst (λ (x : State ieee64). Closable ieee64 x (midway ieee64 d params g p (chunks (length g.starts - 1)) m)) (sym at.state)
        (midway_closable ieee64 (steady binary64) d params g m marks ok p at.within))

    module _ {k' : List ℕ} (marked : k' ≡ fill_range 0 (chunk_count s.asked) (λ j. 1) k) where
      pub closed-next : {s' : State ieee64} {k'' : List ℕ} {ritz : List Float} → p < all d params g m marks → s' ≡ closed_by ieee64 (stage_of s.progress.stage) s y.v0 y.partials
          → k'' ≡ cleared (chunk_count s.asked) k' → ritz ≡ record_after ieee64 s s' l.ritz_record → marks ≡ cleared (chunk_count (asked_of ieee64 d params g)) marks
          → At d params g m marks (p + 1) s' (with_record ieee64 ritz y) k''
      unfolding closed cleared
      closed-next {s'} {k''} {ritz} q e c w z =
          let n = stage-next ieee64 (steady binary64) d params g m marks ok p in
          let L = midway ieee64 d params g p (chunks (length g.starts - 1)) m in
          record {
            within = omega arith;
            state = e ∙ ap₂ (λ (x : State ieee64) (y : Lent ieee64). closed ieee64 x y) at.state done-here ∙ ap (λ (b : Base (machine_of ieee64 g)). b.state) (sym n);
            lent =
                ap (λ (r : List Float). with_record ieee64 r y) (w ∙ ap (λ (x : State ieee64). record_after ieee64 s x l.ritz_record) e)
                ∙ ap₂ (λ (x : State ieee64) (v : Lent ieee64). tidied ieee64 x v) at.state done-here ∙ ap (λ (b : Base (machine_of ieee64 g)). b.mem) (sym n);
            marked =
                c ∙ ap (cleared (chunk_count s.asked)) marked ∙ fill_over 0 (chunk_count s.asked) (λ j. 0) (λ j. 1) k
                ∙ ap₂ cleared chunks-here at.marked ∙ sym z;
          }

  -- a run that has ended is at its end, and the loop's turns do not run out before
  pub ended : s.progress.stage ≡ last_stage → (s.counts ≡ (end_of ieee64 d params g m).state.counts) × ((l ≡ (end_of ieee64 d params g m).mem) × (k ≡ marks))
  ended f =
      split p (all d params g m marks)
      (λ q. absurd (here-over ieee64 (steady binary64) d params g m marks ok p q (ap (λ (x : State ieee64). x.progress.stage) (sym at.state) ∙ f)))
      (λ q. let e : p ≡ all d params g m marks = omega (arith, at.within) in (
        ap (λ (x : State ieee64). x.counts) (at.state ∙ ap (λ (i : ℕ). (here d params g m marks i).state) e),
        (at.lent ∙ ap (λ (i : ℕ). (here d params g m marks i).mem) e, at.marked),
      ))

  pub never_out : p ≡ 2000000 → ⊥
  never_out e = omega (arith, few d params g m marks ok, at.within)

-- the marks as they are at the start: cleared, of the chunks that were asked for
pub opened-marks : (d : ℕ) (params : Params) (g : Lists ieee64) {s : State ieee64} (marks : List ℕ) → s ≡ opened_state ieee64 d params g
    → marks ≡ cleared (chunk_count s.asked) marks → marks ≡ cleared (chunk_count (asked_of ieee64 d params g)) marks
unfolding opened_state begun_at
opened-marks d params g marks e z = z ∙ ap (λ (x : State ieee64). cleared (chunk_count x.asked) marks) e
