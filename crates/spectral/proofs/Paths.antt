-- The one call's two ways, from what opening answered: v its verdict, s its state, `marked` the marks that it left. Assumes nothing.
use mathlib.Core.Path.{◌≡◌, refl, sym, ap, ap₂, ◌∙◌, subst}
use mathlib.Core.Bool.{Bool, true, false, cond, false≢true}
use mathlib.Core.List.{List}
use Prim.Native.Nat.{ℕ, ◌-◌}
use borrow.Author.Tests.{eqb-true, eq-eqb}
use lib.ListN.{length}
use Rattle.definition.specs.Arith.{ieee64}
use Rattle.definition.specs.Memory.{wholes_of}
use Rattle.definition.specs.Numbers.{Params, chunks}
use Rattle.definition.specs.Refusals.{Verdict, accepted, passes, test_request}
use Rattle.definition.specs.SpectralEmbedding.{Counts}
use Rattle.definition.proofs.Fill.{fill_over, fill_length}
use Rattle.held.specs.Marks.{cleared}
use Rattle.machine.specs.State.{Asked, chunk_count, Lists, State, Lent, lengths_of, asked_of, begun_at, opened_state, empty_state}
use Rattle.machine.specs.Calls.{Outcome, outcome, open_call}
use Rattle.promises.specs.Promises.{Accepted}
use Rattle.promises.specs.OneCall.{Whole, refused_whole, ran_whole, whole_call, end_of}
use Rattle.spectral.specs.Said.{params_asked}

same-lengths : (m : Lent ieee64) (a b : List ℕ) → length a ≡ length b → lengths_of ieee64 m a ≡ lengths_of ieee64 m b
same-lengths m a b e = rw e

module _ (d : ℕ) (params : Params) (g : Lists ieee64) (m : Lent ieee64) (marks : List ℕ) where
  abbrev tested : Verdict
  tested = test_request ieee64 d params g.starts g.columns g.values (wholes_of (lengths_of ieee64 m marks))

  -- the request is accepted, and the run stands before its first stage
  pub record Opened (v : Verdict) (s : State ieee64) (marked : List ℕ) : Type 0 where
    pub ok : Accepted ieee64 d params g m marks
    pub verdict : v ≡ accepted
    pub state : s ≡ opened_state ieee64 d params g
    pub marks-cleared : marked ≡ cleared (chunks (length g.starts - 1)) marks

  module _ {v : Verdict} {s : State ieee64} {marked : List ℕ} (opening : outcome ieee64 v s m marked ≡ open_call ieee64 d params g m marks) where
    pub refused : (v.number ≡ 0 → ⊥) → refused_whole ieee64 v m marked ≡ whole_call ieee64 d params g m marks
    unfolding open_call whole_call
    refused f = go (passes tested) refl opening
      where
        go : (b : Bool) → passes tested ≡ b
            → outcome ieee64 v s m marked
            ≡ cond b (outcome ieee64 accepted (opened_state ieee64 d params g) m (cleared (chunks (length g.starts - 1)) marks)) (outcome ieee64 tested (empty_state ieee64) m marks)
            → refused_whole ieee64 v m marked ≡ cond b (ran_whole ieee64 d params g m marks) (refused_whole ieee64 tested m marks)
        go true e h = absurd (f (ap (λ (o : Outcome ieee64). o.verdict.number) h))
        go false e h = ap (λ (o : Outcome ieee64). refused_whole ieee64 o.verdict o.lent o.marks) h

    pub taken : v.number ≡ 0 → Opened v s marked
    unfolding open_call
    taken z = go (passes tested) refl opening
      where
        go : (b : Bool) → passes tested ≡ b
            → outcome ieee64 v s m marked
            ≡ cond b (outcome ieee64 accepted (opened_state ieee64 d params g) m (cleared (chunks (length g.starts - 1)) marks)) (outcome ieee64 tested (empty_state ieee64) m marks)
            → Opened v s marked
        go true e h = record {
          ok = eqb-true tested.number 0 e;
          verdict = ap (λ (o : Outcome ieee64). o.verdict) h;
          state = ap (λ (o : Outcome ieee64). o.state) h;
          marks-cleared = ap (λ (o : Outcome ieee64). o.marks) h;
        }
        go false e h = absurd (false≢true (sym e ∙ eq-eqb tested.number 0 (sym (ap (λ (o : Outcome ieee64). o.verdict.number) h) ∙ z)))

module _ {d : ℕ} {params : Params} {g : Lists ieee64} {m : Lent ieee64} {marks : List ℕ} {v : Verdict} {s : State ieee64} {marked : List ℕ} (o : Opened d params g m marks v s marked) where
  -- the state keeps what was asked
  asked-kept : s.asked ≡ asked_of ieee64 d params g
  unfolding opened_state begun_at
  asked-kept = ap (λ (x : State ieee64). x.asked) o.state

  -- what the stages rest on
  pub stages_accepted : Accepted ieee64 s.asked.dims (params_asked s.asked) g m marked
  unfolding cleared
  stages_accepted =
      subst (λ (a : Asked). Accepted ieee64 a.dims (params_asked a) g m marked) (sym asked-kept)
      (subst (λ (l : List ℕ). (test_request ieee64 d params g.starts g.columns g.values (wholes_of l)).number ≡ 0)
      (same-lengths m marks marked (sym (ap length o.marks-cleared ∙ fill_length 0 (chunks (length g.starts - 1)) (λ j. 0) marks))) o.ok)

  pub stages_opened : s ≡ opened_state ieee64 s.asked.dims (params_asked s.asked) g
  stages_opened = o.state ∙ sym (ap (λ (a : Asked). opened_state ieee64 a.dims (params_asked a) g) asked-kept)

  pub stages_marks : marked ≡ cleared (chunk_count s.asked) marked
  unfolding cleared
  stages_marks =
      o.marks-cleared ∙ sym (fill_over 0 (chunks (length g.starts - 1)) (λ j. 0) (λ j. 0) marks)
      ∙ ap₂ cleared (sym (ap chunk_count asked-kept)) (sym o.marks-cleared)

  -- the end of the run is the call's
  pub whole-taken : {t : Counts} {after : Lent ieee64} {left : List ℕ} → t ≡ (end_of ieee64 s.asked.dims (params_asked s.asked) g m).state.counts
      → after ≡ (end_of ieee64 s.asked.dims (params_asked s.asked) g m).mem → left ≡ marked
      → ◌≡◌ {A = Whole ieee64} (record { verdict = v; counts = t; lent = after; marks = left }) (whole_call ieee64 d params g m marks)
  unfolding whole_call
  whole-taken {t} {after} {left} p q r =
      let z = eq-eqb (tested d params g m marks).number 0 o.ok in
      let p' : t ≡ (end_of ieee64 d params g m).state.counts = p ∙ ap (λ (a : Asked). (end_of ieee64 a.dims (params_asked a) g m).state.counts) asked-kept in
      let q' : after ≡ (end_of ieee64 d params g m).mem = q ∙ ap (λ (a : Asked). (end_of ieee64 a.dims (params_asked a) g m).mem) asked-kept in
      let r' : left ≡ cleared (chunks (length g.starts - 1)) marks = r ∙ o.marks-cleared in
      joined o.verdict p' q' r' ∙ sym (ap (λ (b : Bool). cond b (ran_whole ieee64 d params g m marks) (refused_whole ieee64 (tested d params g m marks) m marks)) z)
    where
      joined : {v' : Verdict} {t t' : Counts} {l l' : Lent ieee64} {k k' : List ℕ} → v ≡ v' → t ≡ t' → l ≡ l' → k ≡ k'
          → ◌≡◌ {A = Whole ieee64} (record { verdict = v; counts = t; lent = l; marks = k }) (record { verdict = v'; counts = t'; lent = l'; marks = k' })
      joined p q r s = rw (p, q, r, s)
