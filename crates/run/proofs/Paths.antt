-- Each path of the three calls is the machine's call. v is the verdict that the code found, s the state that it made, `after` and `marked`
-- what it left in the lent lists and the marks. Assumes nothing.
use mathlib.Core.Path.{◌≡◌, refl, sym, ap, ◌∙◌}
use mathlib.Core.Bool.{Bool, true, false, cond, false≢true}
use mathlib.Core.List.{List, []}
use Prim.Native.Nat.{ℕ, suc, ◌+◌, ◌-◌, ◌≤◌}
use native.Mathlib.Omega.{arith}
use borrow.Author.Tests.{eq-eqb, ne_eqb}
use lib.Dec.{eqb, ltb}
use lib.ListN.{length, set}
use Rattle.definition.specs.Arith.{Arith}
use Rattle.definition.specs.Memory.{wholes_of}
use Rattle.definition.specs.Numbers.{Params, chunks, lent_sizes, lent_size, lent_count}
use Rattle.definition.specs.Refusals.{Verdict, accepted, given, or_else, passes, first_from, test_dims, test_graph, test_params, test_lent, test_request}
use Rattle.std.specs.Prelude.{Result, is_err}
use Rattle.input.specs.declared.refusal.Refusal.{Refusal}
use Rattle.input.specs.Said.{verdict_in}
use Rattle.input.proofs.Verdicts.{kept, turned_down}
use Rattle.input.proofs.Accepted.{request_valid}
use Rattle.held.specs.Marks.{cleared}
use Rattle.machine.specs.State.{stage_of, chunk_count, Lists, State, Lent, with_record, lengths_of, opened_state, empty_state}
use Rattle.machine.specs.Ranges.{test_chunk, test_close}
use Rattle.machine.specs.Work.{work}
use Rattle.machine.specs.Closing.{closed_by, closed, record_after}
use Rattle.machine.specs.Calls.{outcome, open_call, chunk_call, close_call}
use Rattle.machine.proofs.Record.{work_beside}
use Rattle.ready.proofs.Ready.{chunk-accepted, close-accepted}
use Rattle.stages.proofs.Parts.{parts_of, work-parts}

-- ---- the code's verdict passes or refuses as the test that it equals
module _ {v t : Verdict} (e : v ≡ t) where
  pub zero-passes : v.number ≡ 0 → passes t ≡ true
  zero-passes h = eq-eqb t.number 0 (sym (ap (λ (w : Verdict). w.number) e) ∙ h)

  other_refuses : (v.number ≡ 0 → ⊥) → passes t ≡ false
  other_refuses h = ne_eqb t.number 0 (λ z. h (ap (λ (w : Verdict). w.number) e ∙ z))

-- and the code asks its test's answer r whether it passes
module _ {v : Verdict} (r : Result Unit Refusal) (e : v ≡ verdict_in r) where
  pub no_refusal : is_err r ≡ false → v.number ≡ 0
  no_refusal h = ap (λ (w : Verdict). w.number) e ∙ kept r h

  pub a_refusal : is_err r ≡ true → v.number ≡ 0 → ⊥
  a_refusal h z = turned_down r h (sym (ap (λ (w : Verdict). w.number) e) ∙ z)

-- ---- a request with number 0 is accepted: the last test decides
given-none : (fault : Bool) (r p : ℕ) → (given fault (suc r) p).number ≡ 0 → given fault (suc r) p ≡ accepted
given-none true r p h = absurd (omega arith)
given-none false r p h = refl

else_none : (t w : Verdict) → (w.number ≡ 0 → w ≡ accepted) → (or_else t w).number ≡ 0 → or_else t w ≡ accepted
unfolding or_else
else_none t w last h = go (eqb t.number 0) refl h
  where
    go : (b : Bool) → eqb t.number 0 ≡ b → (cond b w t).number ≡ 0 → cond b w t ≡ accepted
    go true e g = last g
    go false e g = absurd (false≢true (sym e ∙ eq-eqb t.number 0 g))

-- ---- opening
module _ (A : Arith) (d : ℕ) (p : Params) (g : Lists A) (m : Lent A) (marks : List ℕ) where
  abbrev pub test_open : Verdict
  test_open = test_request A d p g.starts g.columns g.values (wholes_of (lengths_of A m marks))

  request_accepted : test_open.number ≡ 0 → test_open ≡ accepted
  unfolding test_request test_lent
  request_accepted =
      let short : ℕ → Bool = λ j. ltb (wholes_of (lengths_of A m marks) j) (lent_size d p.rounds (length g.starts - 1) (length g.columns) j) in
      else_none (test_dims d) _
      (else_none (test_graph A g.starts g.columns g.values) _
      (else_none (test_params p) _ (given-none (ltb (first_from short 0 lent_count) (0 + lent_count)) 10 (first_from short 0 lent_count))))

  module _ {v : Verdict} (e : v ≡ test_open) where
    -- there is a mark for each chunk
    pub open_marks : v.number ≡ 0 → chunks (length g.starts - 1) ≤ length marks
    unfolding lent_sizes
    open_marks h =
        (request_valid A g.starts g.columns g.values d p (wholes_of (lengths_of A m marks)) (sym (ap (λ (w : Verdict). w.number) e) ∙ h)).enough 8
        (omega arith)

    pub open_refused : {s : State A} → (v.number ≡ 0 → ⊥) → s ≡ empty_state A → outcome A v s m marks ≡ open_call A d p g m marks
    unfolding open_call
    open_refused h r = rw (other_refuses e h, e, r)

    pub open_taken : {s : State A} {marked : List ℕ} → v.number ≡ 0 → s ≡ opened_state A d p g → marked ≡ cleared (chunks (length g.starts - 1)) marks
        → outcome A v s m marked ≡ open_call A d p g m marks
    unfolding open_call
    open_taken h r l = rw (zero-passes e h, e ∙ request_accepted (sym (ap (λ (w : Verdict). w.number) e) ∙ h), r, l)

-- ---- a chunk
module _ (A : Arith) (s : State A) (n : ℕ) (g : Lists A) (m : Lent A) (marks : List ℕ) {v : Verdict} (e : v ≡ test_chunk A s n g m marks) where
  pub chunk-refused : (v.number ≡ 0 → ⊥) → outcome A v s m marks ≡ chunk_call A s n g m marks
  unfolding chunk_call
  chunk-refused h = rw (other_refuses e h, e)

  -- the work is shown by the parts of the state that it reads, and beside no record at all
  pub chunk-taken : {after : Lent A} {marked : List ℕ} → v.number ≡ 0 → after ≡ work A (parts_of A s) g n (with_record A [] m) → marked ≡ set marks n 1
      → outcome A v s (with_record A m.ritz_record after) marked ≡ chunk_call A s n g m marks
  unfolding chunk_call
  chunk-taken h w l =
      rw (zero-passes e h, e ∙ chunk-accepted A s n g m marks (zero-passes e h), ap (with_record A m.ritz_record) (w ∙ work-parts A s g n (with_record A [] m)) ∙ sym (work_beside A m.ritz_record s g n (with_record A [] m)), l)

-- ---- closing
module _ (A : Arith) (s : State A) (g : Lists A) (m : Lent A) (marks : List ℕ) {v : Verdict} (e : v ≡ test_close A s g m marks) where
  pub close-refused : (v.number ≡ 0 → ⊥) → outcome A v s m marks ≡ close_call A s g m marks
  unfolding close_call
  close-refused h = rw (other_refuses e h, e)

  pub close-taken : {next : State A} {marked : List ℕ} {ritz : List A.F} → v.number ≡ 0 → next ≡ closed_by A (stage_of s.progress.stage) s m.v0 m.partials
      → marked ≡ cleared (chunk_count s.asked) marks → ritz ≡ record_after A s next m.ritz_record → outcome A v next (with_record A ritz m) marked ≡ close_call A s g m marks
  unfolding close_call closed
  close-taken h r l w = rw (zero-passes e h, e ∙ close-accepted A s g m marks (zero-passes e h), w, r, l)
