-- 15 is met exactly where no run is open: by the empty state, and by a run that has ended. Assumes nothing.
use mathlib.Core.Path.{◌≡◌, refl, sym, ap, ◌∙◌, subst}
use mathlib.Core.Bool.{Bool, true, false, not, cond, ◌&&◌}
use mathlib.Core.List.{List}
use Prim.Native.Nat.{ℕ, zero, suc, ◌+◌, ◌-◌, ◌*◌, ◌≤◌, ◌<◌}
use native.Mathlib.Omega.{arith}
use borrow.Author.Tests.{eqb-true, ne_eqb, le-ltb, lt-ltb, le-leb, eqb-false}
use lib.Dec.{eqb, leb, ltb}
use lib.Ieee.{lt, of_bits, binary64}
use lib.ListN.{length, get_or, replicate, get_or-replicate}
use Rattle.definition.specs.Arith.{Arith}
use Rattle.definition.specs.Marks.{undone}
use Rattle.definition.specs.Numbers.{Params, default_seed_std}
use Rattle.definition.specs.Refusals.{Verdict, given, refused, or_else, passes, first_from, test_seed_std}
use Rattle.held.specs.Calls.{Call, chunk, close, Conf, opened, run, refusal}
use Rattle.held.proofs.Law.{reached}
use Rattle.machine.specs.State.{chunk_count, last_stage, order_room, Lists, State, Lent, begun_at, empty_state}
use Rattle.machine.specs.Ranges.{state_sound, is_open, sound_for_chunk, sound_for_close, test_chunk, test_close}
use Rattle.machine.proofs.Own.{both, both_of}
use Rattle.ready.proofs.Tested.{state-sound}
use Rattle.ready.proofs.Ready.{chunk_15, close_15, shut_for_chunk, shut_for_close}
use Rattle.promises.specs.Run.{Steady, machine_of}
use Rattle.promises.specs.Shows.{Shows}
use Rattle.promises.specs.Promises.{has_ended, Accepted, after}
use Rattle.promises.proofs.Fits.{Fit, fits}
use Rattle.promises.proofs.Calls.{refusal_is}
use Rattle.promises.proofs.Promises.{sure, start, end, way, marks-enough, follows, valid}
use Rattle.promises.proofs.Stages.{stages}

-- ---- a call on a run that is open is not refused by 15
chunk-no : (a c e : Bool) (h : ℕ) → (or_else (given (not a) 16 0) (or_else (given false 15 0) (or_else (given (not c) 12 h) (given e 13 h)))).number ≡ 15 → ⊥
unfolding or_else
chunk-no true true true h z = omega arith
chunk-no true true false h z = omega arith
chunk-no true false e h z = omega arith
chunk-no false c e h z = omega arith

close-no : (a b : Bool) (x : ℕ) → (or_else (given (not a) 16 0) (or_else (given false 15 0) (given b 14 x))).number ≡ 15 → ⊥
unfolding or_else
close-no true true x z = omega arith
close-no true false x z = omega arith
close-no false b x z = omega arith

module _ (A : Arith) (g : Lists A) (m : Lent A) (marks : List ℕ) where
  open_no : (k : Call) (s : State A) → is_open A s ≡ true → (machine_of A g).refuse k s m marks ≡ 15 → ⊥
  unfolding test_chunk test_close
  open_no (chunk h) s o e =
      let a = sound_for_chunk A s h g m marks in
      let c = ltb h (chunk_count s.asked) in
      let u = not (undone marks h) in
      chunk-no a c u h (subst (λ (b : Bool). (or_else (given (not a) 16 0) (or_else (given (not b) 15 0) (or_else (given (not c) 12 h) (given u 13 h)))).number ≡ 15) o e)
  open_no close s o e =
      let a = sound_for_close A s g m marks in
      let x = first_from (undone marks) 0 (chunk_count s.asked) in
      let c = ltb x (0 + chunk_count s.asked) in
      close-no a c x (subst (λ (b : Bool). (or_else (given (not a) 16 0) (or_else (given (not b) 15 0) (given c 14 x))).number ≡ 15) o e)

  shut_15 : (k : Call) (s : State A) → state_sound A s ≡ true → is_open A s ≡ false → (machine_of A g).refuse k s m marks ≡ 15
  shut_15 (chunk h) s t o = ap (λ (v : Verdict). v.number) (chunk_15 A s h g m marks (shut_for_chunk A s g m marks t o h) o)
  shut_15 close s t o = ap (λ (v : Verdict). v.number) (close_15 A s g m marks (shut_for_close A s g m marks t o) o)

  -- ---- the empty state
  seed-passes : passes (test_seed_std default_seed_std) ≡ true
  unfolding test_seed_std of_bits lt
  seed-passes = refl

  empty_sound : Steady A → state_sound A (empty_state A) ≡ true
  unfolding empty_state begun_at
  empty_sound steady =
      state-sound A (empty_state A) (record {
        asked = omega arith;
        progress = omega arith;
        counts = omega arith;
        order = λ j l. omega (arith, get_or-replicate {A = ℕ} order_room j 0 0 l);
      }) (seed-passes) (omega arith) steady.bound-first (steady.alpha-first A.bound_first steady.bound-first)

  empty_shut : is_open A (empty_state A) ≡ false
  unfolding is_open empty_state begun_at
  empty_shut = refl

  -- the state that a refused opening answers meets 15 in every call, whatever the lists are
  pub empty_15 : Steady A → (k : Call) → (machine_of A g).refuse k (empty_state A) m marks ≡ 15
  empty_15 steady k = shut_15 k (empty_state A) (empty_sound steady) empty_shut

module _ (A : Arith) (steady : Steady A) (d : ℕ) (params : Params) (g : Lists A) (m : Lent A) (marks : List ℕ) (ok : Accepted A d params g m marks) (ks : List Call) where
  abbrev conf : Conf (machine_of A g)
  conf = run (machine_of A g) ks (opened (machine_of A g) (start A steady d params g m marks ok) marks)

  fit : Fit A d params g conf.state conf.mem
  fit =
      let s = reached (machine_of A g) (Fit A d params g) (Shows A d params g) (fits A d params g (valid A steady d params g m marks ok).graph) (start A steady d params g m marks ok) marks
      (stages A d params g (sure A steady d params g m marks ok)) (end A steady d params g m marks ok) (way A steady d params g m marks ok) (marks-enough A steady d params g m marks ok) ks in s.3.fit

  shut : (s : State A) → s.progress.stage ≡ last_stage → is_open A s ≡ false
  unfolding is_open
  shut s e = ap (λ (x : ℕ). leb 1 x && ltb x last_stage) e

  opens : (s : State A) → 1 ≤ s.progress.stage → s.progress.stage ≤ last_stage → (s.progress.stage ≡ last_stage → ⊥) → is_open A s ≡ true
  unfolding is_open
  opens s l u ne = both _ _ (le-leb 1 s.progress.stage l) (lt-ltb s.progress.stage last_stage (below s.progress.stage u ne))
    where
      below : (x : ℕ) → x ≤ 20 → (x ≡ 20 → ⊥) → x < 20
      below x p q = omega arith

  number_is : (k : Call) → (machine_of A g).refuse k (after A d params g m marks ks).state (after A d params g m marks ks).lent (after A d params g m marks ks).marks
      ≡ (machine_of A g).refuse k conf.state conf.mem conf.marks
  unfolding refusal
  number_is k = refusal_is A d params g k conf (after A d params g m marks ks) (follows A steady d params g m marks ok ks)

  -- a run that has ended meets 15 in every call
  pub ended_15 : has_ended A (after A d params g m marks ks).state → (k : Call)
      → (machine_of A g).refuse k (after A d params g m marks ks).state (after A d params g m marks ks).lent (after A d params g m marks ks).marks ≡ 15
  ended_15 e k =
      number_is k ∙ shut_15 A g conf.mem conf.marks k conf.state fit.state (shut conf.state (ap (λ (s : State A). s.progress.stage) (follows A steady d params g m marks ok ks).state ∙ e))

  -- and one that meets it has ended
  pub only_15 : (k : Call) → (machine_of A g).refuse k (after A d params g m marks ks).state (after A d params g m marks ks).lent (after A d params g m marks ks).marks ≡ 15
      → has_ended A (after A d params g m marks ks).state
  only_15 k e = ap (λ (s : State A). s.progress.stage) (sym (follows A steady d params g m marks ok ks).state) ∙ go (eqb conf.state.progress.stage last_stage) refl
    where
      go : (b : Bool) → eqb conf.state.progress.stage last_stage ≡ b → conf.state.progress.stage ≡ last_stage
      go true z = eqb-true conf.state.progress.stage last_stage z
      go false z = absurd (open_no A g conf.mem conf.marks k conf.state (opens conf.state fit.begun fit.last (eqb-false conf.state.progress.stage last_stage z)) (sym (number_is k) ∙ e))
