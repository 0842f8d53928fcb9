-- Laws of tests that stand one after the other, and of what is picked by one. v is a verdict that the code found, t the test that it equals. Assumes nothing.
use mathlib.Core.Path.{◌≡◌, refl, sym, ap, ◌∙◌}
use mathlib.Core.Bool.{Bool, true, false, cond, false≢true}
use Prim.Native.Nat.{ℕ, suc, ◌+◌, ◌≤◌, ◌<◌}
use native.Mathlib.Omega.{arith}
use borrow.Author.Tests.{eq-eqb, ne_eqb, lt-ltb, le-ltb}
use lib.Dec.{ltb}
use Rattle.std.specs.Prelude.{Result, Ok, Err, IsErrAnd, is_ok, is_err}
use Rattle.definition.specs.Numbers.{Params}
use Rattle.definition.specs.Refusals.{Verdict, accepted, refused, given, given_first, first_from, or_else, passes}
use Rattle.input.specs.declared.refusal.Refusal.{Refusal}
use Rattle.input.specs.declared.refusal.Refusal.TheVariants as R
use Rattle.input.specs.declared.SpectralParams.{SpectralParams}
use Rattle.input.specs.Said.{params_of, refusal_of, verdict_in, set_in, Answered}

module _ {v t : Verdict} (e : v ≡ t) where
  same_number : v.number ≡ t.number
  same_number = ap (λ (u : Verdict). u.number) e

  pub test_passes : v.number ≡ 0 → t.number ≡ 0
  test_passes h = sym same_number ∙ h

  pub same-pick : {A : Type 0} (x y : A) → cond (passes v) x y ≡ cond (passes t) x y
  same-pick x y = ap (λ (u : Verdict). cond (passes u) x y) e

  -- t refuses: it is the answer
  pub refuses : (w : Verdict) → (v.number ≡ 0 → ⊥) → v ≡ or_else t w
  unfolding or_else
  refuses w h = e ∙ sym (ap (λ (b : Bool). cond b w t) (ne_eqb t.number 0 (λ z. h (same_number ∙ z))))

  -- t passes: the answer is that of the tests after it
  pub goes_on_lem : {w x : Verdict} → v.number ≡ 0 → x ≡ w → x ≡ or_else t w
  unfolding or_else
  goes_on_lem {w} h g = g ∙ sym (ap (λ (b : Bool). cond b w t) (eq-eqb t.number 0 (test_passes h)))

-- one fault: where it is there it is the answer, and where it isn't the tests behind it decide
module _ {v : Verdict} (fault : Bool) (number place : ℕ) where
  pub faulty : fault ≡ true → v ≡ refused (suc number) place → v ≡ given fault (suc number) place
  faulty h e = e ∙ sym (ap (λ (b : Bool). given b (suc number) place) h)

  pub faultless : fault ≡ false → v ≡ accepted → v ≡ given fault number place
  faultless h e = e ∙ sym (ap (λ (b : Bool). given b number place) h)

  pub faulty_first : (w : Verdict) → fault ≡ true → v ≡ refused (suc number) place → v ≡ or_else (given fault (suc number) place) w
  faulty_first w h e = refuses (faulty h e) w (λ z. let n = ap (λ (u : Verdict). u.number) e in absurd (omega (arith, n, z)))

pub faultless_first : {v w : Verdict} (fault : Bool) (number place : ℕ) → fault ≡ false → v ≡ w → v ≡ or_else (given fault number place) w
faultless_first fault number place h e = goes_on_lem (faultless {v = accepted} fault number place h refl) refl e

-- ---- tests that answer a `Result`: one with an error has a number, so the tests behind it have no say
pub numbered : (r : Refusal) → (refusal_of r).number ≡ 0 → ⊥
numbered R.Dims h = omega arith
numbered R.Rows h = omega arith
numbered R.Limits h = omega arith
numbered R.Lengths h = omega arith
numbered (R.Starts i) h = omega arith
numbered (R.Column e) h = omega arith
numbered (R.Value e) h = omega arith
numbered R.Rounds h = omega arith
numbered R.Degree h = omega arith
numbered R.SeedStd h = omega arith
numbered (R.Memory j) h = omega arith
numbered (R.Chunk i) h = omega arith
numbered (R.Done i) h = omega arith
numbered (R.Undone i) h = omega arith
numbered R.NoRun h = omega arith
numbered R.State h = omega arith
numbered (R.File line) h = omega arith
numbered R.Room h = omega arith
numbered (R.Market line) h = omega arith

-- the exit of a `?`: what it hands on is the error d of the test
pub exits : {A : Type 0} (r : Result A Refusal) (d : Refusal) → IsErrAnd r (λ e. e ≡ d) → r ≡ Err d
exits (Ok x) d h = absurd h
exits (Err e) d h = ap Err h

pub stops : {t : Verdict} (r : Result Unit Refusal) (d : Refusal) → IsErrAnd r (λ e. e ≡ d) → (w : Verdict) → refusal_of d ≡ t → verdict_in r ≡ or_else t w
stops r d h w e = ap verdict_in (exits r d h) ∙ refuses e w (numbered d)

-- past a `?`
pub passed : {t : Verdict} → accepted ≡ t → t.number ≡ 0
passed e = sym (ap (λ (u : Verdict). u.number) e)

pub goes_past : {t w x : Verdict} → accepted ≡ t → x ≡ w → x ≡ or_else t w
goes_past e g = goes_on_lem e refl g

-- whether a test passed, asked of its answer
pub ok_passes : (r : Result Unit Refusal) → is_ok r ≡ passes (verdict_in r)
ok_passes (Ok x) = refl
ok_passes (Err d) = sym (ne_eqb (refusal_of d).number 0 (numbered d))

pub kept : (r : Result Unit Refusal) → is_err r ≡ false → (verdict_in r).number ≡ 0
kept (Ok x) h = refl
kept (Err d) h = absurd (false≢true (sym h))

pub turned_down : (r : Result Unit Refusal) → is_err r ≡ true → (verdict_in r).number ≡ 0 → ⊥
turned_down (Ok x) h e = absurd (false≢true h)
turned_down (Err d) h e = numbered d e

-- a scan's first fault is what it refuses
module _ (f : ℕ → Bool) (a m r : ℕ) where
  pub first_refused : {x : ℕ} → first_from f a m ≡ x → x < a + m → refused r x ≡ given_first f a m r
  first_refused {x} e p = sym (ap (λ (y : ℕ). given (ltb y (a + m)) r y) e ∙ ap (λ (b : Bool). given b r x) (lt-ltb x (a + m) p))

  pub none_refused : a + m ≤ first_from f a m → accepted ≡ given_first f a m r
  none_refused p = sym (ap (λ (b : Bool). given b r (first_from f a m)) (le-ltb (first_from f a m) (a + m) p))

-- a setter: the test's refusal keeps the old parameters, and a test that passes takes the new ones
module _ {t : Verdict} (old : SpectralParams) where
  pub refused_set : (r : Result SpectralParams Refusal) (d : Refusal) → IsErrAnd r (λ e. e ≡ d) → (new : Params) → refusal_of d ≡ t
      → Answered t (cond (passes t) new (params_of old)) (set_in old r)
  refused_set (Ok x) d h new e = absurd h
  refused_set (Err x) d h new e = record {
    verdict = ap refusal_of h ∙ e;
    params = sym (ap (λ (b : Bool). cond b new (params_of old)) (ne_eqb t.number 0 (λ z. numbered d (ap (λ (u : Verdict). u.number) e ∙ z))));
  }

  pub passed_set : (new : SpectralParams) → accepted ≡ t → Answered t (cond (passes t) (params_of new) (params_of old)) (set_in old (Ok new))
  passed_set new e = record {
    verdict = e;
    params = sym (ap (λ (b : Bool). cond b (params_of new) (params_of old)) (eq-eqb t.number 0 (sym (ap (λ (u : Verdict). u.number) e))));
  }
