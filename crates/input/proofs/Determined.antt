-- A contract fixes its answer: two that satisfy it are equal. Assumes nothing.
use mathlib.Core.Path.{◌≡◌, refl, sym, ap, ap₂, ◌∙◌}
use mathlib.Core.Bool.{cond}
use lib.Dec.{eqb}
use Rattle.std.specs.Prelude.{Result, Ok, Err}
use Rattle.definition.specs.Numbers.{Params}
use Rattle.definition.specs.Refusals as definition
use Rattle.input.specs.declared.refusal.Refusal.{Refusal}
use Rattle.input.specs.declared.refusal.Refusal.TheVariants as R
use Rattle.input.specs.declared.Verdict.{Verdict}
use Rattle.input.specs.declared.SpectralParams.{SpectralParams}
use Rattle.input.specs.declared.Set.{Set}
use Rattle.input.specs.Said.{verdict_of, refusal_of, verdict_in, params_of, set_in, Answered}
use Rattle.input.proofs.Verdicts.{numbered}

abbrev verdict_back_lem : definition.Verdict → Verdict
verdict_back_lem t = record { number = t.number; place = t.place }

abbrev params_back : Params → SpectralParams
params_back p = record { rounds = p.rounds; degree = p.degree; seed_std = p.seed_std }

pub verdict-once : (v w : Verdict) → verdict_of v ≡ verdict_of w → v ≡ w
verdict-once v w e = ap verdict_back_lem e

pub params-once : (p q : SpectralParams) → params_of p ≡ params_of q → p ≡ q
params-once p q e = ap params_back e

pub set-once : (t : definition.Verdict) (p : Params) (r s : Set) → Answered t p r → Answered t p s → r ≡ s
set-once t p r s a b =
    ap₂ (λ (v : Verdict) (q : SpectralParams). record { verdict = v; params = q })
    (verdict-once r.verdict s.verdict (a.verdict ∙ sym b.verdict))
    (params-once r.params s.params (a.params ∙ sym b.params))

-- ---- a number and a place name one refusal
abbrev refusal_back : definition.Verdict → Refusal
refusal_back v =
    cond (eqb v.number 1) R.Dims (cond (eqb v.number 2) R.Rows (cond (eqb v.number 3) R.Limits (cond (eqb v.number 4) R.Lengths
    (cond (eqb v.number 5) (R.Starts v.place) (cond (eqb v.number 6) (R.Column v.place) (cond (eqb v.number 7) (R.Value v.place)
    (cond (eqb v.number 8) R.Rounds (cond (eqb v.number 9) R.Degree (cond (eqb v.number 10) R.SeedStd
    (cond (eqb v.number 11) (R.Memory v.place) (cond (eqb v.number 12) (R.Chunk v.place) (cond (eqb v.number 13) (R.Done v.place)
    (cond (eqb v.number 14) (R.Undone v.place) (cond (eqb v.number 15) R.NoRun (cond (eqb v.number 16) R.State
    (cond (eqb v.number 17) (R.File v.place) (cond (eqb v.number 18) R.Room (R.Market v.place))))))))))))))))))

back-same : (r : Refusal) → refusal_back (refusal_of r) ≡ r
back-same R.Dims = refl
back-same R.Rows = refl
back-same R.Limits = refl
back-same R.Lengths = refl
back-same (R.Starts i) = refl
back-same (R.Column e) = refl
back-same (R.Value e) = refl
back-same R.Rounds = refl
back-same R.Degree = refl
back-same R.SeedStd = refl
back-same (R.Memory j) = refl
back-same (R.Chunk h) = refl
back-same (R.Done h) = refl
back-same (R.Undone h) = refl
back-same R.NoRun = refl
back-same R.State = refl
back-same (R.File line) = refl
back-same R.Room = refl
back-same (R.Market line) = refl

pub refusal-once : (r s : Refusal) → refusal_of r ≡ refusal_of s → r ≡ s
refusal-once r s e = sym (back-same r) ∙ ap refusal_back e ∙ back-same s

-- so a test's answer is fixed by its verdict
pub tested-once : (r s : Result Unit Refusal) → verdict_in r ≡ verdict_in s → r ≡ s
tested-once (Ok x) (Ok y) e = refl
tested-once (Err r) (Err s) e = ap Err (refusal-once r s e)
tested-once (Ok x) (Err s) e = absurd (numbered s (sym (ap (λ (v : definition.Verdict). v.number) e)))
tested-once (Err r) (Ok y) e = absurd (numbered r (ap (λ (v : definition.Verdict). v.number) e))

-- and a setter's by what C gets of it
pub setter-once : (old : SpectralParams) (t : definition.Verdict) (p : Params) (r s : Result SpectralParams Refusal)
    → Answered t p (set_in old r) → Answered t p (set_in old s) → r ≡ s
setter-once old t p (Ok x) (Ok y) a b = ap Ok (params-once x y (a.params ∙ sym b.params))
setter-once old t p (Err r) (Err s) a b = ap Err (refusal-once r s (a.verdict ∙ sym b.verdict))
setter-once old t p (Ok x) (Err s) a b = absurd (numbered s (ap (λ (v : definition.Verdict). v.number) (b.verdict ∙ sym a.verdict)))
setter-once old t p (Err r) (Ok y) a b = absurd (numbered r (ap (λ (v : definition.Verdict). v.number) (a.verdict ∙ sym b.verdict)))
