-- The crate's own types as the definitions have them, and what its functions ask and answer. Definitions only.
use Rattle.std.specs.Prelude.{◌≡◌, Bool, not, List, ℕ, ◌≤◌, leb, ltb, Float, get_or, Result, Ok, Err}
use Rattle.std.specs.Float.{nan}
use Rattle.definition.specs.Arith.{is_finite}
use Rattle.definition.specs.Numbers.{Params, dims_most, rows_most, entries_most, rounds_most}
use Rattle.definition.specs.Refusals as definition
use Rattle.input.specs.declared.refusal.Refusal.{Refusal}
use Rattle.input.specs.declared.refusal.Refusal.TheVariants as R
use Rattle.input.specs.declared.Verdict.{Verdict}
use Rattle.input.specs.declared.SpectralParams.{SpectralParams}
use Rattle.input.specs.declared.Set.{Set}

abbrev pub verdict_of : Verdict → definition.Verdict
verdict_of v = record { number = v.number; place = v.place }

-- a refusal's number and place in document 01
abbrev pub refusal_of : Refusal → definition.Verdict
refusal_of R.Dims = definition.refused 1 0
refusal_of R.Rows = definition.refused 2 0
refusal_of R.Limits = definition.refused 3 0
refusal_of R.Lengths = definition.refused 4 0
refusal_of (R.Starts i) = definition.refused 5 i
refusal_of (R.Column e) = definition.refused 6 e
refusal_of (R.Value e) = definition.refused 7 e
refusal_of R.Rounds = definition.refused 8 0
refusal_of R.Degree = definition.refused 9 0
refusal_of R.SeedStd = definition.refused 10 0
refusal_of (R.Memory j) = definition.refused 11 j
refusal_of (R.Chunk h) = definition.refused 12 h
refusal_of (R.Done h) = definition.refused 13 h
refusal_of (R.Undone h) = definition.refused 14 h
refusal_of R.NoRun = definition.refused 15 0
refusal_of R.State = definition.refused 16 0
refusal_of (R.File line) = definition.refused 17 line
refusal_of R.Room = definition.refused 18 0
refusal_of (R.Market line) = definition.refused 19 line

-- what a test answers
abbrev pub verdict_in : Result Unit Refusal → definition.Verdict
verdict_in (Ok _) = definition.accepted
verdict_in (Err r) = refusal_of r

abbrev pub params_of : SpectralParams → Params
params_of p = record { rounds = p.rounds; degree = p.degree; seed_std = p.seed_std }

-- a setter's answer: its verdict, and the parameters
pub record Answered (v : definition.Verdict) (p : Params) (r : Set) : Type 0 where
  pub verdict : verdict_of r.verdict ≡ v
  pub params : params_of r.params ≡ p

-- a setter's answer as C gets it: the new parameters, or the refusal with the old ones
abbrev pub set_in : SpectralParams → Result SpectralParams Refusal → Set
set_in old (Ok new) = record { verdict = record { number = 0; place = 0 }; params = new }
set_in old (Err r) = record { verdict = record { number = (refusal_of r).number; place = (refusal_of r).place }; params = old }

-- the faults that the scans look for: a column not below n, a value NaN or infinite, lent memory too short
abbrev pub high : ℕ → List ℕ → ℕ → Bool
high n columns e = leb n (get_or columns e 0)

abbrev pub unfinite : List Float → ℕ → Bool
unfinite values e = not (is_finite (get_or values e nan))

abbrev pub short : (ℕ → ℕ) → (ℕ → ℕ) → ℕ → Bool
short lent sizes j = ltb (lent j) (sizes j)

-- what the tests before the last have shown, so that no size overflows
pub record Allowed (d rounds n m : ℕ) : Type 0 where
  pub dims : d ≤ dims_most
  pub rounds-few : rounds ≤ rounds_most
  pub rows : n ≤ rows_most
  pub entries : m ≤ entries_most
