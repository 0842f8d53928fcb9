-- Which of a chunk's rows each stage tests, and a stage by its name and by its number. Assumes nothing.
use mathlib.Core.Path.{◌≡◌, refl, sym, ap, ◌∙◌}
use mathlib.Core.Logic.{◌⊎◌, inl, inr, ⊎_elim}
use mathlib.Core.Bool.{Bool, true, false, not, ◌&&◌, ◌||◌}
use mathlib.Core.List.{List, [], ◌∷◌}
use Prim.Native.Nat.{ℕ, ◌<◌}
use native.Mathlib.Omega.{arith}
use borrow.Author.Tests.{ne_eqb}
use lib.ListN.{get_or}
use Rattle.machine.specs.State.{Asked}
use Rattle.machine.specs.Ranges.{starts_sound, columns_sound}
use Rattle.state.specs.declared.stage.Stage.{Stage}
use Rattle.state.specs.declared.stage.Stage.TheVariants as at
use Rattle.state.specs.Stages.{number_of, StageAt}
use Rattle.guard.specs.Rows.{rows_test}

and-true : (a : Bool) → (a && true) ≡ a
and-true true = refl
and-true false = refl

pub not-not : (a : Bool) → not (not a) ≡ a
not-not true = refl
not-not false = refl

pub or_true : (a : Bool) → (a || true) ≡ true
or_true true = refl
or_true false = refl

pub or_false : (a : Bool) → (a || false) ≡ a
or_false true = refl
or_false false = refl

-- ---- a stage by its name and by its number
abbrev stage_back : ℕ → Stage
stage_back n =
    get_or
    (at.Empty ∷ at.Degrees ∷ at.Edges ∷ at.V0 ∷ at.StartBlock ∷ at.FilterPass ∷ at.NormBefore ∷ at.FirstDots ∷ at.FirstSubtract ∷ at.SecondDots
    ∷ at.SecondSubtract ∷ at.NormAfter ∷ at.Write ∷ at.PlainPass ∷ at.Products ∷ at.Rotate ∷ at.Sums ∷ at.Centre ∷ at.Squares ∷ at.Scale ∷ [])
    n at.Ended

back-same : (s : Stage) → stage_back (number_of s) ≡ s
back-same at.Empty = refl
back-same at.Degrees = refl
back-same at.Edges = refl
back-same at.V0 = refl
back-same at.StartBlock = refl
back-same at.FilterPass = refl
back-same at.NormBefore = refl
back-same at.FirstDots = refl
back-same at.FirstSubtract = refl
back-same at.SecondDots = refl
back-same at.SecondSubtract = refl
back-same at.NormAfter = refl
back-same at.Write = refl
back-same at.PlainPass = refl
back-same at.Products = refl
back-same at.Rotate = refl
back-same at.Sums = refl
back-same at.Centre = refl
back-same at.Squares = refl
back-same at.Scale = refl
back-same at.Ended = refl

module _ {st : ℕ} {s : Stage} (e : StageAt st s) (t : Stage) (early : number_of t < 20) where
  pub its_number : s ≡ t → st ≡ number_of t
  its_number p = omega (arith, early, e.numbered, ap number_of p)

  pub its_name : st ≡ number_of t → s ≡ t
  its_name p =
      let n : number_of s ≡ number_of t = omega (arith, early, e.numbered, p) in
      sym (back-same s) ∙ ap stage_back n ∙ back-same t

-- ---- the rows that a stage tests
module _ (a : Asked) (starts columns edge_columns : List ℕ) (h : ℕ) {st : ℕ} where
  -- the degrees
  pub tests_starts : st ≡ 1 → starts_sound a starts h ≡ rows_test st a starts columns edge_columns h
  unfolding rows_test
  tests_starts e = rw e (sym (and-true (starts_sound a starts h)))

  -- the edges
  pub tests_columns : st ≡ 2 → (starts_sound a starts h && columns_sound a starts columns h) ≡ rows_test st a starts columns edge_columns h
  unfolding rows_test
  tests_columns e = rw e (ap (λ (b : Bool). starts_sound a starts h && b) (sym (and-true (columns_sound a starts columns h))))

  -- the filter's passes and the plain pass
  pub tests_edges : (st ≡ 5) ⊎ (st ≡ 13)
      → (starts_sound a starts h && columns_sound a starts edge_columns h) ≡ rows_test st a starts columns edge_columns h
  unfolding rows_test
  tests_edges e = ⊎_elim (λ f. rw f refl) (λ f. rw f refl) e

  -- the others
  pub tests_none : (st ≡ 1 → ⊥) → (st ≡ 2 → ⊥) → ((st ≡ 5) ⊎ (st ≡ 13) → ⊥) → true ≡ rows_test st a starts columns edge_columns h
  unfolding rows_test
  tests_none p q r = simp (ne_eqb st 1 p, ne_eqb st 2 q, ne_eqb st 5 (λ e. r (inl e)), ne_eqb st 13 (λ e. r (inr e)))
