-- Laws of `none_from`, for a loop that looks at place after place from a up to e and has come to i. Assumes nothing.
use mathlib.Core.Path.{◌≡◌, refl, sym, ap, ◌∙◌}
use mathlib.Core.Bool.{Bool, true, false, not, ◌||◌, false≢true}
use Prim.Native.Nat.{ℕ, ◌+◌, ◌≤◌, ◌<◌}
use native.Mathlib.Omega.{arith}
use borrow.Author.Tests.{eq-eqb, ne_eqb}
use lib.Dec.{eqb}
use Rattle.definition.proofs.Fill.{split}
use Rattle.definition.proofs.First.{first-here, first-later, first-none}
use Rattle.machine.specs.Ranges.{none_from}
use Rattle.ready.proofs.Tested.{none-at, at_none}

module _ (f : ℕ → Bool) (a e i : ℕ) where
  -- the places passed have no fault
  pub none-step : i < e → f i ≡ false → none_from f a e ≡ none_from f i e → none_from f a e ≡ none_from f (i + 1) e
  unfolding none_from
  none-step p h s = s ∙ ap (λ (x : ℕ). eqb x e) (first-later f e i p h)

  pub none_found : i < e → f i ≡ true → none_from f a e ≡ none_from f i e → false ≡ none_from f a e
  unfolding none_from
  none_found p h s = sym (s ∙ ap (λ (x : ℕ). eqb x e) (first-here f e i p h) ∙ ne_eqb i e (λ q. omega arith))

  pub none_end : i ≡ e → none_from f a e ≡ none_from f i e → true ≡ none_from f a e
  unfolding none_from
  none_end p s = sym (s ∙ ap (λ (x : ℕ). eqb x e) (first-none f e i (omega arith)) ∙ eq-eqb i e p)

-- ---- a loop that looks at every place, whatever it has found: the flag says whether one of those passed has a fault
-- a place with a fault
pub found_at : (f : ℕ → Bool) (a e i : ℕ) → a ≤ i → i < e → f i ≡ true → none_from f a e ≡ false
found_at f a e i p q h = go (none_from f a e) refl
  where
    go : (b : Bool) → none_from f a e ≡ b → none_from f a e ≡ false
    go true z = absurd (false≢true (sym (none-at f a e (omega arith) z i p q) ∙ h))
    go false z = z

-- one place more
pub found-more : (f : ℕ → Bool) (a i : ℕ) → a ≤ i → (not (none_from f a i) || f i) ≡ not (none_from f a (i + 1))
found-more f a i l = by (none_from f a i) (f i) refl refl
  where
    by : (b d : Bool) → none_from f a i ≡ b → f i ≡ d → (not b || d) ≡ not (none_from f a (i + 1))
    by true true p q = ap not (sym (found_at f a (i + 1) i l (omega arith) q))
    by true false p q =
        ap not (sym (at_none f a (i + 1) (omega arith) (λ j u v. split j i (λ s. none-at f a i l p j u s) (λ s. let z : j ≡ i = omega arith in ap f z ∙ q))))
    by false d p q = ap not (sym (shorter (none_from f a (i + 1)) refl))
      where
        -- a scan that passes has none below its end
        shorter : (b : Bool) → none_from f a (i + 1) ≡ b → none_from f a (i + 1) ≡ false
        shorter true z = absurd (false≢true (sym p ∙ at_none f a i l (λ j u v. none-at f a (i + 1) (omega arith) z j u (omega arith))))
        shorter false z = z

-- no place looked at yet
pub found_none : (f : ℕ → Bool) (a : ℕ) → false ≡ not (none_from f a a)
found_none f a = ap not (sym (at_none f a a (omega arith) (λ i p q. absurd (omega arith))))
