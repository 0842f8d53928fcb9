-- What `root`'s contract gives a caller: of a finite value above zero the result is the closest value of the format to its root, and nothing
-- else that the format holds is. Assumes nothing.
use Rattle.std.proofs.Common.{◌≡◌, zero, suc, true, false, T, sym, ◌∙◌, subst}
use lib.Ieee.{Float, nan, inf, fin, binary64, fits}
use lib.Ieee.Positive.{positive}
use Rattle.definition.specs.Root.{root_of}
use Rattle.definition.proofs.RootLaws.{root-fits}
use Rattle.definition.proofs.RootClosest.{Closest, closest_unique, root_of_closest}

root_closest_at : (x : Float) → T (fits binary64 x) → T (positive x) → Closest binary64 x (root_of binary64 x)
root_closest_at nan f p = absurd p
root_closest_at (inf s) f p = absurd p
root_closest_at (fin true m e) f p = absurd p
root_closest_at (fin false zero e) f p = absurd p
root_closest_at (fin false (suc m) e) f p = root_of_closest binary64 m e f

module _ (x y : Float) (f : T (fits binary64 x)) (p : T (positive x)) (e : y ≡ root_of binary64 x) where
  pub root-nearest : Closest binary64 x y
  root-nearest = subst (λ (z : Float). Closest binary64 x z) (sym e) (root_closest_at x f p)

  pub nearest-only : (z : Float) → T (fits binary64 z) → Closest binary64 x z → z ≡ y
  nearest-only z g c = closest_unique binary64 x z (root_of binary64 x) g (root-fits binary64 x f) c (root_closest_at x f p) ∙ sym e
