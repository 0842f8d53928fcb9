use mathlib.Core.Path.{◌≡◌}
use Prim.Native.Nat.{◌-◌}
use native.Mathlib.Nat.{le_refl}
use native.Mathlib.Omega.{arith}
use Rattle.definition.specs.Arith.{ieee64}
use Rattle.sums.proofs.Partials.{raised-none, raised-next, raised_to, summed-none, summed-more, summed_to}
use Rattle.sums.proofs.rows.terms.Goals as goal

pub loop-i-init : goal.loop-i-init
loop-i-init g c = λ f h. summed-none ieee64 _ _ _

pub loop-i-preserved : goal.loop-i-preserved
loop-i-preserved g c =
    λ f h. summed-more ieee64 _ _ _ _ (omega arith) (c.loop-i.invariant f h)
    (raised_to ieee64 0 _ _
    (raised-next ieee64 0 0 _ _ _ _ (le_refl _) (omega arith) (raised-none ieee64 0 0 _ _ (le_refl _)) (c.add_terms.ensures f h)
    (λ q u v. let e : q - 0 ≡ q = omega arith in rw e))
    (omega arith))

pub returns : goal.returns
returns g c = λ f h. summed_to ieee64 _ _ _ (c.loop-i.invariant f h) (omega arith)
