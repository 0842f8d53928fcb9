-- The totals' place 0, and its root.
use mathlib.Core.Path.{◌≡◌, ap, ◌∙◌}
use Prim.Native.Nat.{◌+◌, ◌*◌}
use native.Mathlib.Omega.{arith}
use mathlib.Core.List.{List}
use lib.ListN.{get_or, length-replicate}
use lib.Ieee.{Float, nan, binary64}
use Rattle.definition.specs.Arith.{ieee64}
use Rattle.definition.specs.Root.{root_of}
use Rattle.definition.proofs.Fill.{fill_in}
use Rattle.definition.proofs.Sums.{sum_cong}
use Rattle.sums.proofs.total_norm.Goals as goal

pub returns : goal.returns
returns c =
    let a = c.args in
    c.root.ensures
    ∙ ap (root_of binary64)
    (ap (λ (l : List Float). get_or l 0 nan) c.totals.ensures
    ∙ fill_in 0 1 _ _ 0 nan (omega arith) (omega arith) (omega (arith, length-replicate 225 ieee64.zero))
    ∙ sum_cong ieee64 _ _ 0 a.chunks (λ h l u. let e : h * (a.k * a.k) + 0 ≡ h * (a.k * a.k) = omega arith in rw e))
