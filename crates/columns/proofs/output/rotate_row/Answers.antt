use mathlib.Core.Path.{◌≡◌, refl}
use Prim.Native.Nat.{◌+◌, ◌-◌}
use native.Mathlib.Omega.{arith}
use Rattle.columns.proofs.Fills.{cells_none, cells_more, cells_end}
use Rattle.definition.specs.ChebyshevRayleighRitz.{rotated}
use Rattle.columns.proofs.output.rotate_row.Goals as goal

pub loop-j-init : goal.loop-j-init
loop-j-init c = cells_none _ _ _ _

pub loop-j-preserved : goal.loop-j-preserved
unfolding rotated
loop-j-preserved c =
    let l = c.loop-j in
    let at = c.args.at in
    let e : at + l.j - at ≡ l.j = omega arith in
    cells_more _ _ _ _ l.invariant c.loop-j-test.true (rw (e, c.turned_number.ensures))

pub returns : goal.returns
returns c = cells_end _ _ _ _ c.loop-j.invariant c.loop-j-test.false refl
