use mathlib.Core.Path.{◌≡◌, refl}
use Prim.Native.Nat.{◌+◌, ◌-◌}
use native.Mathlib.Omega.{arith}
use lib.Ieee.{nan}
use Rattle.columns.proofs.Fills.{cells_none, cells_more, cells_ahead, cells_end}
use Rattle.columns.proofs.output.change_row.Goals as goal

pub loop-j-init : goal.loop-j-init
loop-j-init g c = λ f h. cells_none _ _ _ _

pub loop-j-preserved : goal.loop-j-preserved
loop-j-preserved g c =
    λ f h.
    let l = c.loop-j in
    let at = c.args.at in
    let t = l.invariant f h in
    let e : at + l.j - at ≡ l.j = omega arith in
    cells_more _ _ _ _ t c.loop-j-test.true (rw (← cells_ahead _ _ _ _ nan t, e) (h _ _ _ c.change.ensures))

pub returns : goal.returns
returns g c = λ f h. cells_end _ _ _ _ (c.loop-j.invariant f h) c.loop-j-test.false refl
