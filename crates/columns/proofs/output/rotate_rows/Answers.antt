use mathlib.Core.Path.{◌≡◌, ap}
use Prim.Native.Nat.{◌+◌, ◌*◌, ◌-◌}
use native.Mathlib.Omega.{arith}
use lib.ListN.{get_or}
use lib.Ieee.{nan}
use Rattle.definition.specs.Arith.{ieee64}
use Rattle.definition.specs.Memory.{place, block_of}
use Rattle.definition.proofs.Places.{row_end}
use Rattle.columns.proofs.Fills.{turn_none, turn_end, turn_row}
use Rattle.definition.specs.SpectralEmbedding.{unscaled}
use Rattle.columns.proofs.Lent.{cut_number}
use Rattle.columns.proofs.Locals.{rotated_cong}
use Rattle.columns.proofs.output.rotate_rows.Goals as goal
use Rattle.columns.proofs.output.rotate_rows.Goals.{In-loop-r}

pub slice_bounds-rotate_row-end : goal.slice_bounds-rotate_row-end
slice_bounds-rotate_row-end c =
    omega (arith, c.requires.turned.basis, row_end (c.args.own.first + c.loop-r.r) c.args.ritz.k c.args.own.n (omega (arith, c.requires.span, c.loop-r-test.true)))

pub loop-r-init : goal.loop-r-init
loop-r-init c = turn_none _ _ _ _

pub returns : goal.returns
returns c = turn_end _ _ _ _ c.loop-r.invariant c.loop-r-test.false

pub loop-r-preserved : goal.loop-r-preserved
unfolding unscaled block_of place
loop-r-preserved c =
    let r = c.loop-r.r in
    let i = c.args.own.first + r in
    let call = c.rotate_row in
    turn_row _ _ _ _ _ c.loop-r.invariant c.loop-r-test.true call.auto.part call.ensures
    (λ j h.
    let e : r * c.args.own.width + j - r * c.args.own.width ≡ j = omega arith in
    rw e (ap (λ x. ieee64.mul x (get_or c.args.inverse.now i nan)) (rotated_cong ieee64 _ _ _ _ _ _ i _ (λ p q. cut_number (i * c.args.ritz.k) c.args.ritz.k _ nan p q))))
