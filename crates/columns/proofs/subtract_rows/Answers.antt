use mathlib.Core.Path.{ap, ◌∙◌}
use Prim.Native.Nat.{◌*◌}
use lib.Ieee.{nan}
use Rattle.definition.specs.Arith.{ieee64}
use Rattle.definition.specs.OrthonormalizeBlock.{subtracted}
use Rattle.columns.proofs.Fills.{turn_none, turn_end, turn_ahead, turn_column}
use Rattle.columns.proofs.Lent.{cut_number}
use Rattle.columns.proofs.Locals.{delta_cong}
use Rattle.columns.proofs.subtract_rows.Goals as goal
use Rattle.columns.proofs.subtract_rows.Goals.{In-loop-r}

pub loop-r-init : goal.loop-r-init
loop-r-init c = turn_none _ _ _ _

pub returns : goal.returns
unfolding subtracted
returns c = turn_end _ _ _ _ c.loop-r.invariant c.loop-r-test.false

pub loop-r-preserved : goal.loop-r-preserved
loop-r-preserved c =
    let l = c.loop-r in
    let k = c.args.column.width in
    turn_column ieee64 _ _ _ _ _ c.requires.part.column l.invariant c.loop-r-test.true
    (ap (λ x. ieee64.sub x c.row_delta-taken.result) (turn_ahead _ _ _ _ nan c.args.column.c l.invariant)
    ∙ ap (ieee64.sub _) (c.row_delta-taken.ensures ∙ delta_cong ieee64 _ _ _ _ _ (λ p h. cut_number (l.r * k) c.args.column.c _ nan p h ∙ turn_ahead _ _ _ _ nan p l.invariant)))
