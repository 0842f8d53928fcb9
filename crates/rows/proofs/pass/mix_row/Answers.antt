use mathlib.Core.Path.{refl}
use native.Mathlib.Omega.{arith}
use lib.ListN.{length-set}
use Rattle.definition.specs.MatvecCombine.{mixed_with, shifted}
use Rattle.definition.proofs.Fill.{fill_start, fill_step, fill_to}
use Rattle.rows.proofs.pass.mix_row.Goals as goal

pub loop-c-init : goal.loop-c-init
loop-c-init c = (omega arith, refl, fill_start _ _ _)

pub loop-c-preserved : goal.loop-c-preserved
unfolding mixed_with shifted
loop-c-preserved c =
    let l = c.loop-c in
    (omega arith, simp length-set l.invariant.1, fill_step _ _ _ _ (omega arith) l.invariant.2 refl)

pub returns : goal.returns
returns c = fill_to _ _ _ c.loop-c.invariant.2 (omega arith)
