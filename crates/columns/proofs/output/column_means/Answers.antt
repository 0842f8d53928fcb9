use mathlib.Core.Path.{refl}
use native.Mathlib.Omega.{arith}
use lib.ListN.{length-set}
use Rattle.definition.proofs.Fill.{fill_start, fill_step, fill_to}
use Rattle.columns.proofs.output.column_means.Goals as goal

pub loop-j-init : goal.loop-j-init
loop-j-init c = (omega arith, refl, fill_start _ _ _)

pub loop-j-preserved : goal.loop-j-preserved
loop-j-preserved c =
    let l = c.loop-j in
    (omega arith, simp length-set l.invariant.1, fill_step _ _ _ _ (omega arith) l.invariant.2 refl)

pub returns : goal.returns
returns c = fill_to _ _ _ c.loop-j.invariant.2 (omega arith)
