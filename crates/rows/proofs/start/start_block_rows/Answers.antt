use mathlib.Core.Path.{refl}
use native.Mathlib.Omega.{arith}
use lib.ListN.{length-set}
use Rattle.definition.specs.Arith.{narrowed}
use Rattle.definition.proofs.Fill.{fill_start, fill_step, fill_to}
use Rattle.rows.proofs.start.start_block_rows.Goals as goal

pub loop-p-init : goal.loop-p-init
loop-p-init c = (omega arith, refl, fill_start _ _ _)

pub loop-p-preserved : goal.loop-p-preserved
unfolding narrowed
loop-p-preserved c =
    let l = c.loop-p in
    (omega arith, simp length-set l.invariant.1, fill_step _ _ _ _ (omega arith) l.invariant.2 c.splitmix_unit.ensures)

pub returns : goal.returns
returns c = fill_to _ _ _ c.loop-p.invariant.2 (omega arith)
