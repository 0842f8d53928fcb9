use lib.Ieee.{nan}
use Rattle.columns.proofs.Fills.{turn_none, turn_end, turn_each}
use Rattle.columns.proofs.output.change_rows.Goals as goal

pub loop-r-init : goal.loop-r-init
loop-r-init g c = λ f h. turn_none _ _ _ _

pub loop-r-preserved : goal.loop-r-preserved
loop-r-preserved g c = λ f h. turn_each nan f _ _ _ _ (c.loop-r.invariant f h) c.loop-r-test.true c.change_row.auto.part (c.change_row.ensures f h)

pub returns : goal.returns
returns g c = λ f h. turn_end _ _ _ _ (c.loop-r.invariant f h) c.loop-r-test.false
