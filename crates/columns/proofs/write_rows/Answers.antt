use lib.Ieee.{nan}
use Rattle.definition.specs.Arith.{ieee64}
use Rattle.columns.proofs.Fills.{turn_none, turn_end, turn_ahead, turn_column}
use Rattle.columns.proofs.write_rows.Goals as goal

pub loop-r-init : goal.loop-r-init
loop-r-init g c = λ f h. turn_none _ _ _ _

pub loop-r-preserved : goal.loop-r-preserved
loop-r-preserved g c =
    λ f h. let t = c.loop-r.invariant f h in
    turn_column ieee64 _ _ _ _ _ c.requires.part.column t c.loop-r-test.true
    (h c.loop-r.r c.number.result c.loop-r-test.true (rw (turn_ahead _ _ _ _ nan c.args.column.c t) at c.number.ensures))

pub returns : goal.returns
returns g c = λ f h. turn_end _ _ _ _ (c.loop-r.invariant f h) c.loop-r-test.false
