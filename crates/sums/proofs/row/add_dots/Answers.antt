use mathlib.Core.Path.{refl}
use native.Mathlib.Omega.{arith}
use borrow.Author.Tests.{eq-eqb, ne_eqb}
use Rattle.definition.specs.Arith.{ieee64}
use Rattle.sums.proofs.Partials.{raised-none, raised-more, raised_to}
use Rattle.sums.proofs.row.add_dots.Goals as goal

pub loop-p-init : goal.loop-p-init
loop-p-init c = (omega arith, raised-none ieee64 _ _ _ _ (omega arith))

pub loop-p-preserved : goal.loop-p-preserved
loop-p-preserved c =
    let l = c.loop-p in
    let a = c.args in
    (omega arith, raised-more ieee64 0 _ _ _ (omega arith) l.invariant.1 (rw (ne_eqb l.p a.c (omega arith))))

pub returns : goal.returns
returns c =
    let l = c.loop-p in
    let a = c.args in
    raised-more ieee64 0 _ _ _ (omega arith) (raised_to ieee64 0 _ _ l.invariant.1 (omega arith)) (rw (eq-eqb a.c a.c refl))
