use Rattle.std.proofs.Common.{arith}
use Rattle.numbers.proofs.Digits.{turn_first_lem, turn_odd, turn_even, turn_small, turn_last}
use Rattle.numbers.proofs.whole.first_digits.Goals as goal
use Rattle.numbers.proofs.whole.first_digits.Goals.{then-s-t, else-s-t}

pub loop-i-init : goal.loop-i-init
loop-i-init c = turn_first_lem c.args.a c.requires

pub overflow_mul-t : goal.overflow_mul-t
overflow_mul-t c = omega (arith, turn_small c.loop-i.invariant)

pub overflow_add-t : goal.overflow_add-t
overflow_add-t c = omega (arith, turn_small c.loop-i.invariant)

pub overflow_mul-s : goal.overflow_mul-s
overflow_mul-s c = omega (arith, turn_small c.loop-i.invariant)

pub overflow_add-s : goal.overflow_add-s
overflow_add-s c = omega (arith, turn_small c.loop-i.invariant)

pub overflow_mul-q : goal.overflow_mul-q
overflow_mul-q c = omega (arith, turn_small c.loop-i.invariant)

pub returns : goal.returns
returns c = let l = c.loop-i in turn_last c.args.a l.bits l.q l.r l.i l.invariant c.loop-i-test.false

pub loop-i-preserved : goal.loop-i-preserved
loop-i-preserved c =
    let l = c.loop-i in
    let a = c.args.a in
    let t = c.loop-i-test.true in
    elim c.if-s-t.branch [
      | then-s-t w ↦ rw (w.less-is, w.digit-is) (turn_odd a l.bits l.q l.r l.i l.invariant t w.if-s-t.true)
      | else-s-t w ↦ rw (w.less-is, w.digit-is) (turn_even a l.bits l.q l.r l.i l.invariant t w.if-s-t.false)
    ]
