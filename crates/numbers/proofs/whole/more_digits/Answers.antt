-- `Divided` has every bound, and the quotient is right or too large by one.
use Rattle.std.proofs.Common.{arith}
use Rattle.numbers.proofs.Digits.{Divided, divided, Ended, exact, corrected}
use Rattle.numbers.proofs.whole.more_digits.Goals as goal
use Rattle.numbers.proofs.whole.more_digits.Goals.{Joined-left-square, Start, then-left-square, else-left-square}

bounds : (c : Start) → Divided c.args.s c.args.r c.args.base c.args.low c.requires
bounds c = divided c.args.s c.args.r c.args.base c.args.low c.requires

ended : (c : Joined-left-square) → Ended c.args.s c.args.r c.args.base c.args.low c.requires c.if-left-square.less c.if-left-square.more
ended c =
    let a = c.args in
    let h = c.requires in
    elim c.if-left-square.branch [
      | then-left-square w ↦ rw (w.less-is, w.more-is) (corrected a.s a.r a.base a.low h w.if-left-square.true)
      | else-left-square w ↦ rw (w.less-is, w.more-is) (exact a.s a.r a.base a.low h w.if-left-square.false)
    ]

pub overflow_mul-twice : goal.overflow_mul-twice
overflow_mul-twice c = omega (arith, bounds (goal.at.overflow_mul-twice c).Start)

pub overflow_mul-n : goal.overflow_mul-n
overflow_mul-n c = omega (arith, bounds (goal.at.overflow_mul-n c).Start)

pub overflow_add-n : goal.overflow_add-n
overflow_add-n c = omega (arith, bounds (goal.at.overflow_add-n c).Start)

pub overflow_mul-left : goal.overflow_mul-left
overflow_mul-left c = omega (arith, bounds (goal.at.overflow_mul-left c).Start)

pub overflow_add-left : goal.overflow_add-left
overflow_add-left c = omega (arith, bounds (goal.at.overflow_add-left c).Start)

pub overflow_mul-square : goal.overflow_mul-square
overflow_mul-square c = omega (arith, bounds (goal.at.overflow_mul-square c).Start)

pub overflow_mul-q : goal.overflow_mul-q
overflow_mul-q c = omega (arith, bounds (goal.at.overflow_mul-q c).Start)

pub overflow_add-q : goal.overflow_add-q
overflow_add-q c = omega (arith, bounds (goal.at.overflow_add-q c).Start)

pub overflow_mul-more : goal.overflow_mul-more
overflow_mul-more c = omega (arith, bounds (goal.at.overflow_mul-more c).Start)

pub overflow_sub-more : goal.overflow_sub-more
overflow_sub-more c = omega (arith, bounds (goal.at.overflow_sub-more c).Start)

pub overflow_add-rest : goal.overflow_add-rest
overflow_add-rest c = record { fits = (ended (goal.at.overflow_add-rest c).Joined-left-square).narrow }

pub overflow_sub-rest : goal.overflow_sub-rest
overflow_sub-rest c = (ended (goal.at.overflow_sub-rest c).Joined-left-square).enough

pub returns : goal.returns
returns c = (ended (goal.at.returns c).Joined-left-square).root

pub overflow_sub-root : goal.overflow_sub-root
overflow_sub-root c = (ended (goal.at.overflow_sub-root c).Joined-left-square).lowered
