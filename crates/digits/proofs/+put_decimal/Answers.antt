use mathlib.Core.Path.{ap}
use native.Mathlib.Omega.{arith}
use lib.ListN.{length}
use Rattle.digits.proofs.Decimals.{decimal-small, decimal_longer}
use Rattle.digits.proofs.Putting.{decimal-first-put, decimal-more-put}
use Rattle.digits.proofs.+put_decimal.Goals as goal

pub bounds-out-at : goal.bounds-out-at
bounds-out-at t c = omega (arith, c.requires, ap length (decimal-small c.args.x c.if-x-lt10.true))

pub returns-then-x-lt10 : goal.returns-then-x-lt10
returns-then-x-lt10 t c = (
  omega (arith, ap length (decimal-small c.args.x c.if-x-lt10.true)),
  decimal-first-put _ _ _ c.requires c.if-x-lt10.true,
)

pub put_decimal-last-requires : goal.put_decimal-last-requires
put_decimal-last-requires t c = (omega arith, omega (arith, c.requires, decimal_longer c.args.x (omega arith) (omega arith)))

pub bounds-out-last : goal.bounds-out-last
bounds-out-last t c =
    let longer = decimal_longer c.args.x (omega arith) (omega arith) in
    omega (arith, c.requires, longer, c.put_decimal-last.ensures.0, c.put_decimal-last.auto.out)

pub returns : goal.returns
returns t c =
    let longer = decimal_longer c.args.x (omega arith) (omega arith) in (
      omega (arith, longer, c.put_decimal-last.ensures.0),
      decimal-more-put _ _ _ c.requires (omega arith) (omega arith) _ _ c.put_decimal-last.ensures.1 c.put_decimal-last.ensures.0,
    )
