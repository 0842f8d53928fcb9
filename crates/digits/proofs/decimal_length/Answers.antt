use mathlib.Core.Path.{ap}
use native.Mathlib.Omega.{arith}
use lib.ListN.{length}
use Rattle.digits.proofs.Decimals.{decimal-small, decimal_longer, decimal-most}
use Rattle.digits.proofs.decimal_length.Goals as goal

pub overflow_add-count : goal.overflow_add-count
overflow_add-count c = omega (arith, decimal-most c.args.x)

pub loop-rest-preserved : goal.loop-rest-preserved
loop-rest-preserved c = (omega arith, omega arith, omega (arith, decimal_longer c.loop-rest.rest (omega arith) (omega arith)))

pub returns : goal.returns
returns c = omega (arith, ap length (decimal-small c.loop-rest.rest (omega arith)))
