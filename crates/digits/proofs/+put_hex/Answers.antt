use native.Mathlib.Omega.{arith}
use Rattle.digits.proofs.Putting.{hex-none-put, hex-more-put}
use Rattle.digits.proofs.+put_hex.Goals as goal

pub returns-then-m-eq0 : goal.returns-then-m-eq0
returns-then-m-eq0 t c = hex-none-put c.args.m c.args.x c.args.at c.args.out.now c.if-m-eq0.true

pub returns : goal.returns
returns t c = hex-more-put _ _ _ _ _ _ (omega arith) c.requires c.put_hex.ensures c.hex_digit.ensures
