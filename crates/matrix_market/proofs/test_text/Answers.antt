use mathlib.Core.Path.{refl}
use Rattle.std.proofs.lemmas.Result.{err_from_is_err_and}
use Rattle.matrix_market.proofs.Bodies.{whole-text}
use Rattle.matrix_market.proofs.test_text.Goals as goal

pub returns-in_err-head : goal.returns-in_err-head
returns-in_err-head c =
    let p = err_from_is_err_and c.from_residual.result c.from_residual.ensures.1 in
    rw (p.1, p.2) (whole-text c.args.text.now _ _ c.in_err-head.ensures.is (record { is = refl; counted = tt }))

pub test_body-requires : goal.test_body-requires
test_body-requires c = record { within = c.in_ok-head.ensures.within; line = c.in_ok-head.ensures.line }

pub returns : goal.returns
returns c = whole-text c.args.text.now _ _ c.in_ok-head.ensures.is c.test_body.ensures
