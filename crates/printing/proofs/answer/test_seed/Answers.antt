-- each test passes until one refuses.
use mathlib.Core.Path.{refl}
use native.Mathlib.Nat.{mul-le-mul}
use native.Mathlib.Omega.{arith}
use Rattle.input.proofs.Accepted.{dims_valid}
use Rattle.input.proofs.Verdicts.{stops, passed}
use Rattle.printing.specs.Answer.{test_seed}
use Rattle.printing.proofs.Answers.{no_rows, many_rows, short-seed, right-seed}
use Rattle.printing.proofs.answer.test_seed.Goals as goal

pub returns-in_err-test_dims : goal.returns-in_err-test_dims
unfolding test_seed
returns-in_err-test_dims c = stops _ _ c.from_residual.ensures.1 _ c.in_err-test_dims.ensures

pub returns-then-n-eq0 : goal.returns-then-n-eq0
returns-then-n-eq0 c =
    let a = c.args in
    no_rows a.d a.n a.numbers c.in_ok-test_dims.ensures refl c.if-n-eq0.true

pub returns-then-n-gt-ROWS_MOST : goal.returns-then-n-gt-ROWS_MOST
returns-then-n-gt-ROWS_MOST c =
    let a = c.args in
    many_rows a.d a.n a.numbers c.in_ok-test_dims.ensures refl c.if-n-gt-ROWS_MOST.true

pub overflow_mul-n : goal.overflow_mul-n
overflow_mul-n c =
    let dims = (dims_valid c.args.d (passed c.in_ok-test_dims.ensures)).1 in
    omega (arith, mul-le-mul c.if-n-gt-ROWS_MOST.false dims)

pub returns-then-numbers-n : goal.returns-then-numbers-n
returns-then-numbers-n c =
    let a = c.args in
    short-seed a.d a.n a.numbers c.in_ok-test_dims.ensures refl c.if-n-eq0.false c.if-n-gt-ROWS_MOST.false c.if-numbers-n.true

pub returns : goal.returns
returns c =
    let a = c.args in
    right-seed a.d a.n a.numbers c.in_ok-test_dims.ensures refl c.if-n-eq0.false c.if-n-gt-ROWS_MOST.false c.if-numbers-n.false
