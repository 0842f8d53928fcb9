use native.Mathlib.Omega.{arith}
use Rattle.matrix_market.proofs.Sizes.{sizes_refused, sizes_kept, sizes_told}
use Rattle.matrix_market.proofs.sizes_of.Goals as goal

pub returns-in_err-test_limits : goal.returns-in_err-test_limits
returns-in_err-test_limits c = let a = c.args in sizes_refused a.n a.m _ _ c.from_residual.ensures.1 c.in_err-test_limits.ensures

pub overflow_add-result : goal.overflow_add-result
overflow_add-result c = let a = c.args in omega (arith, sizes_kept a.n a.m c.in_ok-test_limits.ensures)

pub doubled-requires : goal.doubled-requires
doubled-requires c = let a = c.args in (sizes_kept a.n a.m c.in_ok-test_limits.ensures).entries

pub returns : goal.returns
returns c = let a = c.args in sizes_told a.n a.m c.in_ok-test_limits.ensures c.doubled.result c.doubled.ensures
