use native.Mathlib.Omega.{arith}
use Rattle.repeated.specs.Tables.{key_of}
use Rattle.repeated.proofs.key_of.Goals as goal

pub overflow_mul-result : goal.overflow_mul-result
overflow_mul-result c = omega (arith, c.fold.ensures.1)

pub overflow_add-result : goal.overflow_add-result
overflow_add-result c = omega (arith, c.fold.ensures.1, c.fold-2.ensures.1)

pub returns : goal.returns
unfolding key_of
returns c = rw (c.fold.ensures.0, c.fold-2.ensures.0)
