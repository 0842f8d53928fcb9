use Rattle.std.proofs.lemmas.Bool.Decides.{nat_tests}
use Rattle.scanning.specs.Inner.{is_before}
use Rattle.scanning.proofs.is_before.Goals as goal
use native.Mathlib.Omega.{arith}

pub returns : goal.returns
unfolding is_before
returns c = grind (arith, nat_tests)
