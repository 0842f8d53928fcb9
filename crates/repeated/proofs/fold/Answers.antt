use mathlib.Core.Path.{refl}
use native.Mathlib.Omega.{arith}
use Rattle.repeated.specs.Tables.{folded}
use Rattle.repeated.proofs.fold.Goals as goal

pub returns : goal.returns
unfolding folded
returns c = (refl, omega arith)
