use mathlib.Core.Path.{refl}
use native.Mathlib.Omega.{arith}
use Rattle.repeated.specs.Tables.{hash_of}
use Rattle.repeated.proofs.hash.Goals as goal

pub returns : goal.returns
unfolding hash_of
returns c = (refl, omega arith)
