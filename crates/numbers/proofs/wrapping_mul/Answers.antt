use Rattle.std.proofs.Common.{refl}
use Rattle.definition.specs.SplitmixUnit.{wrap_mul}
use Rattle.numbers.proofs.wrapping_mul.Goals as goal

pub returns : goal.returns
unfolding wrap_mul
returns c = refl
