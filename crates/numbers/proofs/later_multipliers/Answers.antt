-- It is the definition, opened.
use Rattle.std.proofs.Common.{refl}
use lib.Ieee.{of_bits}
use Rattle.definition.specs.ChebyshevRayleighRitz.{later_multipliers}
use Rattle.numbers.proofs.later_multipliers.Goals as goal

pub returns : goal.returns
unfolding later_multipliers of_bits
returns c = refl
