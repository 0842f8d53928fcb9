-- It is the definition, opened.
use Rattle.std.proofs.Common.{refl}
use lib.Ieee.{of_bits}
use Rattle.definition.specs.ChebyshevRayleighRitz.{first_multipliers}
use Rattle.numbers.proofs.first_multipliers.Goals as goal

pub returns : goal.returns
unfolding first_multipliers of_bits
returns c = refl
