-- It is the definition, opened.
use Rattle.std.proofs.Common.{refl}
use lib.Ieee.{of_bits}
use Rattle.definition.specs.ChebyshevRayleighRitz.{plain_multipliers}
use Rattle.numbers.proofs.plain_multipliers.Goals as goal

pub returns : goal.returns
unfolding plain_multipliers of_bits
returns c = refl
