-- It is the definition, opened.
use Rattle.std.proofs.Common.{refl}
use lib.Ieee.{of_bits}
use Rattle.definition.specs.ChebyshevRayleighRitz.{first_alpha, t1}
use Rattle.numbers.proofs.first_alpha.Goals as goal

pub returns : goal.returns
unfolding first_alpha t1 of_bits
returns c = refl
