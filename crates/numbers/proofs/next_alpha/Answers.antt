-- It is the definition, opened.
use Rattle.std.proofs.Common.{refl}
use lib.Ieee.{of_bits}
use Rattle.definition.specs.ChebyshevRayleighRitz.{next_alpha, t1}
use Rattle.numbers.proofs.next_alpha.Goals as goal

pub returns : goal.returns
unfolding next_alpha t1 of_bits
returns c = refl
