use Rattle.std.proofs.Common.{refl}
use lib.Ieee.{of_bits}
use Rattle.definition.specs.SplitmixUnit.{unit_of, wrap_add}
use Rattle.definition.proofs.Splitmix.{splitmix_from, castable}
use Rattle.numbers.proofs.splitmix_unit.Goals as goal

pub int_to_float-result : goal.int_to_float-result
unfolding wrap_add
int_to_float-result c = castable _ (splitmix_from _ _ _ _ refl c.wrapping_mul-z1.ensures c.wrapping_mul-z2.ensures).0

pub returns : goal.returns
unfolding unit_of wrap_add of_bits
returns c = (splitmix_from _ _ _ _ refl c.wrapping_mul-z1.ensures c.wrapping_mul-z2.ensures).1
