-- Each arm returns what the test picks.
use lib.Ieee.{of_bits}
use Rattle.definition.specs.SpectralEmbedding.{v0_of}
use Rattle.numbers.proofs.v0_of.Goals as goal

pub returns-then-norm : goal.returns-then-norm
unfolding v0_of of_bits
returns-then-norm c = simp c.if-norm.true

pub returns-else-norm : goal.returns-else-norm
unfolding v0_of of_bits
returns-else-norm c = simp c.if-norm.false
