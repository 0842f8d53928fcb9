-- Each arm returns what the test picks.
use lib.Ieee.{of_bits}
use Rattle.definition.specs.SpectralEmbedding.{scale_of}
use Rattle.numbers.proofs.scale_of.Goals as goal

pub returns-then-std : goal.returns-then-std
unfolding scale_of of_bits
returns-then-std c = simp c.if-std.true

pub returns-else-std : goal.returns-else-std
unfolding scale_of of_bits
returns-else-std c = simp c.if-std.false
