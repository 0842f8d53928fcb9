-- Each arm returns what the test picks.
use Rattle.std.proofs.Common.{sym, ◌∙◌}
use lib.Ieee.{of_bits}
use Rattle.definition.specs.SpectralEmbedding.{inverse_of}
use Rattle.numbers.proofs.inverse_of.Goals as goal

pub returns-then-above_floor : goal.returns-then-above_floor
unfolding inverse_of of_bits
returns-then-above_floor c = simp (sym c.above_floor.ensures ∙ c.if-above_floor.true)

pub returns-else-above_floor : goal.returns-else-above_floor
unfolding inverse_of of_bits
returns-else-above_floor c = simp (sym c.above_floor.ensures ∙ c.if-above_floor.false)
