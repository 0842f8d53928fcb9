use lib.Ieee.{of_bits}
use Rattle.machine.specs.Ranges.{alpha_sound}
use Rattle.guard.proofs.ranges.alpha_sound.Goals as goal

pub returns-then-a : goal.returns-then-a
unfolding of_bits alpha_sound
returns-then-a c = simp c.if-a.true

pub returns-else-a : goal.returns-else-a
unfolding of_bits alpha_sound
returns-else-a c = simp c.if-a.false
