use lib.Ieee.{of_bits}
use Rattle.machine.specs.Ranges.{bound_sound}
use Rattle.guard.proofs.ranges.bound_sound.Goals as goal

pub returns-then-b : goal.returns-then-b
unfolding of_bits bound_sound
returns-then-b c = simp c.if-b.true

pub returns-else-b : goal.returns-else-b
unfolding of_bits bound_sound
returns-else-b c = simp c.if-b.false
