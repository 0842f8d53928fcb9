use lib.Ieee.{of_bits, neg, div}
use Rattle.input.proofs.scan.is_finite.Goals as goal

pub returns-then-x : goal.returns-then-x
unfolding of_bits neg div
returns-then-x c = simp c.if-x.true

pub returns-else-x : goal.returns-else-x
unfolding of_bits neg div
returns-else-x c = simp c.if-x.false
