-- Each arm returns what the tests pick.
use lib.Ieee.{of_bits}
use Rattle.definition.specs.OrthonormalizeBlock.{ending}
use Rattle.numbers.proofs.collapse_test.Goals as goal

pub returns-then-before-norm : goal.returns-then-before-norm
unfolding ending of_bits
returns-then-before-norm c = simp c.if-before-norm.true

pub returns-then-already : goal.returns-then-already
unfolding ending of_bits
returns-then-already c = simp (c.if-before-norm.false, c.if-already.true)

pub returns-else-already : goal.returns-else-already
unfolding ending of_bits
returns-else-already c = simp (c.if-before-norm.false, c.if-already.false)
