-- Each arm returns what the test picks.
use Rattle.numbers.proofs.lower.Goals as goal

pub returns-then-x-most : goal.returns-then-x-most
returns-then-x-most c = simp c.if-x-most.true

pub returns-else-x-most : goal.returns-else-x-most
returns-else-x-most c = simp c.if-x-most.false
