use Rattle.input.proofs.request.refuse_if.Goals as goal

pub returns-then-fault : goal.returns-then-fault
returns-then-fault c = simp c.if-fault.true

pub returns-else-fault : goal.returns-else-fault
returns-else-fault c = simp c.if-fault.false
