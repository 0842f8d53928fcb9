use Rattle.text.proofs.Held.{fault-written, fault_printed}
use Rattle.text.proofs.answer_fault.Goals as goal

pub unwrap-requires : goal.unwrap-requires
unwrap-requires c = fault-written c.args.line _ _ c.args.out.now c.from-fault.ensures _ c.requires c.write_answer.ensures

pub returns : goal.returns
returns c = fault_printed c.args.line _ _ c.args.out.now c.from-fault.ensures _ c.requires c.write_answer.ensures c.unwrap.ensures
