use native.Mathlib.Omega.{arith}
use Rattle.text.proofs.Held.{right-held, fault-held, answered-text, answered-short}
use Rattle.text.proofs.answer.Goals as goal

pub returns-then-out-lt-ROOM : goal.returns-then-out-lt-ROOM
returns-then-out-lt-ROOM c = let a = c.args in answered-short a.bytes.now a.out.now c.if-out-lt-ROOM.true

pub answer_run-requires : goal.answer_run-requires
answer_run-requires c =
    let h = right-held c.args.bytes.now c.read_run-file.ensures c.if-file.true in
    record {
      start_count_bound = h.counts;
      rounds_bound = h.rounds;
      starts_len = (h.starts, h.columns, h.values, omega (arith, c.if-out-lt-ROOM.false));
    }

pub returns-then-file : goal.returns-then-file
returns-then-file c =
    let a = c.args in
    answered-text a.bytes.now a.out.now (omega (arith, c.if-out-lt-ROOM.false))
    (right-held a.bytes.now c.read_run-file.ensures c.if-file.true).says c.answer_run.ensures

pub returns : goal.returns
returns c =
    let a = c.args in
    answered-text a.bytes.now a.out.now (omega (arith, c.if-out-lt-ROOM.false))
    (fault-held a.bytes.now c.read_run-file.ensures c.if-file.false) c.answer_fault.ensures
