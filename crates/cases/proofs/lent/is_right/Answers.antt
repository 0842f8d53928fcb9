use Rattle.std.proofs.Common.{sym, ◌∙◌}
use Rattle.std.proofs.Math.Seq.{length_front}
use Rattle.cases.proofs.lent.is_right.Goals as goal

-- what the writer was lent kept its length, so the whole memory did
pub slice_bounds-stands-end : goal.slice_bounds-stands-end
slice_bounds-stands-end g c =
    let front = length_front c.from_fn-memory.result c.write-written.new.arg2 c.min-room.result c.write-written.auto.arg2 in
    sym (front ∙ c.from_fn-memory.ensures.items.long)
