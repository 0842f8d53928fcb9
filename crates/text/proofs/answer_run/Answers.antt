use native.Mathlib.Omega.{arith}
use Rattle.text.proofs.Held.{part_length}
use Rattle.text.proofs.answer_run.Goals as goal

pub answer_graph-requires : goal.answer_graph-requires
answer_graph-requires c =
    let f = c.args.file in
    let starts = part_length f.start_count f.starts (omega (arith, c.requires)) in
    let columns = part_length f.column_count f.columns (omega (arith, c.requires)) in
    (omega (arith, starts, c.requires), omega (arith, columns, c.requires), omega (arith, c.requires), omega (arith, c.requires))
