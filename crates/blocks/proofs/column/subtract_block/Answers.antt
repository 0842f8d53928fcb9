use native.Mathlib.Omega.{arith}
use Rattle.blocks.proofs.Own.{asked-width, span_of, rows_of}
use Rattle.blocks.proofs.column.subtract_block.Goals as goal

pub subtract_chunk-requires : goal.subtract_chunk-requires
subtract_chunk-requires c =
    let h = c.args.chunk in
    rw (c.rows.ensures.n, c.rows.ensures.width)
    (record {
      within = record { span = span_of _ _ c.rows.ensures.first c.rows.ensures.end; column = h.progress_ready.column; width = asked-width h.asked_ready; enough = c.requires.rows_in_bounds.1 };
      n_in_bounds = c.requires.rows_in_bounds.0;
    })

pub returns : goal.returns
returns c = rows_of _ _ c.rows.ensures.first c.rows.ensures.end _ _ _ (omega arith) (rw (c.rows.ensures.n, c.rows.ensures.width) at c.subtract_chunk.ensures)
