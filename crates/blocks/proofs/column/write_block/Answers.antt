use native.Mathlib.Omega.{arith}
use Rattle.state.specs.Said.{asked_in, progress_in}
use Rattle.blocks.proofs.Own.{asked-width, span_of}
use Rattle.blocks.proofs.Writes.{ending-is, written_of}
use Rattle.blocks.proofs.column.write_block.Goals as goal

pub divide_chunk-requires : goal.divide_chunk-requires
divide_chunk-requires c =
    let h = c.args.chunk in
    rw (c.rows-own.ensures.n, c.rows-own.ensures.width) (record { span = span_of _ _ c.rows-own.ensures.first c.rows-own.ensures.end; column = h.progress_ready.column; width = asked-width h.asked_ready; enough = c.requires.asked_in_bounds })

pub refresh_chunk-requires : goal.refresh_chunk-requires
refresh_chunk-requires c =
    let h = c.args.chunk in
    rw (c.rows-own.ensures.n, c.rows-own.ensures.width)
    (record {
      within = record { span = span_of _ _ c.rows-own.ensures.first c.rows-own.ensures.end; column = h.progress_ready.column; width = asked-width h.asked_ready; enough = c.requires.asked_in_bounds };
      fresh = record { rows = h.asked_ready.rows-most; width = asked-width h.asked_ready; early = omega (arith, h.progress_ready.round, h.asked_ready.rounds-most) };
    })

pub zero_chunk-requires : goal.zero_chunk-requires
zero_chunk-requires c =
    let h = c.args.chunk in
    rw (c.rows-own.ensures.n, c.rows-own.ensures.width) (record { span = span_of _ _ c.rows-own.ensures.first c.rows-own.ensures.end; column = h.progress_ready.column; width = asked-width h.asked_ready; enough = c.requires.asked_in_bounds })

pub returns-in-Kept : goal.returns-in-Kept
returns-in-Kept c =
    let h = c.args.chunk in
    let t = progress_in h.progress in
    written_of (asked_in h.asked) t h.number c.rows-own.ensures.first c.rows-own.ensures.end (omega arith) _ _
    (ending-is t c.collapse_test-ending.ensures c.in-Kept.is) (rw (c.rows-own.ensures.n, c.rows-own.ensures.width) at (c.divide_chunk.ensures t.round))

pub returns-in-Refreshed : goal.returns-in-Refreshed
returns-in-Refreshed c =
    let h = c.args.chunk in
    let t = progress_in h.progress in
    written_of (asked_in h.asked) t h.number c.rows-own.ensures.first c.rows-own.ensures.end (omega arith) _ _
    (ending-is t c.collapse_test-ending.ensures c.in-Refreshed.is) (rw (c.rows-own.ensures.n, c.rows-own.ensures.width) at c.refresh_chunk.ensures)

pub returns-in-Zeroed : goal.returns-in-Zeroed
returns-in-Zeroed c =
    let h = c.args.chunk in
    let t = progress_in h.progress in
    written_of (asked_in h.asked) t h.number c.rows-own.ensures.first c.rows-own.ensures.end (omega arith) _ _
    (ending-is t c.collapse_test-ending.ensures c.in-Zeroed.is) (rw (c.rows-own.ensures.n, c.rows-own.ensures.width) at (c.zero_chunk.ensures t.round))
