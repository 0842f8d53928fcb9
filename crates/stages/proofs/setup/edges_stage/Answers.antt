use mathlib.Core.Path.{sym, ◌∙◌}
use lib.ListN.{take}
use Rattle.definition.specs.Arith.{ieee64}
use Rattle.definition.specs.Memory.{vector_of, wholes_of}
use Rattle.definition.specs.SpectralEmbedding.{edge_column, edge_weight}
use Rattle.state.specs.Said.{lent_in}
use Rattle.stages.proofs.Written.{two}
use Rattle.stages.proofs.Entries.{cut_length, chunk-lists, entries-written}
use Rattle.stages.proofs.setup.edges_stage.Goals as goal

pub slice_bounds-edges_chunk-end : goal.slice_bounds-edges_chunk-end
slice_bounds-edges_chunk-end c = sym (cut_length c.args.asked.entries c.args.columns.now c.requires.entries_in_bounds.0)

pub slice_bounds-edges_chunk-end-2 : goal.slice_bounds-edges_chunk-end-2
slice_bounds-edges_chunk-end-2 c = sym (cut_length c.args.asked.entries c.args.values.now c.requires.entries_in_bounds.1)

pub edges_chunk-requires : goal.edges_chunk-requires
edges_chunk-requires c =
    let a = c.args.asked in
    let r = c.requires in
    chunk-lists a.rows c.args.h a.entries c.first_row.ensures c.end_row.ensures
    c.args.starts.now c.args.columns.now c.args.values.now c.args.inverse.now c.args.edge_columns.now c.args.edge_weights.now
    r.asked_ready.entries-most r.starts r.columns r.entries_in_bounds.0 r.entries_in_bounds.1 r.entries_in_bounds.2 r.entries_in_bounds_2.0 r.entries_in_bounds_2.1

pub returns : goal.returns
returns c =
    let a = c.args.asked in
    let h = c.args.h in
    let starts = c.args.starts.now in
    let columns = take a.entries c.args.columns.now in
    let values = take a.entries c.args.values.now in
    let p = c.first_row.ensures in
    let q = c.end_row.ensures in
    let done = c.edges_chunk.ensures in
    λ v0 block0 block1 block2 partials output.
    two (λ x y. lent_in c.args.inverse.now v0 x y block0 block1 block2 partials output)
    (done.edge_columns_after ∙ entries-written a.rows h starts p q (edge_column (wholes_of starts) (wholes_of columns)) c.args.edge_columns.now)
    (done.edge_weights_after
    ∙ entries-written a.rows h starts p q (edge_weight ieee64 (wholes_of starts) (wholes_of columns) (vector_of ieee64.none values) (vector_of ieee64.none c.args.inverse.now))
    c.args.edge_weights.now)
