use mathlib.Core.Path.{◌∙◌}
use Rattle.stages.proofs.Written.{span, starts-within, rows_written, two}
use Rattle.state.specs.Said.{lent_in}
use Rattle.stages.proofs.setup.degrees_stage.Goals as goal

pub degrees_chunk-requires : goal.degrees_chunk-requires
degrees_chunk-requires c =
    let p = c.first_row.ensures in
    let q = c.end_row.ensures in
    let rows = c.args.asked.rows in
    let h = c.args.h in
    record {
      starts = rw (p, q) (starts-within _ c.requires.entries_in_bounds.0 c.requires.starts);
      span = span rows h p q _ c.requires.entries_in_bounds.1;
      span_2 = span rows h p q _ c.requires.entries_in_bounds.2;
    }

pub returns : goal.returns
returns c =
    let p = c.first_row.ensures in
    let q = c.end_row.ensures in
    let rows = c.args.asked.rows in
    let h = c.args.h in
    let done = c.degrees_chunk.ensures in
    λ columns edge_columns edge_weights block0 block1 block2 partials output.
    two (λ x y. lent_in x y edge_columns edge_weights block0 block1 block2 partials output) (done.inverse_after ∙ rows_written rows h p q _ _) (done.v0_after ∙ rows_written rows h p q _ _)
