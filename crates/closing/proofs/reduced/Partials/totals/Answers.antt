use mathlib.Core.Path.{◌∙◌}
use Rattle.machine.specs.Closing.{totals_of, total_at}
use Rattle.closing.proofs.reduced.Partials.totals.Goals as goal

pub returns : goal.returns
unfolding totals_of total_at
returns c = c.totals.ensures ∙ rw (c.chunk_count-chunks.ensures, c.width.ensures)
