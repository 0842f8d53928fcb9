use mathlib.Core.Path.{sym, ap, ◌∙◌}
use Rattle.matrix_market.specs.Outcome.{room_of}
use Rattle.matrix_market.proofs.matrix_market_sizes.Goals as goal

pub returns-in-Ok : goal.returns-in-Ok
unfolding room_of
returns-in-Ok c = c.sizes_of.ensures ∙ sym (ap room_of c.in-Ok.ensures.is)

pub returns-in-Err : goal.returns-in-Err
unfolding room_of
returns-in-Err c = sym (ap room_of c.in-Err.ensures.is)
