use native.Mathlib.Omega.{arith}
use Rattle.definition.specs.Numbers.{first_row}
use Rattle.input.proofs.chunks.end_row.Goals as goal

pub returns : goal.returns
unfolding first_row
returns c = omega (arith, c.first_row.ensures, c.saturating_add.ensures, c.ranges.n.fits)
