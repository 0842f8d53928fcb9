use native.Mathlib.Omega.{arith}
use Rattle.definition.specs.Numbers.{first_row}
use Rattle.input.proofs.chunks.first_row.Goals as goal

pub returns : goal.returns
unfolding first_row
returns c = omega (arith, c.min.ensures, c.saturating_mul.ensures, c.ranges.n.fits)
