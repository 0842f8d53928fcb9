use native.Mathlib.Omega.{arith}
use Rattle.definition.specs.Numbers.{chunks}
use Rattle.input.proofs.chunks.chunk_count.Goals as goal

pub returns : goal.returns
unfolding chunks
returns c = omega (arith, c.div_ceil.ensures)
