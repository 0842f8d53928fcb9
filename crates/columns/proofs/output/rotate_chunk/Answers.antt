use mathlib.Core.Path.{refl}
use native.Mathlib.Omega.{arith}
use Rattle.definition.proofs.Blocks.{block_back}
use Rattle.columns.proofs.output.rotate_chunk.Goals as goal

pub returns : goal.returns
returns c = block_back _ _ _ _ _ c.requires.output.span c.requires.output.enough _ _ (omega arith) (λ r d p q. refl) c.rotate_rows.ensures
