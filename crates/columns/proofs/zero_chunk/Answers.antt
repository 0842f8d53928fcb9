use mathlib.Core.Path.{refl}
use native.Mathlib.Omega.{arith}
use Rattle.definition.specs.Arith.{ieee64}
use Rattle.definition.specs.OrthonormalizeBlock.{written}
use Rattle.columns.proofs.Lent.{column_back}
use Rattle.columns.proofs.zero_chunk.Goals as goal

pub returns : goal.returns
unfolding written
returns c = λ round. column_back _ _ _ _ c.requires.span ieee64 _ _ _ _ (omega arith) c.requires.enough (λ r h. refl) c.zero_rows.ensures
