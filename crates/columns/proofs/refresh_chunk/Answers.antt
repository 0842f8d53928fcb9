use mathlib.Core.Path.{refl}
use native.Mathlib.Omega.{arith}
use Rattle.definition.specs.Arith.{ieee64}
use Rattle.definition.specs.OrthonormalizeBlock.{written}
use Rattle.columns.proofs.Lent.{column_back}
use Rattle.columns.proofs.refresh_chunk.Goals as goal

pub returns : goal.returns
unfolding written
returns c = column_back _ _ _ _ c.requires.within.span ieee64 _ _ _ _ (omega arith) c.requires.within.enough (λ r h. refl) c.refresh_rows.ensures
