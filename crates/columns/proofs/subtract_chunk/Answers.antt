use Rattle.definition.specs.Arith.{ieee64}
use Rattle.columns.proofs.Lent.{subtracted_back}
use Rattle.columns.proofs.subtract_chunk.Goals as goal

pub returns : goal.returns
returns c = subtracted_back _ _ _ _ c.requires.within.span ieee64 _ _ _ _ c.requires.within.column c.requires.within.enough c.subtract_rows.ensures
