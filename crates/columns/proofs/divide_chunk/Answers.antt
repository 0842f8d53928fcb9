use mathlib.Core.Path.{ap}
use native.Mathlib.Omega.{arith}
use lib.Ieee.{nan}
use Rattle.definition.specs.Arith.{ieee64}
use Rattle.definition.specs.OrthonormalizeBlock.{written}
use Rattle.definition.proofs.Blocks.{part-number}
use Rattle.columns.proofs.Lent.{column_back}
use Rattle.columns.proofs.divide_chunk.Goals as goal

pub returns : goal.returns
unfolding written
returns c =
    λ round. column_back _ _ _ _ c.requires.span ieee64 _ _ _ _ (omega arith) c.requires.enough
    (λ r h. ap (λ x. ieee64.div x c.args.norm) (part-number _ _ _ _ _ c.requires.span c.requires.enough nan r _ h c.requires.column))
    c.divide_rows.ensures
