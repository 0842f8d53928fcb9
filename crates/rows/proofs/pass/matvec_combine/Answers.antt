-- The part that was lent is put back.
use mathlib.Core.Path.{refl}
use Rattle.definition.proofs.Blocks.{rows_back}
use Rattle.rows.proofs.pass.matvec_combine.Goals as goal
use Rattle.rows.proofs.pass.matvec_combine.Goals.{Start}

pub returns : goal.returns
returns c = rows_back _ _ c.args.own.first c.args.own.end _ c.requires.pass.span c.requires.k_in_bounds _ _ (λ p h. refl) c.matvec_combine_rows.ensures
