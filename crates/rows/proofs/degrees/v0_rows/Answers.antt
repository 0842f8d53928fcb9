use mathlib.Core.Path.{ap, ◌∙◌}
use native.Mathlib.Nat.{le_refl}
use native.Mathlib.Omega.{arith}
use Rattle.definition.specs.Arith.{ieee64}
use Rattle.definition.specs.SpectralEmbedding.{v0_of}
use Rattle.definition.proofs.Fill.{fill_start, fill_step, fill_ahead}
use Rattle.rows.proofs.degrees.v0_rows.Goals as goal

pub loop-x-init : goal.loop-x-init
loop-x-init c = fill_start _ _ _

pub loop-x-preserved : goal.loop-x-preserved
loop-x-preserved c =
    let l = c.loop-x in
    fill_step _ _ _ _ (omega arith) l.invariant (c.v0_of.ensures ∙ ap (v0_of ieee64 _) (fill_ahead 0 l.x-index _ _ l.x-index ieee64.none l.invariant (le_refl _)))
