use mathlib.Core.Path.{refl, ap, ◌∙◌}
use native.Mathlib.Omega.{arith}
use lib.ListN.{length-set}
use Rattle.definition.specs.Arith.{ieee64}
use Rattle.definition.specs.SpectralEmbedding.{degree, degree_root, inverse_of, inverse_weight}
use Rattle.definition.proofs.Fill.{fill_start, fill_step, fill_to}
use Rattle.rows.proofs.degrees.degrees_rows.Goals as goal

pub loop-i-init : goal.loop-i-init
loop-i-init c = (omega arith, refl, refl, fill_start _ _ _, fill_start _ _ _)

pub loop-i-preserved : goal.loop-i-preserved
unfolding degree degree_root inverse_weight
loop-i-preserved c =
    let l = c.loop-i in
    let root = c.root-root.ensures ∙ ap ieee64.root c.sum_values.ensures in (
      omega arith,
      simp length-set l.invariant.1,
      simp length-set l.invariant.2,
      fill_step _ _ _ _ (omega arith) l.invariant.3 (c.inverse_of.ensures ∙ ap (inverse_of ieee64) root),
      fill_step _ _ _ _ (omega arith) l.invariant.4 root,
    )

pub returns : goal.returns
returns c =
    let l = c.loop-i in
    record {
      inverse_after = fill_to _ _ _ l.invariant.3 (omega arith);
      v0_after = fill_to _ _ _ l.invariant.4 (omega arith);
    }
