use native.Mathlib.Nat.{le_refl}
use native.Mathlib.Omega.{arith}
use Rattle.definition.specs.Arith.{ieee64}
use Rattle.definition.proofs.Fill.{fill_start, fill_step, fill_to, fill_ahead}
use Rattle.rows.proofs.pass.add_entry.Goals as goal

pub loop-c-init : goal.loop-c-init
loop-c-init c = (omega arith, fill_start _ _ _)

pub loop-c-preserved : goal.loop-c-preserved
loop-c-preserved c =
    let l = c.loop-c in
    (omega arith, fill_step _ _ _ _ (omega arith) l.invariant.1 (rw (fill_ahead 0 l.c _ _ l.c ieee64.none l.invariant.1 (le_refl _))))

pub returns : goal.returns
returns c = fill_to _ _ _ c.loop-c.invariant.1 (omega arith)
