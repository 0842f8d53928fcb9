use mathlib.Core.Path.{◌≡◌, sym, ap, ◌∙◌}
use native.Mathlib.Omega.{arith}
use native.Mathlib.Nat.{zero-add}
use Rattle.definition.specs.Arith.{ieee64}
use Rattle.definition.specs.ChunkedColumnReduce.{add_up}
use Rattle.definition.specs.OrthonormalizeBlock.{delta}
use Rattle.definition.proofs.Sums.{add_none, add-more}
use Rattle.columns.proofs.row_delta.Goals as goal

pub loop-p-init : goal.loop-p-init
loop-p-init c = (omega arith, sym (add_none ieee64 _ _ _))

pub loop-p-preserved : goal.loop-p-preserved
loop-p-preserved c = (omega arith, rw c.loop-p.invariant.1 (sym (add-more ieee64 _ _ _ _ ∙ rw zero-add)))

pub returns : goal.returns
unfolding delta
returns c =
    let e : c.loop-p.p ≡ c.args.c = omega arith in
    c.loop-p.invariant.1 ∙ ap (add_up ieee64 _ _ 0) e
