use mathlib.Core.Path.{◌≡◌, sym, ap, ◌∙◌}
use native.Mathlib.Omega.{arith}
use Rattle.definition.specs.Arith.{ieee64}
use Rattle.definition.specs.Memory.{place, block_of}
use Rattle.definition.specs.ChunkedColumnReduce.{sum_up}
use Rattle.definition.proofs.Sums.{sum-none, sum_more}
use Rattle.columns.proofs.output.turned_number.Goals as goal
use Rattle.columns.proofs.output.turned_number.Goals.{In-loop-p}

pub loop-p-init : goal.loop-p-init
loop-p-init c = (omega arith, sym (sum-none ieee64 _ _))

pub loop-p-preserved : goal.loop-p-preserved
unfolding block_of place
loop-p-preserved c = (omega arith, rw c.loop-p.invariant.1 (sym (sum_more ieee64 _ _ _ (omega arith))))

pub returns : goal.returns
returns c =
    let e : c.loop-p.p ≡ c.args.k = omega arith in
    c.loop-p.invariant.1 ∙ ap (sum_up ieee64 _ 0) e
