use mathlib.Core.Path.{◌≡◌, sym, ap, ◌∙◌}
use native.Mathlib.Omega.{arith}
use Rattle.definition.specs.Arith.{ieee64}
use Rattle.definition.specs.ChunkedColumnReduce.{sum_up}
use Rattle.definition.proofs.Sums.{sum-none, sum_more}
use Rattle.sums.proofs.rows.square_sum.Goals as goal
use Rattle.sums.proofs.rows.square_sum.Goals.{In-loop-i}

pub loop-i-init : goal.loop-i-init
loop-i-init c = (omega arith, omega arith, sym (sum-none ieee64 _ _))

pub loop-i-preserved : goal.loop-i-preserved
loop-i-preserved c = (omega arith, omega arith, rw c.loop-i.invariant.2 (sym (sum_more ieee64 _ _ _ (omega arith))))

pub returns : goal.returns
returns c =
    let e : c.loop-i.i ≡ c.args.own.end = omega arith in
    c.loop-i.invariant.2 ∙ ap (sum_up ieee64 _ _) e
