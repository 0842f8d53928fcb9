use mathlib.Core.Path.{◌≡◌, refl}
use native.Mathlib.Omega.{arith}
use lib.ListN.{length, length-set}
use Rattle.reading.proofs.Arrays.{copy_more, copy_all}
use Rattle.reading.proofs.columns_of.Goals as goal

pub loop-i-init : goal.loop-i-init
loop-i-init c = (omega arith, refl, refl)

pub bounds-numbers-i : goal.bounds-numbers-i
bounds-numbers-i c = omega (arith, c.well_formed.0.1.0.1)

pub overflow_cast-columns : goal.overflow_cast-columns
overflow_cast-columns c = omega (arith, c.requires c.loop-i.i)

pub loop-i-preserved : goal.loop-i-preserved
loop-i-preserved c =
    let n : length c.args.numbers ≡ 1024 = c.well_formed.0.1.0.1 in (
      omega arith,
      simp length-set c.loop-i.invariant.1,
      copy_more c.args.numbers c.loop-i.columns c.loop-i.i (omega arith) (omega arith) c.loop-i.invariant.2,
    )

pub returns : goal.returns
returns c =
    let n : length c.args.numbers ≡ 1024 = c.well_formed.0.1.0.1 in
    copy_all c.args.numbers c.loop-i.columns c.loop-i.i (omega arith) (omega arith) c.loop-i.invariant.2
