use mathlib.Core.Path.{◌≡◌, refl}
use native.Mathlib.Omega.{arith}
use lib.ListN.{length, length-set}
use Rattle.reading.specs.ReadRun.{floats_of}
use Rattle.reading.proofs.Arrays.{floats_step, floats_all}
use Rattle.reading.proofs.values_of.Goals as goal

pub loop-i-init : goal.loop-i-init
unfolding floats_of
loop-i-init c = (omega arith, refl, refl)

pub bounds-bits-i : goal.bounds-bits-i
bounds-bits-i c = omega (arith, c.well_formed.0.1.0.1)

pub loop-i-preserved : goal.loop-i-preserved
loop-i-preserved c =
    let n : length c.args.bits ≡ 1024 = c.well_formed.0.1.0.1 in (
      omega arith,
      simp length-set c.loop-i.invariant.1,
      floats_step c.args.bits c.loop-i.values c.loop-i.i c.value_of.result (omega arith) (omega arith)
          c.loop-i.invariant.2 c.value_of.ensures,
    )

pub returns : goal.returns
returns c =
    let n : length c.args.bits ≡ 1024 = c.well_formed.0.1.0.1 in
    floats_all c.args.bits c.loop-i.values c.loop-i.i (omega arith) (omega arith) c.loop-i.invariant.2
