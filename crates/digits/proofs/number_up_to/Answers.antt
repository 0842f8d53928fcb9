use mathlib.Core.Path.{refl, sym, ◌∙◌}
use native.Mathlib.Omega.{arith}
use Rattle.digits.proofs.Scans.{step-digit, step_left, step_value, step-over, scan_done}
use Prim.Native.Nat.{◌+◌, ◌-◌, ◌*◌, ◌<◌}
use lib.ListN.{get_or}
use Rattle.digits.proofs.number_up_to.Goals.{then-most-digit-via-then-most-digit, then-most-digit-via-else-most-digit+then-most-digit-2}
use Rattle.digits.proofs.number_up_to.Goals as goal

pub loop-i-init : goal.loop-i-init
loop-i-init c = (omega arith, omega arith, refl)

pub overflow_sub-digit : goal.overflow_sub-digit
overflow_sub-digit c = (step-digit _ _ _ 0 c.loop-i.invariant.0 c.requires.1 c.loop-i-test.true).0

pub overflow_cast-digit : goal.overflow_cast-digit
overflow_cast-digit c = omega (arith, (step-digit _ _ _ 0 c.loop-i.invariant.0 c.requires.1 c.loop-i-test.true).1)

pub returns-then-most-digit : goal.returns-then-most-digit
returns-then-most-digit c =
    let over : c.args.most < c.loop-i.value * 10 + (get_or c.args.bytes.now c.loop-i.i 0 - 48) =
    elim c.then-most-digit.branch [ then-most-digit-via-then-most-digit w ↦ omega arith | then-most-digit-via-else-most-digit+then-most-digit-2 w ↦ omega arith ] in
    step-over _ _ _ _ c.loop-i.invariant.0 c.requires.1 c.loop-i-test.true _ _ _ c.loop-i.invariant.2 over

pub loop-i-preserved : goal.loop-i-preserved
loop-i-preserved c = (step_left _ _ _ 0 c.loop-i.invariant.0 c.requires.1 c.loop-i-test.true, omega arith, sym (step_value _ _ _ _ c.loop-i.invariant.0 c.requires.1 c.loop-i-test.true) ∙ c.loop-i.invariant.2)

pub returns : goal.returns
returns c = scan_done _ _ _ _ _ _ c.loop-i.invariant.2 (omega arith) c.loop-i.invariant.1 c.requires.0
