-- The tests one after the other, until one fails.
use mathlib.Core.Path.{refl}
use native.Mathlib.Omega.{arith}
use borrow.Author.Tests.{lt-ltb, le-ltb}
use Rattle.guard.proofs.Chains.{failed, passed}
use Rattle.guard.proofs.ranges.blocks_sound.Goals as goal

pub returns-then-bound_sound : goal.returns-then-bound_sound
returns-then-bound_sound c =
    let p = c.args.p in
    passed refl (lt-ltb p.current 3 (omega arith))
    (passed refl (lt-ltb p.previous 3 (omega arith))
    (passed c.bound_sound.ensures c.if-bound_sound.true c.alpha_sound.ensures))

pub returns-else-bound_sound : goal.returns-else-bound_sound
returns-else-bound_sound c =
    let p = c.args.p in
    passed refl (lt-ltb p.current 3 (omega arith))
    (passed refl (lt-ltb p.previous 3 (omega arith))
    (failed c.bound_sound.ensures _ c.if-bound_sound.false))

pub returns-else-p-lt3-2 : goal.returns-else-p-lt3-2
returns-else-p-lt3-2 c =
    let p = c.args.p in
    passed refl (lt-ltb p.current 3 (omega arith))
    (failed refl _ (le-ltb p.previous 3 (omega arith)))

pub returns-else-p-lt3 : goal.returns-else-p-lt3
returns-else-p-lt3 c =
    let p = c.args.p in
    failed refl _ (le-ltb p.current 3 (omega arith))
