-- The tests one after the other, until one fails.
use mathlib.Core.Path.{refl}
use Prim.Native.Nat.{◌+◌}
use native.Mathlib.Omega.{arith}
use borrow.Author.Tests.{lt-ltb, le-ltb, le-leb, lt-leb}
use Rattle.machine.specs.Ranges.{progress_sound}
use Rattle.guard.proofs.Chains.{failed, passed}
use Rattle.guard.proofs.ranges.progress_sound.Goals as goal

pub returns-then-p-le1 : goal.returns-then-p-le1
unfolding progress_sound
returns-then-p-le1 c =
    let s = c.args in let a = s.a.asked in let p = s.p in
    passed refl (le-leb p.stage 20 (omega arith))
    (passed refl (lt-ltb p.round a.rounds (omega arith))
    (passed refl (lt-ltb p.pass a.degree (omega arith))
    (passed refl (lt-ltb p.column (a.dims + 8) (omega arith))
    (passed refl (le-leb p.attempt 1 (omega arith))
    c.blocks_sound.ensures))))

pub returns-else-p-le1 : goal.returns-else-p-le1
unfolding progress_sound
returns-else-p-le1 c =
    let s = c.args in let a = s.a.asked in let p = s.p in
    passed refl (le-leb p.stage 20 (omega arith))
    (passed refl (lt-ltb p.round a.rounds (omega arith))
    (passed refl (lt-ltb p.pass a.degree (omega arith))
    (passed refl (lt-ltb p.column (a.dims + 8) (omega arith))
    (failed refl _ (lt-leb p.attempt 1 (omega arith))))))

pub returns-else-p-k : goal.returns-else-p-k
unfolding progress_sound
returns-else-p-k c =
    let s = c.args in let a = s.a.asked in let p = s.p in
    rw c.width-k.ensures
    (passed refl (le-leb p.stage 20 (omega arith))
    (passed refl (lt-ltb p.round a.rounds (omega arith))
    (passed refl (lt-ltb p.pass a.degree (omega arith))
    (failed refl _ (le-ltb p.column (a.dims + 8) (omega arith))))))

pub returns-else-p-a-2 : goal.returns-else-p-a-2
unfolding progress_sound
returns-else-p-a-2 c =
    let s = c.args in let a = s.a.asked in let p = s.p in
    passed refl (le-leb p.stage 20 (omega arith))
    (passed refl (lt-ltb p.round a.rounds (omega arith))
    (failed refl _ (le-ltb p.pass a.degree (omega arith))))

pub returns-else-p-a : goal.returns-else-p-a
unfolding progress_sound
returns-else-p-a c =
    let s = c.args in let a = s.a.asked in let p = s.p in
    passed refl (le-leb p.stage 20 (omega arith))
    (failed refl _ (le-ltb p.round a.rounds (omega arith)))

pub returns-else-p-le-LAST_STAGE : goal.returns-else-p-le-LAST_STAGE
unfolding progress_sound
returns-else-p-le-LAST_STAGE c =
    let s = c.args in let a = s.a.asked in let p = s.p in
    failed refl _ (lt-leb p.stage 20 (omega arith))
