-- The tests one after the other, until one fails.
use mathlib.Core.Path.{refl, ap}
use Prim.Native.Nat.{ℕ, ◌+◌, ◌*◌}
use native.Mathlib.Omega.{arith}
use borrow.Author.Tests.{le-leb, lt-leb}
use Rattle.machine.specs.Ranges.{counts_sound}
use Rattle.guard.proofs.Asked.{passes-few, columns-few}
use Rattle.guard.proofs.Chains.{failed, passed}
use Rattle.guard.proofs.ranges.counts_sound.Goals as goal

pub overflow_mul-passes : goal.overflow_mul-passes
overflow_mul-passes c = omega (arith, passes-few c.args.a.ready)

pub overflow_mul-columns : goal.overflow_mul-columns
overflow_mul-columns c = rw c.width.ensures (omega (arith, columns-few c.args.a.ready))

pub returns-then-counts-columns-2 : goal.returns-then-counts-columns-2
unfolding counts_sound
returns-then-counts-columns-2 c =
    let s = c.args in let a = s.a.asked in let t = s.counts in
    passed refl (le-leb t.passes (a.rounds * (a.degree + 1)) (omega arith))
    (passed refl (le-leb t.refreshed (a.rounds * (a.dims + 8)) (omega (arith, ap (λ (k : ℕ). a.rounds * k) c.width.ensures)))
    (passed refl (le-leb t.zeroed (a.rounds * (a.dims + 8)) (omega (arith, ap (λ (k : ℕ). a.rounds * k) c.width.ensures)))
    (refl)))

pub returns-else-counts-columns-2 : goal.returns-else-counts-columns-2
unfolding counts_sound
returns-else-counts-columns-2 c =
    let s = c.args in let a = s.a.asked in let t = s.counts in
    rw c.width.ensures
    (passed refl (le-leb t.passes (a.rounds * (a.degree + 1)) (omega arith))
    (passed refl (le-leb t.refreshed (a.rounds * (a.dims + 8)) (omega (arith, ap (λ (k : ℕ). a.rounds * k) c.width.ensures)))
    (failed refl _ (lt-leb t.zeroed (a.rounds * (a.dims + 8)) (omega (arith, ap (λ (k : ℕ). a.rounds * k) c.width.ensures))))))

pub returns-else-counts-columns : goal.returns-else-counts-columns
unfolding counts_sound
returns-else-counts-columns c =
    let s = c.args in let a = s.a.asked in let t = s.counts in
    rw c.width.ensures
    (passed refl (le-leb t.passes (a.rounds * (a.degree + 1)) (omega arith))
    (failed refl _ (lt-leb t.refreshed (a.rounds * (a.dims + 8)) (omega (arith, ap (λ (k : ℕ). a.rounds * k) c.width.ensures)))))

pub returns-else-counts-passes : goal.returns-else-counts-passes
unfolding counts_sound
returns-else-counts-passes c =
    let s = c.args in let a = s.a.asked in let t = s.counts in
    failed refl _ (lt-leb t.passes (a.rounds * (a.degree + 1)) (omega arith))
