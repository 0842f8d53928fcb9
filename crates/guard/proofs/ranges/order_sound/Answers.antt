use mathlib.Core.Path.{ap, ◌∙◌}
use Prim.Native.Nat.{ℕ}
use native.Mathlib.Omega.{arith}
use borrow.Author.Tests.{le-leb, lt-leb}
use lib.Dec.{leb}
use lib.ListN.{get_or}
use Rattle.machine.specs.Ranges.{none_from, order_sound}
use Rattle.guard.proofs.Scans.{none-step, none_found, none_end}
use Rattle.guard.proofs.ranges.order_sound.Goals as goal

pub returns-then-k-place : goal.returns-then-k-place
unfolding order_sound
returns-then-k-place c =
    none_found _ _ _ _ (omega arith) (le-leb _ _ c.if-k-place.true) c.loop-place.invariant
    ∙ ap (λ (k : ℕ). none_from (λ j. leb k (get_or c.args.order j 0)) 0 15) c.width-k.ensures

pub loop-place-preserved : goal.loop-place-preserved
loop-place-preserved c = none-step _ _ _ _ (omega arith) (lt-leb _ _ c.if-k-place.false) c.loop-place.invariant

pub returns : goal.returns
unfolding order_sound
returns c =
    none_end _ _ _ _ (omega arith) c.loop-place.invariant
    ∙ ap (λ (k : ℕ). none_from (λ j. leb k (get_or c.args.order j 0)) 0 15) c.width-k.ensures
