-- The sums have the rows below i.
use mathlib.Core.Path.{◌≡◌}
use Prim.Native.Nat.{◌*◌, ◌+◌}
use lib.ListN.{get_or}
use lib.Ieee.{Float, nan}
use Rattle.definition.specs.Arith.{ieee64}
use Rattle.sums.specs.Accumulators.{summed}
use Rattle.sums.proofs.rows.terms.Given as goal

abbrev pub invariant-loop-i : goal.invariant-loop-i
invariant-loop-i g l =
    (f : Float → Float) → ((x y : Float) → goal.F-post g l.term x y → y ≡ f x)
    → l.acc ≡ summed ieee64 l.width (λ q j. f (get_or l.list (j * l.stride + q) nan)) l.first l.i
