-- The sums from `at` up to `at` + q have the row.
use mathlib.Core.Path.{◌≡◌}
use Prim.Native.Nat.{◌-◌, ◌+◌}
use lib.ListN.{get_or}
use lib.Ieee.{Float, nan}
use Rattle.definition.specs.Arith.{ieee64}
use Rattle.sums.specs.Accumulators.{raised}
use Rattle.sums.proofs.row.add_terms.Given as goal

abbrev pub invariant-loop-q : goal.invariant-loop-q
invariant-loop-q g l =
    (f : Float → Float) → ((x y : Float) → goal.F-post g l.term x y → y ≡ f x)
    → l.acc ≡ raised ieee64 l.at (l.at + l.q) (λ j. f (get_or l.list (l.from + (j - l.at)) nan)) l.initial.acc
