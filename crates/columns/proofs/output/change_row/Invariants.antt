use mathlib.Core.Path.{◌≡◌}
use Prim.Native.Nat.{◌-◌}
use lib.Ieee.{Float, nan}
use Rattle.definition.specs.Memory.{vector_of}
use Rattle.columns.proofs.Fills.{Cells}
use Rattle.columns.proofs.output.change_row.Given as goal

abbrev pub invariant-loop-j : goal.invariant-loop-j
invariant-loop-j g l =
    (f : Float → Float → Float) → ((x y z : Float) → goal.F-post g l.change x y z → z ≡ f x y)
    → Cells l.at l.d (λ p. f (vector_of nan l.initial.part p) (vector_of nan l.by (p - l.at))) l.initial.part l.j l.part
