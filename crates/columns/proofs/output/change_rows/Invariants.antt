use mathlib.Core.Path.{◌≡◌}
use lib.Ieee.{Float, nan}
use Rattle.definition.specs.Memory.{vector_of, block_of}
use Rattle.columns.proofs.Fills.{Turn}
use Rattle.columns.proofs.output.change_rows.Given as goal

abbrev pub invariant-loop-r : goal.invariant-loop-r
invariant-loop-r g l =
    (f : Float → Float → Float) → ((x y z : Float) → goal.F-post g l.change x y z → z ≡ f x y)
    → Turn l.rows l.d (λ i j. f (block_of nan l.rows l.d l.initial.part i j) (vector_of nan l.by j)) l.initial.part l.r l.part
