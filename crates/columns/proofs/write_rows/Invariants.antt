use mathlib.Core.Path.{◌≡◌}
use Prim.Native.Nat.{ℕ, ◌<◌}
use lib.Ieee.{Float, nan}
use Rattle.definition.specs.Arith.{ieee64}
use Rattle.definition.specs.Memory.{block_of}
use Rattle.definition.specs.OrthonormalizeBlock.{with_column}
use Rattle.columns.proofs.Fills.{Turn}
use Rattle.columns.proofs.write_rows.Given as goal

abbrev pub invariant-loop-r : goal.invariant-loop-r
invariant-loop-r g l =
    (f : ℕ → Float) → ((r : ℕ) (y : Float) → r < l.rows → goal.F-post g l.number r (block_of nan l.rows l.k l.initial.part r l.c) y → y ≡ f r)
    → Turn l.rows l.k (with_column ieee64 (block_of nan l.rows l.k l.initial.part) l.c f) l.initial.part l.r l.part
