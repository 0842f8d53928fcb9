-- The invariant: no lent memory before j is short.
use mathlib.Core.Path.{◌≡◌}
use Prim.Native.Nat.{◌-◌}
use Rattle.definition.specs.Memory.{wholes_of}
use Rattle.definition.specs.Refusals.{first_from}
use Rattle.input.specs.Said.{short}
use Rattle.input.proofs.scan.test_enough.Given as goal

abbrev pub invariant-loop-j : goal.invariant-loop-j
invariant-loop-j l = first_from (short (wholes_of l.lent) (wholes_of l.sizes)) 0 11 ≡ first_from (short (wholes_of l.lent) (wholes_of l.sizes)) l.j (11 - l.j)
