-- What a reduction of a sound state writes is no wider than a chunk's partial, k x k. Assumes nothing.
use Prim.Native.Nat.{◌+◌, ◌*◌, ◌≤◌}
use native.Mathlib.Omega.{arith}
use Rattle.definition.specs.Arith.{Arith}
use Rattle.definition.proofs.Places.{square-least}
use Rattle.machine.specs.State.{wide, State}
use Rattle.machine.specs.Ready.{StateReady}

module _ {A : Arith} {s : State A} (r : StateReady A s) where
  pub one-most : 1 ≤ wide s.asked * wide s.asked
  one-most = omega (arith, square-least (wide s.asked) (omega arith))

  pub own-most : s.progress.column + 1 ≤ wide s.asked * wide s.asked
  own-most = omega (arith, r.progress.column, square-least (wide s.asked) (omega arith))

  pub dims-most : s.asked.dims ≤ wide s.asked * wide s.asked
  dims-most = omega (arith, square-least (wide s.asked) (omega arith))
