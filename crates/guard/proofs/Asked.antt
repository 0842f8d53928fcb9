-- What was asked, where it is in its ranges: the limits, and the products that fit. Assumes nothing.
use mathlib.Core.Path.{◌≡◌}
use mathlib.Core.Bool.{true}
use Prim.Native.Nat.{◌+◌, ◌*◌, ◌≤◌}
use native.Mathlib.Omega.{arith}
use Rattle.definition.specs.Arith.{ieee64}
use Rattle.machine.specs.State.{Asked, wide, State}
use Rattle.machine.specs.Ranges.{state_sound}
use Rattle.machine.specs.Ready.{AskedReady}
use Rattle.ready.proofs.Tested.{state_ready}
use native.Mathlib.Nat.{mul-le-mul}

pub state-asked : (s : State ieee64) → state_sound ieee64 s ≡ true → AskedReady s.asked
state-asked s h = (state_ready ieee64 s h).asked

module _ {a : Asked} (r : AskedReady a) where
  pub passes-few : a.rounds * (a.degree + 1) ≤ 1_000 * 1_001
  passes-few = let d : a.degree + 1 ≤ 1_001 = omega (arith, r.degree-most) in mul-le-mul r.rounds-most d

  pub columns-few : a.rounds * wide a ≤ 1_000 * 15
  columns-few = let k : wide a ≤ 15 = omega (arith, r.dims-most) in mul-le-mul r.rounds-most k
