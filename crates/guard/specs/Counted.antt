-- What a count of stages rests on: the numbers are in their ranges, and a run was opened. Definitions only; `proofs.Owed` shows it of every sound state.
use Rattle.std.specs.Prelude.{ℕ, ◌*◌, ◌≤◌, ◌<◌}
use Rattle.definition.specs.Arith.{ieee64}
use Rattle.machine.specs.State.{Asked, wide, last_stage, Progress}
use Rattle.machine.specs.Ready.{AskedReady}

-- so many rounds, columns refreshed, and stages more
pub record Counted (a : Asked) (rounds refreshed i : ℕ) : Type 0 where
  pub asked : AskedReady a
  pub rounds-few : rounds ≤ a.rounds
  pub refreshed-few : refreshed ≤ a.rounds * wide a
  pub more-few : i ≤ 2_000

-- the state of a run that was opened
pub record Begun (a : Asked) (p : Progress ieee64) (refreshed : ℕ) : Type 0 where
  pub asked : AskedReady a
  pub stage-least : 1 ≤ p.stage
  pub stage-most : p.stage ≤ last_stage
  pub round : p.round < a.rounds
  pub pass : p.pass < a.degree
  pub column : p.column < wide a
  pub refreshed-few : refreshed ≤ a.rounds * wide a

-- more stages than any run has, so that calls in them are counted without overflow
abbrev pub stages_most : ℕ
stages_most = 2_000_000
