-- The code's stages as the machine's, and the numbers by which a state keeps them. Definitions only.
use Rattle.std.specs.Prelude.{◌≡◌, ℕ, min}
use Rattle.machine.specs.State as machine
use Rattle.machine.specs.State.{stage_of, last_stage}
use Rattle.state.specs.declared.stage.Stage.{Stage}
use Rattle.state.specs.declared.stage.Stage.TheVariants as at

abbrev pub stage_in : Stage → machine.Stage
stage_in at.Empty = machine.empty
stage_in at.Degrees = machine.degrees
stage_in at.Edges = machine.edges
stage_in at.V0 = machine.v0
stage_in at.StartBlock = machine.start_block
stage_in at.FilterPass = machine.filter_pass
stage_in at.NormBefore = machine.norm_before
stage_in at.FirstDots = machine.first_dots
stage_in at.FirstSubtract = machine.first_subtract
stage_in at.SecondDots = machine.second_dots
stage_in at.SecondSubtract = machine.second_subtract
stage_in at.NormAfter = machine.norm_after
stage_in at.Write = machine.write
stage_in at.PlainPass = machine.plain_pass
stage_in at.Products = machine.products
stage_in at.Rotate = machine.rotate
stage_in at.Sums = machine.sums
stage_in at.Centre = machine.centre
stage_in at.Squares = machine.squares
stage_in at.Scale = machine.scale
stage_in at.Ended = machine.ended

abbrev pub number_of : Stage → ℕ
number_of at.Empty = 0
number_of at.Degrees = 1
number_of at.Edges = 2
number_of at.V0 = 3
number_of at.StartBlock = 4
number_of at.FilterPass = 5
number_of at.NormBefore = 6
number_of at.FirstDots = 7
number_of at.FirstSubtract = 8
number_of at.SecondDots = 9
number_of at.SecondSubtract = 10
number_of at.NormAfter = 11
number_of at.Write = 12
number_of at.PlainPass = 13
number_of at.Products = 14
number_of at.Rotate = 15
number_of at.Sums = 16
number_of at.Centre = 17
number_of at.Squares = 18
number_of at.Scale = 19
number_of at.Ended = 20

-- the stage of that number; past the last one the run has ended too
pub record StageAt (number : ℕ) (s : Stage) : Type 0 where
  pub named : stage_in s ≡ stage_of number
  pub numbered : number_of s ≡ min number last_stage
