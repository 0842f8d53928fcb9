-- Progress for people: the calls accepted so far in whole stages, and those that a run owes if no further column is refreshed. Definitions only.
use Rattle.std.specs.Prelude.{cond, ◌&&◌, not, ℕ, ◌+◌, ◌-◌, ◌*◌, eqb}
use Rattle.definition.specs.Arith.{Arith}
use Rattle.machine.specs.State.{Stage, stage_of, Asked, wide, chunk_count, Progress, State}
use Rattle.machine.specs.State as stage
use Rattle.machine.specs.Ranges.{state_sound}

-- the stages of a round in which no column is refreshed, and of a whole run
unfoldable pub round_stages : Asked → ℕ
round_stages a = a.degree + 2 + 7 * wide a

unfoldable pub run_stages : Asked → ℕ → ℕ
run_stages a refreshed = 9 + a.rounds * round_stages a + 7 * refreshed

-- a run that has closed some stages, of those of a round or of the last five
abbrev pub in_round : Asked → ℕ → ℕ → ℕ → ℕ
in_round a round refreshed i = 4 + round * round_stages a + 7 * refreshed + i

abbrev pub in_last : Asked → ℕ → ℕ → ℕ
in_last a refreshed i = 4 + a.rounds * round_stages a + 7 * refreshed + i

module _ (A : Arith) where
  -- the stages closed before this one
  abbrev pub closed_stages_by : Stage → Asked → Progress A → ℕ → ℕ
  closed_stages_by stage.empty a p r = 0
  closed_stages_by stage.degrees a p r = 0
  closed_stages_by stage.edges a p r = 1
  closed_stages_by stage.v0 a p r = 2
  closed_stages_by stage.start_block a p r = 3
  closed_stages_by stage.filter_pass a p r = in_round a p.round r p.pass
  closed_stages_by stage.norm_before a p r = in_round a p.round r (a.degree + 7 * p.column)
  closed_stages_by stage.first_dots a p r = in_round a p.round r (a.degree + 7 * p.column + 1)
  closed_stages_by stage.first_subtract a p r = in_round a p.round r (a.degree + 7 * p.column + 2)
  closed_stages_by stage.second_dots a p r = in_round a p.round r (a.degree + 7 * p.column + 3)
  closed_stages_by stage.second_subtract a p r = in_round a p.round r (a.degree + 7 * p.column + 4)
  closed_stages_by stage.norm_after a p r = in_round a p.round r (a.degree + 7 * p.column + 5)
  closed_stages_by stage.write a p r = in_round a p.round r (a.degree + 7 * p.column + 6)
  closed_stages_by stage.plain_pass a p r = in_round a p.round r (a.degree + 7 * wide a)
  closed_stages_by stage.products a p r = in_round a p.round r (a.degree + 7 * wide a + 1)
  closed_stages_by stage.rotate a p r = in_last a r 0
  closed_stages_by stage.sums a p r = in_last a r 1
  closed_stages_by stage.centre a p r = in_last a r 2
  closed_stages_by stage.squares a p r = in_last a r 3
  closed_stages_by stage.scale a p r = in_last a r 4
  closed_stages_by stage.ended a p r = in_last a r 5

  unfoldable pub closed_stages : State A → ℕ
  closed_stages s = closed_stages_by (stage_of s.progress.stage) s.asked s.progress s.counts.refreshed

  -- calls accepted in the stages that are closed, and owed in those that are not; none for a state that is damaged or where no run was opened
  abbrev pub has_run : State A → ℕ → ℕ
  has_run s x = cond (state_sound A s && not (eqb s.progress.stage 0)) x 0

  unfoldable pub calls_accepted : State A → ℕ
  calls_accepted s = has_run s (closed_stages s * (chunk_count s.asked + 1))

  unfoldable pub calls_owed : State A → ℕ
  calls_owed s = has_run s ((run_stages s.asked s.counts.refreshed - closed_stages s) * (chunk_count s.asked + 1))
