use mathlib.Core.Path.{sym, ◌∙◌}
use Prim.Native.Nat.{◌+◌, ◌≤◌}
use native.Mathlib.Nat.{mul-le-mul}
use native.Mathlib.Omega.{arith}
use Rattle.machine.specs.Progress.{closed_stages}
use Rattle.state.specs.Said.{asked_in, progress_in, state_in}
use Rattle.guard.specs.Counted.{Begun}
use Rattle.guard.proofs.Owed.{begun, chunks-few, none-accepted, some-accepted}
use Rattle.guard.proofs.progress.calls_accepted.Goals as goal
use Rattle.guard.proofs.progress.calls_accepted.Goals.{After-chunk_count, Else-not-has_run}

opened : (c : Else-not-has_run) → let s = c.args.state in Begun (asked_in s.asked) (progress_in s.progress) s.counts.refreshed
opened c = begun (state_in c.args.state) (sym c.has_run.ensures ∙ c.if-not-has_run.false)

few : (c : After-chunk_count) → c.chunk_count.result + 1 ≤ 257
few c = omega (arith, chunks-few (begun (state_in c.args.state) (sym c.has_run.ensures ∙ c.if-not-has_run.false)).asked, c.chunk_count.ensures)

pub returns-then-not-has_run : goal.returns-then-not-has_run
returns-then-not-has_run c = none-accepted (state_in c.args.state) (sym c.has_run.ensures ∙ c.if-not-has_run.true)

pub invariant_of-a : goal.invariant_of-a
invariant_of-a c = record { ready = (opened (goal.at.invariant_of-a c).Else-not-has_run).asked }

pub closed_stages-closed-requires : goal.closed_stages-closed-requires
closed_stages-closed-requires c = opened (goal.at.closed_stages-closed-requires c).Else-not-has_run

pub overflow_add-result : goal.overflow_add-result
overflow_add-result c = omega (arith, few (goal.at.overflow_add-result c).After-chunk_count)

pub overflow_mul-result : goal.overflow_mul-result
overflow_mul-result c = omega (arith, mul-le-mul c.closed_stages-closed.ensures.upper_bound (few (goal.at.overflow_mul-result c).After-chunk_count))

pub returns : goal.returns
unfolding closed_stages
returns c = some-accepted (state_in c.args.state) (sym c.has_run.ensures ∙ c.if-not-has_run.false) c.closed_stages-closed.ensures.value c.chunk_count.ensures
