-- A count for each group of stages.
use mathlib.Core.Path.{◌∙◌}
use native.Mathlib.Omega.{arith}
use Rattle.state.specs.Said.{asked_in, progress_in}
use Rattle.guard.proofs.Owed.{closed-first, closed-last, closed_filter, closed-column, closed-pass, in_round_lem, in_last_lem}
use Rattle.guard.proofs.progress.closed_stages.Goals as goal

pub returns-then-stage-lt-FILTER_PASS : goal.returns-then-stage-lt-FILTER_PASS
returns-then-stage-lt-FILTER_PASS c =
    let s = c.args in
    record { value = closed-first (asked_in s.a.asked) (progress_in s.p) s.refreshed s.p.stage (omega arith) (omega arith); upper_bound = omega arith }

pub after_rounds-requires : goal.after_rounds-requires
after_rounds-requires c = in_last_lem c.requires (omega arith)

pub returns-then-stage-ge-ROTATE : goal.returns-then-stage-ge-ROTATE
returns-then-stage-ge-ROTATE c =
    let s = c.args in
    record { value = c.after_rounds.ensures.value ∙ closed-last (asked_in s.a.asked) (progress_in s.p) s.refreshed s.p.stage (omega arith) (omega arith); upper_bound = c.after_rounds.ensures.upper_bound }

pub after_rounds-requires-then-stage-eq-FILTER_PASS : goal.after_rounds-requires-then-stage-eq-FILTER_PASS
after_rounds-requires-then-stage-eq-FILTER_PASS c = in_round_lem c.requires (omega arith)

pub returns-then-stage-eq-FILTER_PASS : goal.returns-then-stage-eq-FILTER_PASS
returns-then-stage-eq-FILTER_PASS c =
    let s = c.args in
    record { value = c.after_rounds-then-stage-eq-FILTER_PASS.ensures.value ∙ closed_filter (asked_in s.a.asked) (progress_in s.p) s.refreshed s.p.stage (omega arith); upper_bound = c.after_rounds-then-stage-eq-FILTER_PASS.ensures.upper_bound }

pub after_rounds-requires-then-stage-lt-PLAIN_PASS : goal.after_rounds-requires-then-stage-lt-PLAIN_PASS
after_rounds-requires-then-stage-lt-PLAIN_PASS c = in_round_lem c.requires (omega arith)

pub returns-then-stage-lt-PLAIN_PASS : goal.returns-then-stage-lt-PLAIN_PASS
returns-then-stage-lt-PLAIN_PASS c =
    let s = c.args in
    record { value = c.after_rounds-then-stage-lt-PLAIN_PASS.ensures.value ∙ closed-column (asked_in s.a.asked) (progress_in s.p) s.refreshed s.p.stage (omega arith) (omega arith); upper_bound = c.after_rounds-then-stage-lt-PLAIN_PASS.ensures.upper_bound }

pub after_rounds-requires-2 : goal.after_rounds-requires-2
after_rounds-requires-2 c = in_round_lem c.requires (omega arith)

pub returns : goal.returns
returns c =
    let s = c.args in
    record { value = (rw c.width.ensures at c.after_rounds-2.ensures.value) ∙ closed-pass (asked_in s.a.asked) (progress_in s.p) s.refreshed s.p.stage (omega arith) (omega arith); upper_bound = c.after_rounds-2.ensures.upper_bound }
