-- Its products are few.
use mathlib.Core.Path.{ap}
use Prim.Native.Nat.{ℕ, ◌+◌, ◌*◌, ◌≤◌}
use native.Mathlib.Nat.{mul-le-mul}
use native.Mathlib.Omega.{arith}
use Rattle.guard.proofs.Asked.{columns-few}
use Rattle.guard.proofs.Owed.{round-few}
use Rattle.guard.proofs.progress.after_rounds.Goals as goal
use Rattle.guard.proofs.progress.after_rounds.Goals.{After-round_stages}

rounds-few : (c : After-round_stages) → c.args.rounds * c.round_stages.result ≤ 1_000 * 1_107
rounds-few c =
    let p = c.requires in
    let r : c.args.rounds ≤ 1_000 = omega (arith, p.rounds-few, p.asked.rounds-most) in
    let s : c.round_stages.result ≤ 1_107 = omega (arith, round-few p.asked, c.round_stages.ensures) in
    mul-le-mul r s

refreshed-few : (c : After-round_stages) → c.args.refreshed ≤ 15_000
refreshed-few c = omega (arith, c.requires.refreshed-few, columns-few c.requires.asked)

pub overflow_mul-result : goal.overflow_mul-result
overflow_mul-result c = omega (arith, rounds-few (goal.at.overflow_mul-result c).After-round_stages, refreshed-few (goal.at.overflow_mul-result c).After-round_stages)

pub overflow_add-result : goal.overflow_add-result
overflow_add-result c = omega (arith, rounds-few (goal.at.overflow_add-result c).After-round_stages, refreshed-few (goal.at.overflow_add-result c).After-round_stages)

pub overflow_mul-result-2 : goal.overflow_mul-result-2
overflow_mul-result-2 c = omega (arith, rounds-few (goal.at.overflow_mul-result-2 c).After-round_stages, refreshed-few (goal.at.overflow_mul-result-2 c).After-round_stages)

pub overflow_add-result-2 : goal.overflow_add-result-2
overflow_add-result-2 c = omega (arith, rounds-few (goal.at.overflow_add-result-2 c).After-round_stages, refreshed-few (goal.at.overflow_add-result-2 c).After-round_stages)

pub overflow_add-result-3 : goal.overflow_add-result-3
overflow_add-result-3 c = omega (arith, rounds-few (goal.at.overflow_add-result-3 c).After-round_stages, refreshed-few (goal.at.overflow_add-result-3 c).After-round_stages)

pub returns : goal.returns
returns c =
    let s = c.args in
    record {
      value = ap (λ (x : ℕ). 4 + s.rounds * x + 7 * s.refreshed + s.i) c.round_stages.ensures;
      upper_bound = omega (arith, rounds-few (goal.at.returns c).After-round_stages, refreshed-few (goal.at.returns c).After-round_stages, c.requires.more-few);
    }
