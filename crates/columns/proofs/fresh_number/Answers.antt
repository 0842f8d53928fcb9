-- At the sizes that it asks for, no step wraps.
use Prim.Native.Nat.{◌+◌, ◌*◌, ◌≤◌}
use native.Mathlib.Nat.{mul-le-mul}
use native.Mathlib.Omega.{arith}
use Rattle.definition.specs.Arith.{narrowed}
use Rattle.definition.specs.OrthonormalizeBlock.{fresh_index}
use Rattle.columns.proofs.fresh_number.Goals as goal
use Rattle.columns.proofs.fresh_number.Goals.{Start}

sizes : (c : Start) → ((c.args.round + 1) * c.args.n ≤ 1_000 * 1_048_576) × ((c.args.round + 1) * c.args.n * c.args.k ≤ 1_000 * 1_048_576 * 15) × (c.args.c * c.args.n ≤ 15 * 1_048_576)
sizes c =
    let early : c.args.round + 1 ≤ 1_000 = omega arith in
    let before : c.args.c ≤ 15 = omega arith in
    let h : (c.args.round + 1) * c.args.n ≤ 1_000 * 1_048_576 = mul-le-mul {n₁ = c.args.round + 1} {m₁ = c.args.n} {n₂ = 1_000} {m₂ = 1_048_576} early c.requires.fresh.rows in
    (h, mul-le-mul {n₁ = (c.args.round + 1) * c.args.n} {m₁ = c.args.k} {n₂ = 1_000 * 1_048_576} {m₂ = 15} h c.requires.fresh.width.most, mul-le-mul {n₁ = c.args.c} {m₁ = c.args.n} {n₂ = 15} {m₂ = 1_048_576} before c.requires.fresh.rows)

pub returns : goal.returns
unfolding fresh_index narrowed
returns c = c.splitmix_unit.ensures
