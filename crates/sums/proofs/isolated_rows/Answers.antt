use mathlib.Core.Path.{◌≡◌, refl, sym, ap, ap₂, ◌∙◌}
use mathlib.Core.Bool.{Bool, true, false, not, cond}
use mir.Val.{bool_byte}
use Prim.Native.Nat.{◌+◌}
use native.Mathlib.Omega.{arith}
use Rattle.definition.specs.Arith.{ieee64}
use Rattle.definition.specs.Memory.{vector_of}
use Rattle.definition.proofs.Isolated.{isolated-none, isolated-more, isolated-most}
use Rattle.sums.proofs.isolated_rows.Invariants.{counted}
use Rattle.sums.proofs.isolated_rows.Goals as goal
use Rattle.sums.proofs.isolated_rows.Goals.{After-from-count}

-- the flag of a row that is no isolated one, turned, is what counts
flag : (b : Bool) → bool_byte (not b) ≡ cond b 0 1
flag true = refl
flag false = refl

-- with what a turn adds
more : (c : After-from-count) → c.loop-i.count + c.from-count.result ≡ counted c.args.v0.now (c.loop-i.i + 1)
more c =
    ap₂ ◌+◌ c.loop-i.invariant.1 (c.from-count.ensures ∙ ap (λ (b : Bool). bool_byte (not b)) c.above_floor.ensures ∙ flag _)
    ∙ sym (isolated-more ieee64 _ _)

pub loop-i-init : goal.loop-i-init
loop-i-init c = (omega arith, sym (isolated-none ieee64 _))

pub overflow_add-count : goal.overflow_add-count
overflow_add-count c = omega (arith, more (goal.at.overflow_add-count c).After-from-count, isolated-most ieee64 (c.loop-i.i + 1) (vector_of ieee64.none c.args.v0.now))

pub loop-i-preserved : goal.loop-i-preserved
loop-i-preserved c = (omega arith, more (goal.at.loop-i-preserved c).After-from-count)

pub returns : goal.returns
returns c =
    let e : c.loop-i.i ≡ c.args.n = omega arith in
    c.loop-i.invariant.1 ∙ ap (counted c.args.v0.now) e
