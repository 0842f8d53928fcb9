use mathlib.Core.Path.{refl}
use Prim.Native.Nat.{◌+◌, ◌*◌, ◌<◌}
use native.Mathlib.Omega.{arith}
use Rattle.definition.specs.Memory.{place, block_of}
use Rattle.ritz.proofs.Held.{place-most}
use Rattle.closing.proofs.record.ritz_value.Goals as goal
use Rattle.closing.proofs.record.ritz_value.Goals.{Start}

small : (c : Start) → c.args.p * c.args.k + c.args.p < 225
small c = place-most _ _ _ c.requires.width c.requires.p_lt_k c.requires.p_lt_k

pub offset_bounds-matrix-p : goal.offset_bounds-matrix-p
offset_bounds-matrix-p c = omega (arith, small (goal.at.offset_bounds-matrix-p c).Start)

pub bounds-matrix-p : goal.bounds-matrix-p
bounds-matrix-p c = omega (arith, small (goal.at.bounds-matrix-p c).Start)

pub returns : goal.returns
unfolding block_of place
returns c = refl

pub overflow_mul-result : goal.overflow_mul-result
overflow_mul-result c = omega (arith, small (goal.at.overflow_mul-result c).Start)

pub overflow_add-result : goal.overflow_add-result
overflow_add-result c = omega (arith, small (goal.at.overflow_add-result c).Start)
