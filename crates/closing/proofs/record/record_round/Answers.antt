use mathlib.Core.Path.{◌≡◌, refl}
use Prim.Native.Nat.{suc, ◌+◌, ◌-◌, ◌*◌}
use native.Mathlib.Nat.{sub_self}
use native.Mathlib.Omega.{arith}
use lib.ListN.{length, length-set}
use Rattle.definition.proofs.Fill.{fill_start, fill_step, fill_to, fill_next}
use Rattle.machine.specs.Closing.{recorded, round_recorded}
use Rattle.closing.proofs.record.record_round.Goals as goal
use Rattle.closing.proofs.record.record_round.Goals.{At-loop-j}

-- the loop starts from the list with the bound in its place
long : (c : At-loop-j) → length c.loop-j.ritz_record ≡ length c.args.ritz_record.now
long c = simp length-set at c.loop-j.invariant.1

pub loop-j-init : goal.loop-j-init
loop-j-init c = (omega arith, refl, fill_to _ _ _ (fill_start _ _ _) (omega arith))

pub shape_of-ritz_record : goal.shape_of-ritz_record
shape_of-ritz_record c = long (goal.at.shape_of-ritz_record c).At-loop-j

pub returns : goal.returns
unfolding recorded round_recorded
returns c =
    let a = c.args in
    let first = a.round * (a.k + 1) in
    fill_to _ _ _
    (fill_next _ _ _ _ _ _ (omega arith) (omega arith)
    (fill_step first first _ _ (omega arith) (fill_start _ _ _) (rw sub_self)) c.loop-j.invariant.2 (λ p u v. refl))
    (omega arith)

pub bounds-ritz_record-first-in-loop-j : goal.bounds-ritz_record-first-in-loop-j
bounds-ritz_record-first-in-loop-j c = omega (arith, long (goal.at.bounds-ritz_record-first-in-loop-j c).At-loop-j)

pub loop-j-preserved : goal.loop-j-preserved
unfolding recorded
loop-j-preserved c =
    let l = c.loop-j in
    let first = c.args.round * (c.args.k + 1) in
    let e : first + 1 + l.j - first ≡ suc l.j = omega arith in (
      omega arith,
      simp length-set (long (goal.at.loop-j-preserved c).At-loop-j),
      fill_to _ _ _ (fill_step _ _ _ _ (omega arith) l.invariant.2 (rw e c.ritz_value.ensures)) (omega arith),
    )
