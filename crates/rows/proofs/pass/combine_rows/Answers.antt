use mathlib.Core.Path.{◌≡◌, refl, sym, ap, ◌∙◌}
use Prim.Native.Nat.{ℕ, ◌≤◌, ◌<◌, ◌-◌, ◌*◌, ◌+◌, ◌^◌}
use native.Mathlib.Nat.{zero-mul}
use native.Mathlib.Omega.{arith}
use lib.ListN.{length}
use Rattle.definition.specs.Arith.{ieee64}
use Rattle.definition.proofs.Fill.{fill_empty, fill_next, fill_to}
use Rattle.definition.proofs.Places.{row_end, row_next}
use Rattle.numbers.specs.Answers.{multipliers_of}
use Rattle.rows.proofs.Passes.{row-entries, row_combined}
use Rattle.rows.proofs.pass.combine_rows.Given.{Over}
use Rattle.rows.proofs.pass.combine_rows.Goals as goal
use Rattle.rows.proofs.pass.combine_rows.Goals.{In-loop-r}

-- the row's numbers lie within the part, and within the blocks
row : (g : Over) (c : In-loop-r g) →
    let r = c.loop-r.r in
    let k = g.row.K in
    (k ≤ 15) × (r * k + k < 2 ^ 64) × (r * k + k ≤ length c.loop-r.out) × ((c.args.own.first + r) * k + k ≤ length c.args.v.now)
    × ((c.args.own.first + r) * k + k ≤ length c.args.prev.now)
row g c =
    let r = c.loop-r.r in
    let k = g.row.K in
    let h = c.requires.pass in
    let e = row_end (c.args.own.first + r) k c.args.own.n (omega (arith, h.span)) in
    let o : r * k + k ≤ length c.args.out.now = omega (arith, row_end r k (c.args.own.end - c.args.own.first) c.loop-r-test.true, c.requires.out_len) in
    (h.width.most, omega (arith, o, c.well_formed), omega (arith, o, c.loop-r.invariant.1), omega (arith, e, h.v_enough), omega (arith, e, h.prev_enough))

pub loop-r-init : goal.loop-r-init
loop-r-init g c = (omega arith, refl, sym (fill_empty _ _ _ _ (omega (arith, zero-mul g.row.K))))

pub gather-acc-requires : goal.gather-acc-requires
gather-acc-requires g c = row-entries c.requires.pass (c.args.own.first + c.loop-r.r) (omega arith) (omega arith)

pub overflow_mul-i : goal.overflow_mul-i
overflow_mul-i g c = omega (arith, row g (goal.at.overflow_mul-i g c).In-loop-r)

pub mix_row-row-requires : goal.mix_row-row-requires
mix_row-row-requires g c = omega (arith, row g (goal.at.mix_row-row-requires g c).In-loop-r)

pub overflow_mul-r : goal.overflow_mul-r
overflow_mul-r g c = omega (arith, row g (goal.at.overflow_mul-r g c).In-loop-r)

pub put_row-requires : goal.put_row-requires
put_row-requires g c = omega (arith, row g (goal.at.put_row-requires g c).In-loop-r)

pub loop-r-preserved : goal.loop-r-preserved
loop-r-preserved g c =
    let l = c.loop-r in
    let a = c.args in
    let k = g.row.K in
    let put = c.put_row in
    let mixed = c.mix_row-row in
    let gathered = c.gather-acc in (
      omega (arith, c.loop-r-test.true),
      put.auto.out ∙ l.invariant.1,
      fill_to _ _ _
          (fill_next 0 (l.r * k) (l.r * k + k) _ _ _ (omega arith) (omega arith) l.invariant.2 put.ensures
          (row_combined ieee64 a.own.n k a.op.starts.now a.op.columns.now a.op.weights.now a.op.inverse.now
          (multipliers_of a.by) a.v.now a.prev.now
          a.own.first l.r c.requires.pass.width.most gathered.ensures mixed.ensures))
          (sym (row_next l.r k)),
    )

pub shape_of-out : goal.shape_of-out
shape_of-out g c = c.loop-r.invariant.1

pub returns : goal.returns
returns g c =
    let l = c.loop-r in
    let e : l.r ≡ c.args.own.end - c.args.own.first = omega arith in
    fill_to _ _ _ l.invariant.2 (ap (λ (x : ℕ). x * g.row.K) e ∙ sym c.requires.out_len)
