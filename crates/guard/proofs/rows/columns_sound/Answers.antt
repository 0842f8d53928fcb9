use mathlib.Core.Path.{◌≡◌, ap, ap₂, ◌∙◌}
use mathlib.Core.Bool.{Bool, not, ◌||◌}
use Prim.Native.Nat.{ℕ, ◌-◌}
use native.Mathlib.Omega.{arith}
use lib.Dec.{leb, ltb}
use lib.ListN.{get_or}
use Rattle.machine.specs.Ranges.{columns_sound}
use Rattle.guard.proofs.Stages.{not-not}
use Rattle.guard.proofs.RowLaws.{bounds, past_high, chunk-ends}
use Rattle.guard.proofs.Scans.{found_none, found-more}
use Rattle.guard.proofs.rows.columns_sound.Goals as goal

pub offset_bounds-starts-end_row : goal.offset_bounds-starts-end_row
offset_bounds-starts-end_row c = let s = chunk-ends _ _ _ _ c.requires.starts c.first_row-first_row.ensures c.end_row-end_row.ensures in omega arith

pub bounds-starts-end_row : goal.bounds-starts-end_row
bounds-starts-end_row c = let s = chunk-ends _ _ _ _ c.requires.starts c.first_row-first_row.ensures c.end_row-end_row.ensures in omega arith

pub overflow_sub-last : goal.overflow_sub-last
overflow_sub-last c = omega (arith, c.args.a.ready.rows-least)

pub overflow_cast-last : goal.overflow_cast-last
overflow_cast-last c = omega (arith, c.args.a.ready.rows-most)

pub offset_bounds-starts-first_row : goal.offset_bounds-starts-first_row
offset_bounds-starts-first_row c = let s = chunk-ends _ _ _ _ c.requires.starts c.first_row-first_row.ensures c.end_row-end_row.ensures in omega arith

pub bounds-starts-first_row : goal.bounds-starts-first_row
bounds-starts-first_row c = let s = chunk-ends _ _ _ _ c.requires.starts c.first_row-first_row.ensures c.end_row-end_row.ensures in omega arith

pub loop-p-init : goal.loop-p-init
loop-p-init c =
    let s = chunk-ends _ _ _ _ c.requires.starts c.first_row-first_row.ensures c.end_row-end_row.ensures in
    (omega arith, omega arith, omega arith, found_none _ _)

pub loop-p-preserved : goal.loop-p-preserved
loop-p-preserved c =
    let high : ℕ → Bool = λ q. leb c.args.a.asked.rows (get_or c.args.columns.now q 0) in
    let one : ltb (c.args.a.asked.rows - 1) (get_or c.args.columns.now c.loop-p.p 0) ≡ high c.loop-p.p = past_high c.args.a.asked.rows _ c.args.a.ready.rows-least in
    (omega arith, omega arith, omega arith, ap₂ (λ (x y : Bool). x || y) c.loop-p.invariant.3 one ∙ found-more high _ c.loop-p.p (omega arith))

pub returns : goal.returns
unfolding columns_sound
returns c =
    let starts = c.args.starts.now in
    let at_end : c.loop-p.p ≡ get_or starts c.end_row-end_row.result 0 = omega arith in
    ap not c.loop-p.invariant.3
    ∙ not-not _
    ∙ bounds _ (ap (λ (i : ℕ). get_or starts i 0) c.first_row-first_row.ensures) (at_end ∙ ap (λ (i : ℕ). get_or starts i 0) c.end_row-end_row.ensures)
