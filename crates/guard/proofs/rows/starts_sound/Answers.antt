use mathlib.Core.Path.{◌≡◌, sym, ◌∙◌, subst}
use Prim.Native.Nat.{ℕ, ◌+◌, ◌≤◌}
use native.Mathlib.Omega.{arith}
use lib.ListN.{get_or}
use Rattle.definition.proofs.Chunks.{first-most, chunk-some}
use Rattle.definition.proofs.Fill.{split}
use Rattle.machine.specs.Ranges.{start_fault, starts_sound}
use Rattle.guard.proofs.RowLaws.{bounds, fault-falls, rising-sound}
use Rattle.guard.proofs.Scans.{found_at}
use Rattle.guard.proofs.rows.starts_sound.Goals as goal

pub loop-i-init : goal.loop-i-init
loop-i-init c =
    let o = chunk-some c.args.a.rows c.args.h c.requires.h_bound in
    let m = first-most c.args.a.rows (c.args.h + 1) in
    (omega arith, omega arith, omega arith, omega arith, λ j p q. absurd (omega arith))

pub returns-then-starts-i : goal.returns-then-starts-i
unfolding starts_sound
returns-then-starts-i c =
    let s = c.args in
    sym (found_at (start_fault s.a.entries s.starts.now) _ _ c.loop-i.i (omega arith) (omega arith) (fault-falls s.a.entries s.starts.now c.loop-i.i c.if-starts-i.true))
    ∙ bounds _ c.first_row-i.ensures c.end_row-end.ensures

pub loop-i-preserved : goal.loop-i-preserved
loop-i-preserved c =
    let starts = c.args.starts.now in (
      omega arith,
      omega arith,
      omega arith,
      omega arith,
      λ j p q. split j c.loop-i.i (λ t. c.loop-i.invariant.4 j p t)
          (λ t. let z : c.loop-i.i ≡ j = omega arith in subst (λ (x : ℕ). get_or starts x 0 ≤ get_or starts (x + 1) 0) z c.if-starts-i.false),
    )

pub returns : goal.returns
unfolding starts_sound
returns c =
    let s = c.args in
    rising-sound s.a.entries s.starts.now _ _ (omega arith) (λ j p q. c.loop-i.invariant.4 j p (omega arith))
    ∙ bounds _ c.first_row-i.ensures c.end_row-end.ensures
