use mathlib.Core.Path.{sym, ap, ◌∙◌}
use mathlib.Core.Logic.{inl, inr, ⊎_elim}
use native.Mathlib.Omega.{arith}
use Rattle.scanning.proofs.Heads.{variant}
use Rattle.scanning.proofs.Steps.{scan_start, scan_ends, scan_stops, scan_skips, scan_refuses, scan_counts}
use Rattle.scanning.proofs.scan.Goals as goal

pub loop-at-init : goal.loop-at-init
loop-at-init c = scan_start _ _ _ _ _ c.requires

pub read_line-read-requires : goal.read_line-read-requires
read_line-read-requires c = c.loop-at-test.true

pub loop-at-preserved-in-Blank : goal.loop-at-preserved-in-Blank
loop-at-preserved-in-Blank c = scan_skips _ _ _ _ _ _ _ _ c.loop-at.invariant _ c.read_line-read.ensures c.in-Blank.is

pub returns-then-not-is_inside : goal.returns-then-not-is_inside
returns-then-not-is_inside c =
    scan_refuses _ _ _ _ _ _ _ _ c.loop-at.invariant _ c.read_line-read.ensures
    _ _ c.in-Entry.is (sym (c.if-not-is_inside.true) ∙ c.is_inside.ensures) _ c.stopped.ensures

pub with_entry-passed-requires : goal.with_entry-passed-requires
with_entry-passed-requires c = record { entries = omega arith; doubles = c.loop-at.invariant.doubled }

pub loop-at-preserved : goal.loop-at-preserved
loop-at-preserved c =
    scan_counts _ _ _ _ _ _ _ _ c.loop-at.invariant _ c.read_line-read.ensures
    _ _ c.in-Entry.is (sym (c.if-not-is_inside.false) ∙ c.is_inside.ensures) _ c.with_entry-passed.ensures

pub returns-in-Comment : goal.returns-in-Comment
returns-in-Comment c =
    scan_stops _ _ _ _ _ _ _ _ c.loop-at.invariant _ c.read_line-read.ensures
    (⊎_elim (λ e. inl (ap variant e)) (⊎_elim (λ w. inr (inl (ap variant w.3))) (λ e. inr (inr (ap variant e)))) c.in-Comment.is)
    _ c.stopped-in-Comment.ensures

pub returns : goal.returns
returns c = scan_ends _ _ _ _ _ _ _ _ c.loop-at.invariant c.loop-at-test.false _ c.stopped-2.ensures
