use native.Mathlib.Omega.{arith}
use mathlib.Core.Path.{sym, ◌∙◌}
use Rattle.reading.proofs.Steps.{scan_start, scan_full, scan_wrong, scan_last, scan_other, scan_more}
use Rattle.reading.proofs.read_numbers.Goals as goal

pub loop-i-init : goal.loop-i-init
loop-i-init c = scan_start _ _ _ _

pub returns-in_err-number : goal.returns-in_err-number
returns-in_err-number c =
    rw c.from_residual.ensures (scan_wrong _ _ _ _ _ _ _ c.loop-i.invariant (omega arith) (sym c.number_at.ensures ∙ c.in_err-number.was) _)

pub returns-then-b-eq10 : goal.returns-then-b-eq10
returns-then-b-eq10 c =
    scan_last _ _ _ _ _ _ _ c.loop-i.invariant (omega arith) _ _
    (sym c.number_at.ensures ∙ c.in_ok-number.was) (sym c.byte_at-b.ensures ∙ c.if-b-eq10.true)

pub returns-then-b-ne44 : goal.returns-then-b-ne44
returns-then-b-ne44 c =
    scan_other _ _ _ _ _ _ _ c.loop-i.invariant (omega arith) _ _
    (sym c.number_at.ensures ∙ c.in_ok-number.was)
    (λ e. c.if-b-eq10.false (c.byte_at-b.ensures ∙ e)) (λ e. c.if-b-ne44.true (c.byte_at-b.ensures ∙ e)) _

pub loop-i-preserved : goal.loop-i-preserved
loop-i-preserved c =
    scan_more _ _ _ _ _ _ _ c.loop-i.invariant (omega arith) _ _
    (sym c.number_at.ensures ∙ c.in_ok-number.was) (sym c.byte_at-b.ensures ∙ c.if-b-ne44.false)

pub returns : goal.returns
returns c = scan_full _ _ _ _ _ _ _ c.loop-i.invariant (omega arith)
