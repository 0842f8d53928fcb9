use mathlib.Core.Path.{sym, ap, ◌∙◌}
use native.Mathlib.Omega.{arith}
use mathlib.Core.Logic.{⊎_elim}
use lib.ListN.{length}
use Rattle.digits.proofs.Bytes.{lt_or_ge}
use Rattle.digits.proofs.Runs.{at-digit, at_other, at_end}
use Rattle.digits.proofs.digits_end.Goals as goal

pub returns-then-not-is_digit : goal.returns-then-not-is_digit
returns-then-not-is_digit c =
    omega (arith, c.loop-i.invariant, ap length (at_other c.args.bytes.now c.loop-i.i c.loop-i-test.true (sym c.is_digit.ensures ∙ c.if-not-is_digit.true)))

pub loop-i-preserved : goal.loop-i-preserved
loop-i-preserved c =
    omega (arith, c.loop-i.invariant, ap length (at-digit c.args.bytes.now c.loop-i.i c.loop-i-test.true (sym c.is_digit.ensures ∙ c.if-not-is_digit.false)))

pub returns : goal.returns
returns c =
    let bytes = c.args.bytes.now in
    let left = ap length (at_end bytes c.loop-i.i (omega arith)) in
    ⊎_elim (λ h. omega (arith, left)) (λ h. omega (arith, ap length (at_end bytes c.args.from h))) (lt_or_ge c.args.from (length bytes))
