use mathlib.Core.Path.{sym, ◌∙◌}
use native.Mathlib.Omega.{arith}
use lib.ListN.{drop_of_length-le}
use Rattle.std.proofs.lemmas.List.{take_rest}
use Rattle.digits.proofs.Bytes.{digit_range}
use Rattle.lines.proofs.Words.{word_off, word_end}
use Rattle.lines.proofs.Numbers.{scan_start, scan_done, scan_other, scan_over, scan_step}
use Rattle.lines.proofs.read_number.Goals as goal

pub loop-i-init : goal.loop-i-init
loop-i-init c = scan_start _

pub returns-then-is_blank : goal.returns-then-is_blank
returns-then-is_blank c =
    scan_done _ _ _ c.requires c.loop-i.invariant _ (sym (take_rest c.args.words.now c.loop-i.i)) (word_off _ _ c.loop-i-test.true (sym c.is_blank.ensures ∙ c.if-is_blank.true))

pub returns-then-not-is_digit : goal.returns-then-not-is_digit
returns-then-not-is_digit c =
    scan_other _ _ _ c.requires c.loop-i.invariant c.loop-i-test.true (sym c.is_digit.ensures ∙ c.if-not-is_digit.true) (sym c.is_blank.ensures ∙ c.if-is_blank.false)

pub overflow_sub-b : goal.overflow_sub-b
overflow_sub-b c = (digit_range _ (sym c.is_digit.ensures ∙ c.if-not-is_digit.false)).0

pub returns-in_err-value : goal.returns-in_err-value
returns-in_err-value c =
    rw c.from_residual.ensures
    (scan_over _ _ _ c.requires c.loop-i.invariant c.loop-i-test.true (sym c.is_digit.ensures ∙ c.if-not-is_digit.false) (omega (arith, c.in_err-value.ensures)))

pub loop-i-preserved : goal.loop-i-preserved
loop-i-preserved c =
    rw c.in_ok-value.ensures.1
    (scan_step _ _ _ c.requires c.loop-i.invariant c.loop-i-test.true (sym c.is_digit.ensures ∙ c.if-not-is_digit.false) (omega (arith, c.in_ok-value.ensures)))

pub returns : goal.returns
returns c = scan_done _ _ _ c.requires c.loop-i.invariant _ (drop_of_length-le _ c.loop-i-test.false) (word_end _ _ c.loop-i-test.false)
