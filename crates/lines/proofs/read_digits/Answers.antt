use mathlib.Core.Path.{◌≡◌, sym, subst, ◌∙◌}
use Prim.Native.Nat.{ℕ}
use lib.ListN.{length}
use Rattle.lines.specs.Parts.{ReadsDigits}
use native.Mathlib.Omega.{arith}
use Rattle.digits.proofs.Bytes.{digit_range}
use Rattle.lines.proofs.Plain.{digits-none, digits_more}
use Rattle.lines.proofs.read_digits.Goals as goal

pub loop-i-init : goal.loop-i-init
loop-i-init c = digits-none _ _

pub returns-then-not-is_digit : goal.returns-then-not-is_digit
returns-then-not-is_digit c = c.loop-i.invariant

pub overflow_sub-value : goal.overflow_sub-value
overflow_sub-value c = (digit_range _ (sym c.is_digit.ensures ∙ c.if-not-is_digit.false)).0

pub overflow_cast-value : goal.overflow_cast-value
overflow_cast-value c = omega (arith, (digit_range _ (sym c.is_digit.ensures ∙ c.if-not-is_digit.false)).1)

pub overflow_add-value : goal.overflow_add-value
overflow_add-value c = omega (arith, (digit_range _ (sym c.is_digit.ensures ∙ c.if-not-is_digit.false)).1)

pub loop-i-preserved : goal.loop-i-preserved
loop-i-preserved c = digits_more _ _ _ _ c.loop-i.invariant c.loop-i-test.true (sym c.is_digit.ensures ∙ c.if-not-is_digit.false) c.if-value-ge100000000000000000.false

pub returns : goal.returns
returns c = let i : c.loop-i.i ≡ length c.args.text.now = omega arith in subst (λ (n : ℕ). ReadsDigits c.args.text.now c.args.from c.loop-i.value n) i c.loop-i.invariant
