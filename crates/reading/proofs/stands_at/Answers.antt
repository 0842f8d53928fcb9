use mathlib.Core.Path.{sym, ◌∙◌}
use native.Mathlib.Omega.{arith}
use Rattle.reading.proofs.Steps.{stands-start, stands_same, stands_other, stands_end}
use Rattle.reading.proofs.stands_at.Goals as goal

pub loop-i-init : goal.loop-i-init
loop-i-init c = (omega arith, stands-start _ _ _)

pub returns-then-byte_at-name : goal.returns-then-byte_at-name
returns-then-byte_at-name c = sym (c.loop-i.invariant.1 ∙ stands_other _ _ _ _ c.loop-i-test.true (λ e. c.if-byte_at-name.true (c.byte_at.ensures ∙ e)))

pub loop-i-preserved : goal.loop-i-preserved
loop-i-preserved c = (omega arith, c.loop-i.invariant.1 ∙ stands_same _ _ _ _ c.loop-i-test.true (sym c.byte_at.ensures ∙ c.if-byte_at-name.false))

pub returns : goal.returns
returns c = sym (c.loop-i.invariant.1 ∙ stands_end _ _ _ _ c.loop-i-test.false)
