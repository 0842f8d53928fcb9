use mathlib.Core.Path.{◌∙◌}
use native.Mathlib.Omega.{arith}
use borrow.Author.Tests.{ne_eqb}
use Rattle.scanning.proofs.Sizes.{quotient_below, quotient_above, quotient_same}
use Rattle.scanning.proofs.fits.Goals as goal

pub returns-then-whole-p : goal.returns-then-whole-p
returns-then-whole-p c = quotient_below _ _ _ c.requires c.if-whole-p.true

pub returns-then-whole-p-2 : goal.returns-then-whole-p-2
returns-then-whole-p-2 c = quotient_same _ _ _ c.requires c.if-whole-p-2.true

pub returns-else-whole-p-2 : goal.returns-else-whole-p-2
returns-else-whole-p-2 c = ne_eqb _ _ c.if-whole-p-2.false ∙ quotient_above _ _ _ c.requires (omega (arith, c.if-whole-p.false, c.if-whole-p-2.false))
