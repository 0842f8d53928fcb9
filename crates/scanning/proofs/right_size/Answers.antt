use mathlib.Core.Path.{◌∙◌}
use Rattle.scanning.proofs.Sizes.{size_other, size_even, size-odd}
use Rattle.scanning.proofs.right_size.Goals as goal

pub returns-then-rows-columns : goal.returns-then-rows-columns
returns-then-rows-columns c = size_other _ _ _ c.if-rows-columns.true

pub returns-then-rows-eq0 : goal.returns-then-rows-eq0
returns-then-rows-eq0 c = c.fits.ensures ∙ size_even _ _ _ c.if-rows-columns.false c.if-rows-eq0.true

pub returns : goal.returns
returns c = c.fits-2.ensures ∙ size-odd _ _ _ c.if-rows-columns.false c.if-rows-eq0.false
