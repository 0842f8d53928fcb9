use mathlib.Core.Path.{sym}
use Rattle.matrix_market.proofs.Sizes.{few-starts, few-columns, few-values, room-kept}
use Rattle.matrix_market.proofs.test_room.Goals as goal

pub returns-then-starts-n : goal.returns-then-starts-n
returns-then-starts-n c = sym (few-starts _ _ _ _ _ c.if-starts-n.true)

pub returns-then-columns-placed : goal.returns-then-columns-placed
returns-then-columns-placed c = sym (few-columns _ _ _ _ _ c.if-starts-n.false c.if-columns-placed.true)

pub returns-then-values-placed : goal.returns-then-values-placed
returns-then-values-placed c = sym (few-values _ _ _ _ _ c.if-starts-n.false c.if-columns-placed.false c.if-values-placed.true)

pub returns : goal.returns
returns c = sym (room-kept _ _ _ _ _ c.if-starts-n.false c.if-columns-placed.false c.if-values-placed.false)
