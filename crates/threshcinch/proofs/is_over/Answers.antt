use borrow.Author.Tests.{lt-ltb, le-ltb}
use Rattle.threshcinch.proofs.is_over.Goals as goal

pub returns-then-rows-gt-ROWS_MOST : goal.returns-then-rows-gt-ROWS_MOST
returns-then-rows-gt-ROWS_MOST c = simp (lt-ltb _ _ c.if-rows-gt-ROWS_MOST.true)

pub returns-else-rows-gt-ROWS_MOST : goal.returns-else-rows-gt-ROWS_MOST
returns-else-rows-gt-ROWS_MOST c = simp (le-ltb _ _ c.if-rows-gt-ROWS_MOST.false)
