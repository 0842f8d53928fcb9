use mathlib.Core.Path.{sym}
use Rattle.definition.specs.OrthonormalizeBlock.{raised_refreshed, raised_zeroed}
use Rattle.machine.specs.Work.{ending_in}
use native.Mathlib.Omega.{arith}
use Rattle.closing.proofs.Room.{refreshed-room, zeroed-room}
use Rattle.closing.proofs.written.close_write.Goals as goal

pub overflow_add-refreshed : goal.overflow_add-refreshed
overflow_add-refreshed c = let s = c.requires in omega (arith, refreshed-room s.asked s.counts)

pub overflow_add-zeroed : goal.overflow_add-zeroed
overflow_add-zeroed c = let s = c.requires in omega (arith, zeroed-room s.asked s.counts)

pub returns-in-Kept : goal.returns-in-Kept
unfolding ending_in raised_refreshed raised_zeroed
returns-in-Kept c = rw (sym c.collapse_test-end.ensures, c.in-Kept.is, c.next_column.ensures)

pub returns-in-Refreshed : goal.returns-in-Refreshed
unfolding ending_in raised_refreshed raised_zeroed
returns-in-Refreshed c = rw (sym c.collapse_test-end.ensures, c.in-Refreshed.is, c.tried_again.ensures)

pub returns-in-Zeroed : goal.returns-in-Zeroed
unfolding ending_in raised_refreshed raised_zeroed
returns-in-Zeroed c = rw (sym c.collapse_test-end.ensures, c.in-Zeroed.is, c.next_column-in-Zeroed.ensures)
