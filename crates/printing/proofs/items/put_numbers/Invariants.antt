-- The invariant: the first i numbers are put.
use mathlib.Core.Path.{◌≡◌}
use lib.ListN.{length, take}
use Rattle.printing.proofs.Putting.{Put}
use Rattle.printing.specs.Items.{joined_by}
use Rattle.printing.proofs.items.put_numbers.Given as goal

abbrev pub invariant-loop-i : goal.invariant-loop-i
invariant-loop-i g l = (length l.out ≡ length l.initial.out) × Put (joined_by g.T.Item.text (take l.i l.numbers)) l.at l.initial.out l.next l.out
