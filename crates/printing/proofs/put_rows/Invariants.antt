-- The invariant: the first i rows are put.
use mathlib.Core.Path.{◌≡◌}
use Prim.Native.Nat.{◌+◌, ◌*◌, ◌≤◌}
use lib.Ieee.{nan}
use lib.ListN.{length, get_or}
use Rattle.printing.specs.Printed.{rows_text}
use Rattle.printing.proofs.Putting.{Put}
use Rattle.printing.proofs.put_rows.Given as goal

abbrev pub invariant-loop-i : goal.invariant-loop-i
invariant-loop-i l = (l.i ≤ l.n) × (length l.out ≡ length l.initial.out) × Put (rows_text (λ j k. get_or l.seed (j * l.d + k) nan) l.d l.i) l.at l.initial.out l.next l.out
