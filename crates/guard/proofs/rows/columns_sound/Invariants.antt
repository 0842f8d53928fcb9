-- The invariant: the flag says whether an entry before p has a high column.
use mathlib.Core.Path.{◌≡◌}
use mathlib.Core.Bool.{not}
use Prim.Native.Nat.{◌≤◌}
use lib.Dec.{leb}
use lib.ListN.{length, get_or}
use Rattle.machine.specs.Ranges.{none_from}
use Rattle.guard.proofs.rows.columns_sound.Given as goal

abbrev pub invariant-loop-p : goal.invariant-loop-p
invariant-loop-p l = (l.initial.p ≤ l.p) × (l.p ≤ l.end) × (l.end ≤ length l.columns) × (l.found ≡ not (none_from (λ q. leb l.n (get_or l.columns q 0)) l.initial.p l.p))
