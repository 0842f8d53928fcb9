-- The invariant: no start before i is above the next one.
use Prim.Native.Nat.{ℕ, ◌+◌, ◌≤◌, ◌<◌}
use lib.ListN.{length, get_or}
use Rattle.guard.proofs.rows.starts_sound.Given as goal

abbrev pub invariant-loop-i : goal.invariant-loop-i
invariant-loop-i l = (l.initial.i ≤ l.i) × (l.initial.i < l.end) × (l.i ≤ l.end) × (l.end < length l.starts) × ((j : ℕ) → l.initial.i ≤ j → j < l.i → get_or l.starts j 0 ≤ get_or l.starts (j + 1) 0)
