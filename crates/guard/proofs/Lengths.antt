-- The lengths of lent memory: those of the lists at hand are what the caller said, and enough memory is enough of each. Assumes nothing.
use mathlib.Core.Path.{◌≡◌, sym, ap, ◌∙◌}
use mathlib.Core.Bool.{true}
use mathlib.Core.List.{List}
use Prim.Native.Nat.{ℕ, ◌≤◌, ◌<◌}
use native.Mathlib.Omega.{arith}
use borrow.Author.Tests.{ltb-true, leb-true}
use lib.ListN.{length}
use Rattle.definition.specs.Arith.{ieee64}
use Rattle.definition.specs.Memory.{wholes_of}
use Rattle.definition.specs.Numbers.{lent_sizes}
use Rattle.machine.specs.State.{Asked, chunk_count, Lists, State, Lent, lengths_of}
use Rattle.machine.specs.Ranges.{lists_enough, lent_enough, lists_sound}
use Rattle.machine.proofs.Own.{both_of}
use Rattle.ready.proofs.Tested.{lent_each}
use Rattle.guard.specs.Rows.{lists_test, other_lengths, own_lengths}

-- ---- the lengths at hand are the lists' own
pub own_same : (m : Lent ieee64) (marks edges l : List ℕ) → m.edge_columns ≡ edges → other_lengths m ≡ l
    → own_lengths l (length edges) (length marks) ≡ lengths_of ieee64 m marks
own_same m marks edges l e h =
    ap (λ (x : List ℕ). own_lengths x (length edges) (length marks)) (sym h)
    ∙ ap (λ (x : List ℕ). own_lengths (other_lengths m) (length x) (length marks)) (sym e)

-- ---- lists that pass
-- what the tests after it rest on
pub record Enough (a : Asked) (g : Lists ieee64) (e c : ℕ) : Type 0 where
  pub starts : a.rows < length g.starts
  pub columns : a.entries ≤ length g.columns
  pub edge-columns : a.entries ≤ e
  pub marks : chunk_count a ≤ c

pub lists-enough : (a : Asked) (g : Lists ieee64) (l : List ℕ) (edges marks : ℕ) → lists_test a g (own_lengths l edges marks) ≡ true → Enough a g edges marks
unfolding lists_test lists_enough lent_sizes
lists-enough a g l edges marks h =
    let t = both_of _ _ h in
    let s = both_of _ _ t.0 in
    let e = both_of _ _ s.1 in
    let each = lent_each a (wholes_of (own_lengths l edges marks)) t.1 in
    record {
      starts = ltb-true a.rows (length g.starts) s.0;
      columns = leb-true a.entries (length g.columns) e.0;
      edge-columns = each 2 (omega arith);
      marks = each 8 (omega arith);
    }

-- the code's test is the machine's
pub lists-same : (s : State ieee64) (g : Lists ieee64) (m : Lent ieee64) (marks l : List ℕ) → l ≡ lengths_of ieee64 m marks
    → lists_test s.asked g l ≡ lists_sound ieee64 s g m marks
unfolding lists_test lent_enough lists_sound
lists-same s g m marks l e = ap (lists_test s.asked g) e
