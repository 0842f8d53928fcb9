-- What the first tests of a call have shown, once they have passed. Assumes nothing.
use mathlib.Core.Path.{◌≡◌, sym, ap, ◌∙◌}
use mathlib.Core.Bool.{true}
use mathlib.Core.List.{List}
use Prim.Native.Nat.{ℕ}
use lib.ListN.{length}
use Rattle.definition.specs.Arith.{ieee64}
use Rattle.definition.specs.Refusals.{accepted}
use Rattle.machine.specs.State.{Lists, State, Lent}
use Rattle.machine.specs.Ranges.{state_sound, is_open, lists_sound}
use Rattle.machine.specs.Ready.{AskedReady}
use Rattle.guard.specs.Rows.{begun_test, lists_test, other_lengths, own_lengths}
use Rattle.guard.proofs.Asked.{state-asked}
use Rattle.guard.proofs.Lengths.{Enough, own_same, lists-same, lists-enough}
use Rattle.guard.proofs.Verdicts.{begun, all-begun}

module _ (s : State ieee64) (g : Lists ieee64) (edges marks lengths : List ℕ) {own : List ℕ} (is : own ≡ own_lengths lengths (length edges) (length marks)) where
  -- the code's tests are the machine's, of any memory with these lengths
  pub begun-same : (m : Lent ieee64) → m.edge_columns ≡ edges → other_lengths m ≡ lengths
      → begun_test s g own ≡ begun (state_sound ieee64 s) (is_open ieee64 s) (lists_sound ieee64 s g m marks)
  begun-same m e l =
      ap (begun (state_sound ieee64 s) (is_open ieee64 s)) (lists-same s g m marks own (is ∙ own_same m marks edges lengths e l))

  module _ (h : accepted ≡ begun_test s g own) where
    pub begun-passed : (m : Lent ieee64) → m.edge_columns ≡ edges → other_lengths m ≡ lengths
        → (state_sound ieee64 s ≡ true) × (is_open ieee64 s ≡ true) × (lists_sound ieee64 s g m marks ≡ true)
    begun-passed m e l = all-begun _ _ _ (h ∙ begun-same m e l)

    pub begun-asked : AskedReady s.asked
    begun-asked = state-asked s (all-begun _ _ _ h).0

    pub begun-enough : Enough s.asked g (length edges) (length marks)
    begun-enough =
        let t = all-begun _ _ _ h in
        lists-enough s.asked g lengths (length edges) (length marks) (sym (ap (lists_test s.asked g) is) ∙ t.2)
