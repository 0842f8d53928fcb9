-- The contracts of `test_chunk` and `test_close` leave one answer: whatever the edge columns and the lengths of the other lists, some lent
-- memory has them, and the answer is the machine's on it. Assumes nothing.
use mathlib.Core.Path.{◌≡◌, refl, sym, ◌∙◌}
use mathlib.Core.List.{List, [], ◌∷◌}
use Prim.Native.Nat.{ℕ}
use native.Mathlib.Omega.{arith}
use lib.Ieee.{Float, nan}
use lib.ListN.{length, get_or, replicate, length-replicate}
use Rattle.definition.specs.Arith.{ieee64}
use Rattle.definition.specs.Refusals as definition
use Rattle.std.specs.Prelude.{Result}
use Rattle.input.specs.declared.refusal.Refusal.{Refusal}
use Rattle.input.specs.Said.{verdict_in}
use Rattle.input.proofs.Determined.{tested-once}
use Rattle.machine.specs.State.{Lent}
use Rattle.guard.specs.Rows.{other_lengths}

abbrev long : ℕ → List Float
long n = replicate n nan

-- memory of the nine lengths
abbrev lent_of : List ℕ → List ℕ → Lent ieee64
lent_of edges l = record {
  inverse = long (get_or l 0 0);
  v0 = long (get_or l 1 0);
  edge_columns = edges;
  edge_weights = long (get_or l 2 0);
  block0 = long (get_or l 3 0);
  block1 = long (get_or l 4 0);
  block2 = long (get_or l 5 0);
  partials = long (get_or l 6 0);
  output = long (get_or l 7 0);
  ritz_record = long (get_or l 8 0);
}

has-lengths : (edges l : List ℕ) → length l ≡ 9 → other_lengths (lent_of edges l) ≡ l
has-lengths edges (a ∷ b ∷ c ∷ d ∷ e ∷ f ∷ g ∷ h ∷ i ∷ []) q = simp length-replicate
has-lengths edges [] q = absurd (omega arith)
has-lengths edges (a ∷ []) q = absurd (omega arith)
has-lengths edges (a ∷ b ∷ []) q = absurd (omega arith)
has-lengths edges (a ∷ b ∷ c ∷ []) q = absurd (omega arith)
has-lengths edges (a ∷ b ∷ c ∷ d ∷ []) q = absurd (omega arith)
has-lengths edges (a ∷ b ∷ c ∷ d ∷ e ∷ []) q = absurd (omega arith)
has-lengths edges (a ∷ b ∷ c ∷ d ∷ e ∷ f ∷ []) q = absurd (omega arith)
has-lengths edges (a ∷ b ∷ c ∷ d ∷ e ∷ f ∷ g ∷ []) q = absurd (omega arith)
has-lengths edges (a ∷ b ∷ c ∷ d ∷ e ∷ f ∷ g ∷ h ∷ []) q = absurd (omega arith)
has-lengths edges (a ∷ b ∷ c ∷ d ∷ e ∷ f ∷ g ∷ h ∷ i ∷ j ∷ l) q = absurd (omega arith)

-- `test` is the machine's test as a function of the lent memory
pub test_once : (edges l : List ℕ) → length l ≡ 9 → (test : Lent ieee64 → definition.Verdict) (r s : Result Unit Refusal)
    → ((m : Lent ieee64) → m.edge_columns ≡ edges → other_lengths m ≡ l → verdict_in r ≡ test m)
    → ((m : Lent ieee64) → m.edge_columns ≡ edges → other_lengths m ≡ l → verdict_in s ≡ test m) → r ≡ s
test_once edges l q test r s p o =
    let m = lent_of edges l in let e : other_lengths m ≡ l = has-lengths edges l q in tested-once r s (p m refl e ∙ sym (o m refl e))
