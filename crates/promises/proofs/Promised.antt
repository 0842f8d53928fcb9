-- The theorems of the run for the code's calls, at binary64. Assumes nothing.
use mathlib.Core.Path.{◌≡◌, refl, sym, ap, ◌∙◌, subst}
use mathlib.Core.List.{List, [], ◌∷◌}
use Prim.Native.Nat.{ℕ}
use lib.Ieee.{binary64}
use Rattle.definition.specs.Arith.{ieee64}
use Rattle.definition.specs.Numbers.{Params}
use Rattle.held.specs.Calls.{Call}
use Rattle.machine.specs.State.{Lists, Lent}
use Rattle.machine.specs.Calls.{Outcome, open_call}
use Rattle.promises.specs.Promises.{call_on, called, Accepted, after}
use Rattle.promises.specs.Promised.{Turns, none, next, Promised}
use Rattle.promises.proofs.Ieee.{steady}
use Rattle.promises.proofs.Promises.{stands, marked, so_far, untouched, never_16, ends, calls_are, passes_are}
use Rattle.promises.proofs.Fifteen.{ended_15, only_15}
use Rattle.promises.proofs.Upward.{whole_is}

-- the outcomes are those of the list of calls
turns_are : (g : Lists ieee64) (ks : List Call) (o o'' : Outcome ieee64) → Turns g ks o o'' → o'' ≡ called ieee64 g ks o
unfolding called
turns_are g xs x z none = refl
turns_are g xs x z (next {k} {ks} {o} {o'} e t) = turns_are g ks o' z t ∙ ap (called ieee64 g ks) e

pub promised : (d : ℕ) (params : Params) (g : Lists ieee64) (m : Lent ieee64) (marks : List ℕ) → Accepted ieee64 d params g m marks
    → (ks : List Call) (o₀ o : Outcome ieee64) → o₀ ≡ open_call ieee64 d params g m marks → Turns g ks o₀ o → Promised d params g m marks ks o
promised d params g m marks ok ks o₀ o e t =
    subst (λ (x : Outcome ieee64). Promised d params g m marks ks x) (sym (turns_are g ks o₀ o t ∙ ap (called ieee64 g ks) e)) (record {
      stands = stands ieee64 (steady binary64) d params g m marks ok ks;
      marked = marked ieee64 (steady binary64) d params g m marks ok ks;
      so_far = so_far ieee64 (steady binary64) d params g m marks ok ks;
      untouched = untouched ieee64 (steady binary64) d params g m marks ok ks;
      never_16 = never_16 ieee64 (steady binary64) d params g m marks ok ks;
      ended_15 = ended_15 ieee64 (steady binary64) d params g m marks ok ks;
      only_15 = only_15 ieee64 (steady binary64) d params g m marks ok ks;
      same_end = whole_is ieee64 (steady binary64) d params g m marks ok ks;
      ends = ends ieee64 (steady binary64) d params g m marks ok ks;
      calls = calls_are ieee64 (steady binary64) d params g m marks ok ks;
      passes = passes_are ieee64 (steady binary64) d params g m marks ok ks;
    })
