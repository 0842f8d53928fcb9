-- The chunks of a stage, one after the other. Assumes nothing.
use mathlib.Core.Path.{◌≡◌, refl, sym, ap, ◌∙◌, subst}
use mathlib.Core.List.{List}
use Prim.Native.Nat.{ℕ, suc, ◌+◌, ◌≤◌, ◌<◌}
use native.Mathlib.Omega.{arith}
use lib.ListN.{length, set}
use Rattle.definition.specs.Arith.{ieee64}
use Rattle.definition.specs.Memory.{fill_range}
use Rattle.definition.proofs.Fill.{fill_start, fill_step, fill_length}
use Rattle.held.specs.Calls.{whole}
use Rattle.machine.specs.State.{chunk_count, Lists, State, Lent}
use Rattle.machine.specs.Ready.{Ready}
use Rattle.machine.specs.Work.{work}
use Rattle.stages.proofs.Parts.{parts_of, work-parts, parts_ready}
use Rattle.spectral.specs.Said.{done_up}

module _ (s : State ieee64) (g : Lists ieee64) (m₀ : Lent ieee64) (marks₀ : List ℕ) where
  -- the first h chunks are done and marked
  pub record Upto (h : ℕ) (m : Lent ieee64) (marks : List ℕ) : Type 0 where
    pub within : h ≤ chunk_count s.asked
    pub lent : m ≡ done_up s g h m₀
    pub marked : marks ≡ fill_range 0 h (λ j. 1) marks₀

  pub none_done : Upto 0 m₀ marks₀
  unfolding whole
  none_done = record { within = omega arith; lent = refl; marked = fill_start 0 (λ j. 1) marks₀ }

module _ {s : State ieee64} {g : Lists ieee64} {m₀ : Lent ieee64} {marks₀ : List ℕ} {h : ℕ} {m : Lent ieee64} {marks : List ℕ} (u : Upto s g m₀ marks₀ h m marks) where
  -- so the next one is ready, by the parts of the state that it reads, and has its mark
  pub next_ready : ((j : ℕ) → j < chunk_count s.asked → Ready ieee64 s j g (done_up s g j m₀)) → h < chunk_count s.asked → Ready ieee64 (parts_of ieee64 s) h g m
  next_ready r l = parts_ready ieee64 (subst (λ (x : Lent ieee64). Ready ieee64 s h g x) (sym u.lent) (r h l))

  pub next-marked : chunk_count s.asked ≤ length marks₀ → h < chunk_count s.asked → h < length marks
  next-marked p l = omega (arith, ap length u.marked, fill_length 0 h (λ j. 1) marks₀)

  -- and done
  pub one_more : {m' : Lent ieee64} {marks' : List ℕ} → h < chunk_count s.asked → m' ≡ work ieee64 (parts_of ieee64 s) g h m → marks' ≡ set marks h 1 → Upto s g m₀ marks₀ (h + 1) m' marks'
  unfolding whole
  one_more l w k = record {
    within = omega arith;
    lent = w ∙ work-parts ieee64 s g h m ∙ ap (work ieee64 s g h) u.lent ∙ ap (λ (x : ℕ). done_up s g x m₀) (let e : suc h ≡ h + 1 = omega arith in e);
    marked = k ∙ fill_step 0 h (λ j. 1) marks₀ (omega arith) u.marked refl;
  }

  -- in the end all are
  pub all_done : chunk_count s.asked ≤ h → (m ≡ done_up s g (chunk_count s.asked) m₀) × (marks ≡ fill_range 0 (chunk_count s.asked) (λ j. 1) marks₀)
  all_done l =
      let e : h ≡ chunk_count s.asked = omega (arith, u.within) in
      (u.lent ∙ ap (λ (x : ℕ). done_up s g x m₀) e, u.marked ∙ ap (λ (x : ℕ). fill_range 0 x (λ j. 1) marks₀) e)
