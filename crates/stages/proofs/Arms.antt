-- Laws of the choice among the stages: what a filter pass multiplies by, and what a chunk's work is once its stage is known. Assumes nothing.
use mathlib.Core.Path.{◌≡◌, sym, ap, ◌∙◌}
use Prim.Native.Nat.{ℕ}
use borrow.Author.Tests.{eq-eqb, ne_eqb}
use lib.Ieee.{Float}
use Rattle.definition.specs.Arith.{ieee64}
use Rattle.definition.specs.ChebyshevRayleighRitz.{first_multipliers, later_multipliers, next_alpha}
use Rattle.definition.specs.MatvecCombine.{Multipliers}
use Rattle.machine.specs.State as machine
use Rattle.machine.specs.State.{Asked, Lists, Progress, State, Lent}
use Rattle.machine.specs.Work.{filter_multipliers, pass_work, work_by, work}
use Rattle.state.specs.declared.stage.Stage.{Stage}
use Rattle.state.specs.Stages.{stage_in, StageAt}

-- ---- what a filter pass multiplies by
pub filter_first : (p : Progress ieee64) → p.pass ≡ 0 → first_multipliers ieee64 p.bound p.alpha ≡ filter_multipliers ieee64 p
unfolding filter_multipliers
filter_first p h = rw (eq-eqb p.pass 0 h)

pub filter_later : (p : Progress ieee64) {following : Float} → (p.pass ≡ 0 → ⊥) → following ≡ next_alpha ieee64 p.bound p.alpha
    → later_multipliers ieee64 p.bound p.alpha following ≡ filter_multipliers ieee64 p
unfolding filter_multipliers
filter_later p h e = rw (ne_eqb p.pass 0 h, e)

-- a pass by other names of its multipliers
pub pass-by : (a : Asked) (current previous : ℕ) (g : Lists ieee64) (h : ℕ) (m : Lent ieee64) {by to : Multipliers ieee64} {after : Lent ieee64} → by ≡ to
    → after ≡ pass_work ieee64 a by current previous g h m → after ≡ pass_work ieee64 a to current previous g h m
pass-by a current previous g h m p w = w ∙ ap (λ (x : Multipliers ieee64). pass_work ieee64 a x current previous g h m) p

-- ---- the work at the stage that the code names
module _ (s : State ieee64) (g : Lists ieee64) (h : ℕ) (m : Lent ieee64) where
  pub arm : (t : Stage) {r : Stage} {after : Lent ieee64} → StageAt s.progress.stage r → r ≡ t → after ≡ work_by ieee64 (stage_in t) s g h m → after ≡ work ieee64 s g h m
  unfolding work
  arm t e p w = w ∙ ap (λ (x : machine.Stage). work_by ieee64 x s g h m) (ap stage_in (sym p) ∙ e.named)
