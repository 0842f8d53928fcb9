-- A chunk's work reads nothing of a state but the parts that `parts_in` keeps: the counts and the matrix have no part in it. Assumes nothing.
use mathlib.Core.Path.{◌≡◌, refl}
use Prim.Native.Nat.{ℕ}
use native.Mathlib.Omega.{arith}
use Rattle.definition.specs.Arith.{Arith}
use Rattle.machine.specs.State.{Stage, stage_of, Lists, State, Lent}
use Rattle.machine.specs.State as stage
use Rattle.machine.specs.Ready.{Ready}
use Rattle.machine.specs.Work.{work_by, work}
use Rattle.stages.specs.Parts.{parts_state}

module _ (A : Arith) where
  -- the state with no counts and no matrix; of the code's state it is `parts_in` of its fields
  abbrev pub parts_of : State A → State A
  parts_of s = parts_state A s.asked s.progress s.totals s.vectors s.order

  module _ (s : State A) (g : Lists A) (h : ℕ) (m : Lent A) where
    by_parts : (st : Stage) → work_by A st (parts_of s) g h m ≡ work_by A st s g h m
    by_parts stage.empty = refl
    by_parts stage.degrees = refl
    by_parts stage.edges = refl
    by_parts stage.v0 = refl
    by_parts stage.start_block = refl
    by_parts stage.filter_pass = refl
    by_parts stage.norm_before = refl
    by_parts stage.first_dots = refl
    by_parts stage.first_subtract = refl
    by_parts stage.second_dots = refl
    by_parts stage.second_subtract = refl
    by_parts stage.norm_after = refl
    by_parts stage.write = refl
    by_parts stage.plain_pass = refl
    by_parts stage.products = refl
    by_parts stage.rotate = refl
    by_parts stage.sums = refl
    by_parts stage.centre = refl
    by_parts stage.squares = refl
    by_parts stage.scale = refl
    by_parts stage.ended = refl

    pub work-parts : work A (parts_of s) g h m ≡ work A s g h m
    unfolding work
    work-parts = by_parts (stage_of s.progress.stage)

  -- what the work may rest on, it may rest on by the parts: no counts are in every range
  pub parts_ready : {s : State A} {h : ℕ} {g : Lists A} {m : Lent A} → Ready A s h g m → Ready A (parts_of s) h g m
  parts_ready r =
      record {
        state = record {
          asked = r.state.asked;
          progress = r.state.progress;
          counts = record { passes = omega arith; refreshed = omega arith; zeroed = omega arith; isolated = omega arith };
          order = r.state.order;
        };
        lists = r.lists;
        lent = r.lent;
        chunk = r.chunk;
        rows = r.rows;
      }
