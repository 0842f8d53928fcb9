-- A chunk's work neither reads nor writes the Ritz record. Assumes nothing.
use mathlib.Core.Path.{◌≡◌, refl, sym, ap, ◌∙◌}
use mathlib.Core.List.{List}
use Prim.Native.Nat.{ℕ, zero, suc}
use Rattle.definition.specs.Arith.{Arith}
use Rattle.held.specs.Calls.{whole}
use Rattle.machine.specs.State.{Stage, stage_of, Lists, State, Lent, with_record, block_at, with_block}
use Rattle.machine.specs.State as stage
use Rattle.machine.specs.Work.{free_block, work_by, work}

module _ (A : Arith) (l : List A.F) where
  -- the blocks beside another record
  pub record-block : (b : ℕ) (m : Lent A) → block_at A b (with_record A l m) ≡ block_at A b m
  record-block zero m = refl
  record-block (suc zero) m = refl
  record-block (suc (suc b)) m = refl

  block-record : (b : ℕ) (x : List A.F) (m : Lent A) → with_block A b x (with_record A l m) ≡ with_record A l (with_block A b x m)
  block-record zero x m = refl
  block-record (suc zero) x m = refl
  block-record (suc (suc b)) x m = refl

  module _ (s : State A) (g : Lists A) (h : ℕ) (m : Lent A) where
    beside_by : (st : Stage) → work_by A st s g h (with_record A l m) ≡ with_record A l (work_by A st s g h m)
    beside_by stage.empty = refl
    beside_by stage.degrees = refl
    beside_by stage.edges = refl
    beside_by stage.v0 = refl
    beside_by stage.start_block = refl
    beside_by stage.filter_pass =
        rw (record-block s.progress.current m, record-block s.progress.previous m, record-block (free_block s.progress.current s.progress.previous) m)
        (block-record (free_block s.progress.current s.progress.previous) _ m)
    beside_by stage.norm_before = rw (record-block s.progress.current m) refl
    beside_by stage.first_dots = rw (record-block s.progress.current m) refl
    beside_by stage.first_subtract = rw (record-block s.progress.current m) (block-record s.progress.current _ m)
    beside_by stage.second_dots = rw (record-block s.progress.current m) refl
    beside_by stage.second_subtract = rw (record-block s.progress.current m) (block-record s.progress.current _ m)
    beside_by stage.norm_after = rw (record-block s.progress.current m) refl
    beside_by stage.write = rw (record-block s.progress.current m) (block-record s.progress.current _ m)
    beside_by stage.plain_pass =
        rw (record-block s.progress.current m, record-block (free_block s.progress.current s.progress.current) m)
        (block-record (free_block s.progress.current s.progress.current) _ m)
    beside_by stage.products = rw (record-block s.progress.current m, record-block (free_block s.progress.current s.progress.current) m) refl
    beside_by stage.rotate = rw (record-block s.progress.current m) refl
    beside_by stage.sums = refl
    beside_by stage.centre = refl
    beside_by stage.squares = refl
    beside_by stage.scale = refl
    beside_by stage.ended = refl

    pub work_beside : work A s g h (with_record A l m) ≡ with_record A l (work A s g h m)
    unfolding work
    work_beside = beside_by (stage_of s.progress.stage)

  -- all chunks of a stage
  pub whole_beside : (s : State A) (g : Lists A) (n : ℕ) (m : Lent A)
      → whole (λ h x. work A s g h x) n (with_record A l m) ≡ with_record A l (whole (λ h x. work A s g h x) n m)
  unfolding whole
  whole_beside s g zero m = refl
  whole_beside s g (suc n) m = ap (λ (x : Lent A). work A s g n x) (whole_beside s g n m) ∙ work_beside s g n (whole (λ h x. work A s g h x) n m)

-- so the record stays as it is
pub work-record : (A : Arith) (s : State A) (g : Lists A) (h : ℕ) (m : Lent A) → (work A s g h m).ritz_record ≡ m.ritz_record
work-record A s g h m = ap (λ (x : Lent A). x.ritz_record) (work_beside A m.ritz_record s g h m)

pub whole-record : (A : Arith) (s : State A) (g : Lists A) (n : ℕ) (m : Lent A) → (whole (λ h x. work A s g h x) n m).ritz_record ≡ m.ritz_record
whole-record A s g n m = ap (λ (x : Lent A). x.ritz_record) (whole_beside A m.ritz_record s g n m)
