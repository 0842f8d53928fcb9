-- Laws of a choice among the three blocks. Assumes nothing.
use mathlib.Core.Path.{◌≡◌, refl}
use mathlib.Core.List.{List}
use Prim.Native.Nat.{ℕ, zero, suc, ◌*◌, ◌≤◌}
use native.Mathlib.Omega.{arith}
use lib.Ieee.{Float}
use lib.ListN.{length}
use Rattle.definition.specs.Arith.{ieee64}
use Rattle.machine.specs.State.{Asked, wide, Lent, block_at}
use Rattle.blocks.specs.Chosen.{chosen, BlocksReady}

-- any number past 1 chooses the third
pub chosen-third : (b : ℕ) (block0 block1 block2 : List Float) → 2 ≤ b → block2 ≡ chosen b block0 block1 block2
unfolding chosen
chosen-third zero block0 block1 block2 p = absurd (omega arith)
chosen-third (suc zero) block0 block1 block2 p = absurd (omega arith)
chosen-third (suc (suc b)) block0 block1 block2 p = refl

-- the block chosen is the machine's
pub chosen_at : (b : ℕ) (m : Lent ieee64) → chosen b m.block0 m.block1 m.block2 ≡ block_at ieee64 b m
unfolding chosen
chosen_at zero m = refl
chosen_at (suc zero) m = refl
chosen_at (suc (suc b)) m = refl

-- it is long enough, as all are
pub chosen-enough : {a : Asked} (b : ℕ) {block0 block1 block2 v : List Float} → BlocksReady a block0 block1 block2
    → v ≡ chosen b block0 block1 block2 → a.rows * wide a ≤ length v
unfolding chosen
chosen-enough {a} b {block0} {block1} {block2} r e = rw e (go b)
  where
    go : (d : ℕ) → a.rows * wide a ≤ length (chosen d block0 block1 block2)
    go zero = r.first
    go (suc zero) = r.second
    go (suc (suc d)) = r.third
