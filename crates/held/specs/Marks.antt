-- The marks of the chunks that are done: 1, or 0. Definitions only.
use Rattle.std.specs.Prelude.{◌≡◌, List, Bool, true, false, ℕ, zero, suc, ◌+◌, ◌≤◌, ◌<◌, eqb, length, get_or}
use Rattle.definition.specs.Memory.{fill_range}

-- chunk h is marked done
unfoldable pub done : List ℕ → ℕ → Bool
done marks h = eqb (get_or marks h 0) 1

-- a test as a number: 1 where it passes
abbrev pub bit : Bool → ℕ
bit true = 1
bit false = 0

-- how many below n pass
unfoldable pub count : (ℕ → Bool) → ℕ → ℕ
count d zero = 0
count d (suc k) = bit (d k) + count d k

-- the marks with those of the first n chunks cleared
unfoldable pub cleared : ℕ → List ℕ → List ℕ
cleared n marks = fill_range 0 n (λ h. 0) marks

-- marks of n chunks that only the run has changed since `start` was lent: as long, each 0 or 1, and the places past them as they were
pub record Marked (n : ℕ) (start marks : List ℕ) : Type 0 where
  pub long : n ≤ length start
  pub same : length marks ≡ length start
  pub bits : (h : ℕ) → h < n → get_or marks h 0 < 2
  pub rest : (i : ℕ) → n ≤ i → get_or marks i 0 ≡ get_or start i 0
