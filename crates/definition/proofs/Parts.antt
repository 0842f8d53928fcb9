-- Laws of a part of a list, as `&mut xs[a..e]` lends it. Assumes nothing.
use mathlib.Core.Path.{◌≡◌, ◌∙◌}
use mathlib.Core.List.{List}
use Prim.Native.Nat.{ℕ, ◌+◌, ◌-◌, ◌≤◌, ◌<◌}
use native.Mathlib.Omega.{arith}
use lib.ListN.{length, get_or, take, drop, length-take, length-drop}
use lib.Seq.{get_or-take, get_or-drop}

module _ {E : Type 0} (a e : ℕ) (xs : List E) where
  pub part_length : e ≤ length xs → length (take (e - a) (drop a xs)) ≡ e - a
  part_length h = length-take (e - a) (drop a xs) ∙ omega (arith, length-drop a xs)

  -- what a part has is what the list has
  pub part_at : (i : ℕ) (d : E) → a + i < e → get_or (take (e - a) (drop a xs)) i d ≡ get_or xs (a + i) d
  part_at i d h = let l : i < e - a = omega arith in rw (get_or-take, get_or-drop)
