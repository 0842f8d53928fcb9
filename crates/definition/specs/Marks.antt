-- What the marks of chunks say. Definitions only.
use Rattle.std.specs.Prelude.{Bool, List, ℕ, eqb, ltb, get_or}
use Rattle.definition.specs.Refusals.{first_from}

-- chunk h is not done
abbrev pub undone : List ℕ → ℕ → Bool
undone marks h = eqb (get_or marks h 0) 0

-- mark h is neither 0 nor 1
abbrev pub unsound : List ℕ → ℕ → Bool
unsound marks h = ltb 1 (get_or marks h 0)

-- each of the first c marks is 0 or 1: the first that is not is none of them
unfoldable pub sound : List ℕ → ℕ → Bool
sound marks c = eqb (first_from (unsound marks) 0 c) c
