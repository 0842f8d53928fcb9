-- What the writers leave and answer, for any text. Definitions only.
use Rattle.std.specs.Prelude.{Bool, cond, Option, Some, None, List, ◌++◌, ◌≡◌, ℕ, ◌+◌, leb, length, take, drop}

-- `out` with the text from `at` on
abbrev pub put : List ℕ → ℕ → List ℕ → List ℕ
put text at out = take at out ++ (text ++ drop (at + length text) out)

-- whether the text fits there
abbrev pub fits_at : List ℕ → ℕ → List ℕ → Bool
fits_at text at out = leb (at + length text) (length out)

-- the bytes after writing
unfoldable pub placed : List ℕ → ℕ → List ℕ → List ℕ
placed text at out = cond (fits_at text at out) (put text at out) out

-- the answer
unfoldable pub written : List ℕ → ℕ → List ℕ → Option ℕ
written text at out = cond (fits_at text at out) (Some (at + length text)) None

-- what a writer promises: its answer, and every byte
pub record Writes (text : List ℕ) (at : ℕ) (out : List ℕ) (answer : Option ℕ) (after : List ℕ) : Type 0 where
  pub answered : answer ≡ written text at out
  pub bytes : after ≡ placed text at out
