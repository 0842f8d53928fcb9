-- "17 names the first line that is wrong, missing, extra or over a size, or 0 for input over 32 KiB"; W1: "rounds above 400 are 17 at line 2".
-- Definitions only.
use Rattle.std.specs.Prelude.{List, [], ◌++◌, ◌≡◌, ℕ, suc, ◌≤◌, ◌<◌, length}
use Rattle.reading.specs.Grammar.{bytes_most, line_count, line_at, line_text, Right, RunNumbers, RightLines, text_up_to}

-- the bytes begin with m right lines, and go on with `rest`
pub record Begins (bytes : List ℕ) (m : ℕ) (rest : List ℕ) : Type 0 where
  pub small : length bytes ≤ bytes_most
  pub numbers : RunNumbers
  pub right : RightLines numbers m
  pub text : bytes ≡ text_up_to numbers m ++ rest

-- no right line i stands first there
abbrev pub NoLine : ℕ → List ℕ → Type 0
NoLine i rest = (vs after : List ℕ) → Right (line_at i) vs → rest ≡ line_text (line_at i) vs ++ after → ⊥

-- the line at fault, from 1: wrong, missing or over a size; extra; or 0
pub data FirstFault (bytes : List ℕ) : ℕ → Type 0 where
  wrong : (i : ℕ) (rest : List ℕ) → i < line_count → Begins bytes i rest → NoLine i rest → FirstFault bytes (suc i)
  extra : (rest : List ℕ) → Begins bytes line_count rest → (rest ≡ [] → ⊥) → FirstFault bytes (suc line_count)
  large : bytes_most < length bytes → FirstFault bytes 0
