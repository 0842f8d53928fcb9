-- W2: "Lent text that is too short is refused and stays": what a writer of a whole text answers and leaves. Definitions only.
use Rattle.std.specs.Prelude.{cond, List, ◌≡◌, ℕ, ltb, length, Result, Ok, Err}
use Rattle.definition.specs.Refusals.{Verdict, accepted, given, passes}
use Rattle.digits.specs.Placed.{put}
use Rattle.input.specs.declared.refusal.Refusal.{Refusal}
use Rattle.input.specs.Said.{refusal_of}

-- 18: text room too small, at 0
unfoldable pub test_room : List ℕ → List ℕ → Verdict
test_room text out = given (ltb (length out) (length text)) 18 0

-- where the verdict is no refusal the text stands from the first byte on and what is behind it stays; else there is no length, and all stays
unfoldable pub length_by : Verdict → List ℕ → ℕ
length_by v text = cond (passes v) (length text) 0

unfoldable pub bytes_by : Verdict → List ℕ → List ℕ → List ℕ
bytes_by v text out = cond (passes v) (put text 0 out) out

-- what a writer answers: its verdict, and how many bytes it wrote, 0 with a refusal
abbrev pub judged_in : Result ℕ Refusal → Verdict
judged_in (Ok n) = accepted
judged_in (Err r) = refusal_of r

abbrev pub length_in : Result ℕ Refusal → ℕ
length_in (Ok n) = n
length_in (Err r) = 0

pub record Leaves (v : Verdict) (text out : List ℕ) (verdict : Verdict) (count : ℕ) (after : List ℕ) : Type 0 where
  pub judged : verdict ≡ v
  pub counted : count ≡ length_by v text
  pub bytes : after ≡ bytes_by v text out
