-- W2: the second writer, of what `seedrun` prints. Definitions only.
use Rattle.std.specs.Prelude.{cond, List, ℕ, ◌+◌, ◌*◌, eqb, ltb, Float, length, get_or}
use Rattle.std.specs.Float.{nan}
use Rattle.definition.specs.Refusals.{Verdict, accepted, passes, given, or_else, test_dims}
use Rattle.definition.specs.SpectralEmbedding.{Counts}
use Rattle.printing.specs.Printed.{refusal_text, seed_text}
use Rattle.printing.specs.Room.{test_room}

-- the program's rows
abbrev pub rows_most : ℕ
rows_most = 64

-- "D by 1, n = 0 by 2, n over 64 by 17 at 0, a short seed by 11 at 9"
unfoldable pub test_seed : ℕ → ℕ → ℕ → Verdict
test_seed d n numbers =
    or_else (test_dims d)
    (or_else (given (eqb n 0) 2 0)
    (or_else (given (ltb rows_most n) 17 0) (given (ltb numbers (n * d)) 11 9)))

-- "unless it prints a refusal"
unfoldable pub test_printed : Verdict → ℕ → ℕ → ℕ → Verdict
test_printed verdict d n numbers = cond (passes verdict) (test_seed d n numbers) accepted

module _ (verdict : Verdict) (d n : ℕ) (counts : Counts) (seed : List Float) where
  -- the refusal, or the counts and the seed; row i has its d numbers from i x d on
  unfoldable pub answer_text : List ℕ
  answer_text = cond (passes verdict) (seed_text n d counts (λ i c. get_or seed (i * d + c) nan)) (refusal_text verdict.number verdict.place)

  -- "then 18"
  unfoldable pub test_answer : List ℕ → Verdict
  test_answer out = or_else (test_printed verdict d n (length seed)) (test_room answer_text out)
