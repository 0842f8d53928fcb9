-- W2, "Write run files": the seven lines of a graph with its parameters, and what is refused before them. Definitions only.
use Rattle.std.specs.Prelude.{List, [], ◌∷◌, ℕ, ltb, Float, length}
use Rattle.std.specs.Float.{binary64}
use Rattle.std.specs.Float.Ieee.{to_bits}
use Rattle.definition.specs.Arith.{ieee64}
use Rattle.definition.specs.Numbers.{Params}
use Rattle.definition.specs.Refusals.{Verdict, given, or_else, test_dims, test_graph, test_params}
use Rattle.printing.specs.Room.{test_room}
use Rattle.reading.specs.Grammar.{RunNumbers, starts_most, entries_most, rounds_most, line_count, text_up_to}

-- the bits of floats
unfoldable pub bits_of : List Float → List ℕ
bits_of [] = []
bits_of (x ∷ xs) = to_bits binary64 x ∷ bits_of xs

-- 17: over the program's sizes, with the first line that would hold them
unfoldable pub test_sizes : ℕ → ℕ → ℕ → ℕ → Verdict
test_sizes rounds starts columns values =
    or_else (given (ltb rounds_most rounds) 17 2)
    (or_else (given (ltb starts_most starts) 17 5)
    (or_else (given (ltb entries_most columns) 17 6) (given (ltb entries_most values) 17 7)))

module _ (d : ℕ) (params : Params) (starts columns : List ℕ) (values : List Float) where
  -- the numbers of the file, floats as their bits
  abbrev pub numbers_of : RunNumbers
  numbers_of = record { d = d; rounds = params.rounds; degree = params.degree; seed_std = to_bits binary64 params.seed_std; starts = starts; columns = columns; values = bits_of values }

  -- its seven lines
  unfoldable pub run_text : List ℕ
  run_text = text_up_to numbers_of line_count

  -- 1 to 10: the test of a file. Opening a run tests a request by itself (`test_request`)
  unfoldable pub test_file : Verdict
  test_file = or_else (test_dims d) (or_else (test_graph ieee64 starts columns values) (test_params params))

  -- "17 .. tested first; then 1 to 10"
  unfoldable pub test_run : Verdict
  test_run = or_else (test_sizes params.rounds (length starts) (length columns) (length values)) test_file

  -- "then 18"
  unfoldable pub test_write : List ℕ → Verdict
  test_write out = or_else test_run (test_room run_text out)
