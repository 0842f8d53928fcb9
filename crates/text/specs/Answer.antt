-- "The text program": the whole output for the whole input. Definitions only.
use Rattle.std.specs.Prelude.{cond, Option, Some, None, List, ℕ, leb, length, take}
use Rattle.std.specs.Float.{binary64}
use Rattle.std.specs.Float.Ieee.{of_bits}
use Rattle.definition.specs.Numbers.{Params}
use Rattle.digits.specs.Placed.{put}
use Rattle.printing.specs.Printed.{refusal_text, room}
use Rattle.reading.specs.Grammar.{RunNumbers}
use Rattle.reading.specs.ReadRun.{Read, run, fault, read_run, floats_of}
use Rattle.reading.specs.declared.RunFile.{RunFile}
use Rattle.text.specs.Small.{answer_of}

abbrev pub params_in : RunNumbers → Params
params_in f = record { rounds = f.rounds; degree = f.degree; seed_std = of_bits binary64 f.seed_std }

-- the answer for the numbers that a record of the reader holds
abbrev pub answer_held : RunFile → List ℕ
answer_held r =
    answer_of r.d (record { rounds = r.rounds; degree = r.degree; seed_std = r.seed_std }) (take r.start_count r.starts) (take r.column_count r.columns)
    (take r.value_count r.values)

-- 17 comes before all others
abbrev pub answer_for : Read → List ℕ
answer_for (run f) = answer_of f.d (params_in f) f.starts f.columns (floats_of f.values)
answer_for (fault line) = refusal_text 17 line

unfoldable pub answer_text : List ℕ → List ℕ
answer_text bytes = answer_for (read_run bytes)

-- ---- what `answer` answers and leaves: the text, where there is room for every text
unfoldable pub answered : List ℕ → List ℕ → Option ℕ
answered bytes out = cond (leb room (length out)) (Some (length (answer_text bytes))) None

unfoldable pub placed : List ℕ → List ℕ → List ℕ
placed bytes out = cond (leb room (length out)) (put (answer_text bytes) 0 out) out

unfoldable pub answered_length : List ℕ → List ℕ → ℕ
answered_length bytes out = cond (leb room (length out)) (length (answer_text bytes)) 0
