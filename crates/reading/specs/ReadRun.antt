-- What the reader of a run file finds, on any bytes, and the record that it answers. Definitions only; proofs.Runs shows it sound and complete.
use Rattle.std.specs.Prelude.{true, false, cond, List, [], ◌∷◌, ◌++◌, ℕ, ◌-◌, eqb, ltb, Float, length, get_or, replicate}
use Rattle.std.specs.Float.{binary64}
use Rattle.std.specs.Float.Ieee.{of_bits}
use Rattle.reading.specs.Grammar.{RunNumbers, bytes_most, starts_most, entries_most, d_line, rounds_line, degree_line, seed_std_line, starts_line, columns_line, values_line}
use Rattle.reading.specs.ReadLine.{Found, found, none, line_from}
use Rattle.reading.specs.declared.RunFile.{RunFile}

-- a run file, or the line at fault
pub data Read : Type 0 where
  run : RunNumbers → Read
  fault : ℕ → Read

-- go on with the numbers of a line and the place behind it, or stop with its line, from 1
abbrev pub on_line : Found → ℕ → (List ℕ → ℕ → Read) → Read
on_line (found vs next) line go = go vs next
on_line none line go = fault line

-- the only number of a line
abbrev pub one : List ℕ → ℕ
one vs = get_or vs 0 0

-- lines 5 to 7, and nothing behind them
unfoldable pub read_lists : List ℕ → ℕ → ℕ → ℕ → ℕ → ℕ → Read
read_lists bytes d rounds degree seed_std at =
    on_line (line_from starts_line bytes at) 5
    (λ starts at5. on_line (line_from columns_line bytes at5) 6
    (λ columns at6. on_line (line_from values_line bytes at6) 7
    (λ values at7. cond (eqb at7 (length bytes))
    (run (record { d = d; rounds = rounds; degree = degree; seed_std = seed_std; starts = starts; columns = columns; values = values }))
    (fault 8))))

-- lines 1 to 4
unfoldable pub read_lines : List ℕ → Read
read_lines bytes =
    on_line (line_from d_line bytes 0) 1
    (λ d at1. on_line (line_from rounds_line bytes at1) 2
    (λ rounds at2. on_line (line_from degree_line bytes at2) 3
    (λ degree at3. on_line (line_from seed_std_line bytes at3) 4
    (λ seed_std at4. read_lists bytes (one d) (one rounds) (one degree) (one seed_std) at4))))

unfoldable pub read_run : List ℕ → Read
read_run bytes = cond (ltb bytes_most (length bytes)) (fault 0) (read_lines bytes)

-- ---- the record: zeros behind the numbers of each list, and all zeros with a fault
abbrev pub padded : ℕ → List ℕ → List ℕ
padded m vs = vs ++ replicate (m - length vs) 0

-- floats of their bits
unfoldable pub floats_of : List ℕ → List Float
floats_of [] = []
floats_of (v ∷ vs) = of_bits binary64 v ∷ floats_of vs

unfoldable pub record_of : Read → RunFile
record_of (run f) = record {
  is_right = true;
  line = 0;
  d = f.d;
  rounds = f.rounds;
  degree = f.degree;
  seed_std = of_bits binary64 f.seed_std;
  start_count = length f.starts;
  column_count = length f.columns;
  value_count = length f.values;
  starts = padded starts_most f.starts;
  columns = padded entries_most f.columns;
  values = floats_of (padded entries_most f.values);
}
record_of (fault k) = record {
  is_right = false;
  line = k;
  d = 0;
  rounds = 0;
  degree = 0;
  seed_std = of_bits binary64 0;
  start_count = 0;
  column_count = 0;
  value_count = 0;
  starts = padded starts_most [];
  columns = padded entries_most [];
  values = floats_of (padded entries_most []);
}
