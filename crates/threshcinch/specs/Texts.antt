-- A run file that was read, as a host is told it. Definitions only.
use Rattle.std.specs.Prelude.{Bool, true, false, ℕ}
use Rattle.input.specs.declared.Verdict.{Verdict}
use Rattle.reading.specs.declared.RunFile.{RunFile}
use Rattle.threshcinch.specs.declared.texts.RunRead.{RunRead}

-- 17 with the line at fault, or no refusal
abbrev pub text_verdict : Bool → ℕ → Verdict
text_verdict true line = record { number = 0; place = 0 }
text_verdict false line = record { number = 17; place = line }

-- a verdict, and the numbers of the reader's record, which with a fault is all zeros
abbrev pub told_with : Verdict → RunFile → RunRead
told_with verdict file = record {
  verdict = verdict;
  d = file.d;
  params = record { rounds = file.rounds; degree = file.degree; seed_std = file.seed_std };
  start_count = file.start_count;
  column_count = file.column_count;
  value_count = file.value_count;
  starts = file.starts;
  columns = file.columns;
  values = file.values;
}

abbrev pub run_told : RunFile → RunRead
run_told file = told_with (text_verdict file.is_right file.line) file
