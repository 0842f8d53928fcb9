-- What is promised of files that were written and of files that are written again. Definitions only; the theorems stand in proofs/RoundTrip.
use Rattle.std.specs.Prelude.{true, List, ◌≡◌, ℕ, ◌≤◌, ◌<◌, T, Float, length, get_or, take}
use Rattle.std.specs.Float.{binary64, nan}
use Rattle.std.specs.Float.Ieee.{fits}
use Rattle.definition.specs.Numbers.{Params}
use Rattle.definition.specs.Refusals.{Verdict, accepted}
use Rattle.printing.specs.Room.{Leaves}
use Rattle.reading.specs.Grammar.{bytes_most}
use Rattle.reading.specs.ReadRun.{read_run, record_of}
use Rattle.reading.specs.declared.RunFile.{RunFile}
use Rattle.files.specs.RunText.{run_text, test_file, test_run, test_write}

module _ (d : ℕ) (params : Params) (starts columns : List ℕ) (values : List Float) where
  -- a record of the reader has this graph and these parameters, each float the same
  pub record Holds (file : RunFile) : Type 0 where
    pub is_right : file.is_right ≡ true
    pub dims : file.d ≡ d
    pub rounds : file.rounds ≡ params.rounds
    pub degree : file.degree ≡ params.degree
    pub seed_std_lem : file.seed_std ≡ params.seed_std
    pub starts_are : take file.start_count file.starts ≡ starts
    pub columns_are : take file.column_count file.columns ≡ columns
    pub values_are : take file.value_count file.values ≡ values

  -- each float is one of binary64, as every f64 of the code is
  pub record Doubles : Type 0 where
    pub seed_std_fits : T (fits binary64 params.seed_std)
    pub values_fit : (e : ℕ) → e < length values → T (fits binary64 (get_or values e nan))

  -- No limit is hidden: what passes 17 and 1 to 10 has a text that is no longer than a run file may be
  abbrev pub TextFits : Type 0
  TextFits = (test_run d params starts columns values).number ≡ 0 → length (run_text d params starts columns values) ≤ bytes_most

  module _ (out : List ℕ) (verdict : Verdict) (count : ℕ) (after : List ℕ) where
    -- the writer was asked for this graph
    abbrev pub Writes : Type 0
    Writes = Leaves (test_write d params starts columns values out) (run_text d params starts columns values) out verdict count after

    -- "Reading a written file gives the same graph and parameters bit for bit"
    abbrev pub WrittenIsRead : Type 0
    WrittenIsRead = Doubles → Writes → verdict.number ≡ 0 → Holds (record_of (read_run (take count after)))

    -- "writing an accepted file again gives its own bytes", wherever they fit
    abbrev pub ReadIsWritten : List ℕ → Type 0
    ReadIsWritten bytes =
        Holds (record_of (read_run bytes)) → (test_file d params starts columns values).number ≡ 0 → length bytes ≤ length out → Writes
        → (verdict ≡ accepted) × (count ≡ length bytes) × (take count after ≡ bytes)
