-- Lines 5 to 7 in arrays: what the code stores and answers is the record of what is read. Assumes nothing.
use mathlib.Core.Path.{◌≡◌, refl, sym, ap, subst, ◌∙◌}
use mathlib.Core.Bool.{Bool, true, cond}
use mathlib.Core.List.{List, []}
use Prim.Native.Nat.{ℕ, ◌-◌, ◌≤◌, ◌<◌}
use native.Mathlib.Omega.{arith}
use borrow.Author.Tests.{eq-eqb, ne_eqb}
use lib.Dec.{eqb}
use lib.Ieee.{Float, of_bits, binary64}
use lib.ListN.{length, get_or}
use Rattle.reading.specs.Grammar.{RunNumbers, starts_most, entries_most, largest32, starts_line, columns_line, values_line, line_at}
use Rattle.reading.specs.ReadLine.{found, none, line_from}
use Rattle.reading.specs.ReadRun.{run, fault, read_lists, padded, floats_of, record_of}
use Rattle.reading.specs.Parts.{read_entries, Inside}
use Rattle.reading.specs.declared.RunFile.{RunFile}
use Rattle.reading.proofs.Lines.{line-sound}
use Rattle.reading.proofs.Rest.{rest-lists, rest-found, rest-none, rest_end, line-inside, fair}
use Rattle.reading.proofs.Arrays.{Taken, padded-below}

abbrev run_of : ℕ → ℕ → ℕ → ℕ → List ℕ → List ℕ → List ℕ → RunNumbers
run_of d rounds degree seed_std starts columns values =
    record { d = d; rounds = rounds; degree = degree; seed_std = seed_std; starts = starts; columns = columns; values = values }

-- ---- line 5
module _ (bytes : List ℕ) (d rounds degree seed_std at : ℕ) where
  pub starts-wrong : line_from starts_line bytes at ≡ none → read_lists bytes d rounds degree seed_std at ≡ fault 5
  starts-wrong e = let f = run_of d rounds degree seed_std [] [] [] in rest-lists bytes f at ∙ rest-none bytes f 4 (omega arith) at e

  pub starts-right : (starts : List ℕ) (next : ℕ) → line_from starts_line bytes at ≡ found starts next
      → read_lists bytes d rounds degree seed_std at ≡ read_entries bytes d rounds degree seed_std starts next
  starts-right starts next e =
      let f = run_of d rounds degree seed_std starts [] [] in
      rest-lists bytes f at ∙ rest-found bytes f 4 (omega arith) at starts next e refl

-- ---- lines 6 and 7, and the end
module _ (bytes : List ℕ) (d rounds degree seed_std : ℕ) (starts : List ℕ) (at : ℕ) where
  pub columns-wrong : line_from columns_line bytes at ≡ none → read_entries bytes d rounds degree seed_std starts at ≡ fault 6
  columns-wrong e = rest-none bytes (run_of d rounds degree seed_std starts [] []) 5 (omega arith) at e

  module _ (columns : List ℕ) (at6 : ℕ) (e6 : line_from columns_line bytes at ≡ found columns at6) where
    pub values-wrong : line_from values_line bytes at6 ≡ none → read_entries bytes d rounds degree seed_std starts at ≡ fault 7
    values-wrong e =
        let f = run_of d rounds degree seed_std starts columns [] in
        rest-found bytes f 5 (omega arith) at columns at6 e6 refl ∙ rest-none bytes f 6 (omega arith) at6 e

    module _ (values : List ℕ) (at7 : ℕ) (e7 : line_from values_line bytes at6 ≡ found values at7) where
      whole : read_entries bytes d rounds degree seed_std starts at
          ≡ cond (eqb at7 (length bytes)) (run (run_of d rounds degree seed_std starts columns values)) (fault 8)
      whole =
          let f = run_of d rounds degree seed_std starts columns values in
          rest-found bytes f 5 (omega arith) at columns at6 e6 refl ∙ rest-found bytes f 6 (omega arith) at6 values at7 e7 refl
          ∙ rest_end bytes f at7

      pub end_wrong : (at7 ≡ length bytes → ⊥) → read_entries bytes d rounds degree seed_std starts at ≡ fault 8
      end_wrong h =
          whole ∙ ap (λ (t : Bool). cond t (run (run_of d rounds degree seed_std starts columns values)) (fault 8)) (ne_eqb at7 (length bytes) h)

      pub end_right : at7 ≡ length bytes
          → read_entries bytes d rounds degree seed_std starts at ≡ run (run_of d rounds degree seed_std starts columns values)
      end_right h =
          whole ∙ ap (λ (t : Bool). cond t (run (run_of d rounds degree seed_std starts columns values)) (fault 8)) (eq-eqb at7 (length bytes) h)

-- ---- the record of a run file
pub right-record : (f : RunNumbers) (start_count column_count value_count : ℕ) (starts columns : List ℕ) (seed_std : Float) (values : List Float)
    → seed_std ≡ of_bits binary64 f.seed_std → start_count ≡ length f.starts → column_count ≡ length f.columns → value_count ≡ length f.values
    → starts ≡ padded starts_most f.starts → columns ≡ padded entries_most f.columns → values ≡ floats_of (padded entries_most f.values)
    → ◌≡◌ {A = RunFile} (record {
      is_right = true;
      line = 0;
      d = f.d;
      rounds = f.rounds;
      degree = f.degree;
      seed_std = seed_std;
      start_count = start_count;
      column_count = column_count;
      value_count = value_count;
      starts = starts;
      columns = columns;
      values = values;
    }) (record_of (run f))
unfolding record_of
right-record f start_count column_count value_count starts columns seed_std values a b c d e g h = rw (a, b, c, d, e, g, h)

-- ---- the columns are small, and the places are inside
pub columns-below : (bytes : List ℕ) (at count next : ℕ) (columns : List ℕ) → Taken (line_from columns_line bytes at) entries_most count next columns
    → (i : ℕ) → get_or columns i 0 ≤ largest32
columns-below bytes at count next columns t i =
    let s = (line-sound columns_line bytes (fair 5 (omega arith)) at t.numbers next t.is).right in
    subst (λ (l : List ℕ). get_or l i 0 ≤ largest32) (sym t.stored)
    (padded-below largest32 (entries_most - length t.numbers) t.numbers s.largest i)

pub inside-next : (i : ℕ) → i < 7 → (bytes : List ℕ) (at m count next : ℕ) (after : List ℕ) → Inside bytes at
    → Taken (line_from (line_at i) bytes at) m count next after → Inside bytes next
inside-next i h bytes at m count next after s t = record { small = s.small; inside = line-inside i h bytes at t.numbers next t.is }
