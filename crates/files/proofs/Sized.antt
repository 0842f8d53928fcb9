-- What passes 17 is within the program's sizes, and the other way round; what passes 1 to 10 is valid. Assumes nothing.
use mathlib.Core.Path.{◌≡◌, refl, sym, ap, ◌∙◌}
use mathlib.Core.Bool.{Bool}
use mathlib.Core.List.{List}
use Prim.Native.Nat.{ℕ, ◌≤◌}
use borrow.Author.Tests.{ltb-false, le-ltb}
use lib.Dec.{ltb}
use lib.Ieee.{Float}
use lib.ListN.{length}
use Rattle.definition.specs.Arith.{ieee64}
use Rattle.definition.specs.Numbers.{Params, dims_most}
use Rattle.definition.specs.Refusals.{Verdict, given, or_else}
use Rattle.input.specs.Valid.{ValidGraph, ValidParams}
use Rattle.input.proofs.Accepted.{no-fault, both_pass, dims_valid, graph_valid, params_valid}
use Rattle.input.proofs.Verdicts.{goes_on_lem}
use Rattle.reading.specs.Grammar.{rounds_most, starts_most, entries_most}
use Rattle.files.specs.RunText.{test_sizes, test_file, test_run}

-- the rounds and the lengths of the three lists
pub record Sized (rounds starts columns values : ℕ) : Type 0 where
  pub rounds-most : rounds ≤ rounds_most
  pub starts-most : starts ≤ starts_most
  pub columns-most : columns ≤ entries_most
  pub values-most : values ≤ entries_most

-- one size that is not over its limit, and back
not-over : (most x place : ℕ) → (given (ltb most x) 17 place).number ≡ 0 → x ≤ most
not-over most x place h = ltb-false most x (no-fault (ltb most x) 16 place h)

taken : (most x place : ℕ) → x ≤ most → (given (ltb most x) 17 place).number ≡ 0
taken most x place h = ap (λ (b : Bool). (given b 17 place).number) (le-ltb most x h)

-- two tests that pass, one after the other
pub pass_both : (t w : Verdict) → t.number ≡ 0 → w.number ≡ 0 → (or_else t w).number ≡ 0
pass_both t w g h = sym (ap (λ (v : Verdict). v.number) (goes_on_lem refl g refl)) ∙ h

module _ (rounds starts columns values : ℕ) where
  pub sizes_pass : (test_sizes rounds starts columns values).number ≡ 0 → Sized rounds starts columns values
  unfolding test_sizes
  sizes_pass h =
      let first = both_pass _ _ h in
      let second = both_pass _ _ first.1 in
      let third = both_pass _ _ second.1 in
      record {
        rounds-most = not-over rounds_most rounds 2 first.0;
        starts-most = not-over starts_most starts 5 second.0;
        columns-most = not-over entries_most columns 6 third.0;
        values-most = not-over entries_most values 7 third.1;
      }

  pub pass_sizes : Sized rounds starts columns values → (test_sizes rounds starts columns values).number ≡ 0
  unfolding test_sizes
  pass_sizes s =
      pass_both _ _ (taken rounds_most rounds 2 s.rounds-most)
      (pass_both _ _ (taken starts_most starts 5 s.starts-most)
      (pass_both _ _ (taken entries_most columns 6 s.columns-most) (taken entries_most values 7 s.values-most)))

module _ (d : ℕ) (params : Params) (starts columns : List ℕ) (values : List Float)
    (passed : (test_run d params starts columns values).number ≡ 0) where
  -- what passes all tests is within the sizes
  pub sized : Sized params.rounds (length starts) (length columns) (length values)
  unfolding test_run
  sized = sizes_pass _ _ _ _ (both_pass _ _ passed).0

  -- and passes 1 to 10
  pub file_passed : (test_file d params starts columns values).number ≡ 0
  unfolding test_run
  file_passed = (both_pass _ _ passed).1

-- what 1 to 10 say
module _ (d : ℕ) (params : Params) (starts columns : List ℕ) (values : List Float)
    (passed : (test_file d params starts columns values).number ≡ 0) where
  pub dims_of : (1 ≤ d) × (d ≤ dims_most)
  unfolding test_file
  dims_of = dims_valid d (both_pass _ _ passed).0

  pub graph_of_lem : ValidGraph ieee64 starts columns values
  unfolding test_file
  graph_of_lem = graph_valid ieee64 starts columns values (both_pass _ _ (both_pass _ _ passed).1).0

  pub params_of : ValidParams params
  unfolding test_file
  params_of = params_valid params (both_pass _ _ (both_pass _ _ passed).1).1
