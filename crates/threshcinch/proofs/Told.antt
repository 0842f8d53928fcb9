-- What the sizes are, with a refusal and with none, and that none overflows then. Assumes nothing.
use mathlib.Core.Path.{◌≡◌, sym, ap, ◌∙◌}
use mathlib.Core.Bool.{Bool, true, false, cond, not, ◌||◌, false≢true}
use Prim.Native.Nat.{ℕ}
use borrow.Author.Tests.{leb-true, ltb-false, not-false, ne_eqb}
use lib.Dec.{leb, ltb}
use lib.ListN.{replicate}
use Rattle.std.specs.Prelude.{Result, Ok, Err, is_err}
use Rattle.definition.specs.Numbers.{rows_most, entries_most, rounds_most, lent_sizes, lent_count}
use Rattle.definition.specs.Refusals.{Verdict, within, test_rounds}
use Rattle.input.specs.declared.refusal.Refusal.{Refusal}
use Rattle.input.specs.Said.{refusal_of, verdict_in, Allowed}
use Rattle.input.proofs.Accepted.{no-fault, both_pass, dims_valid}
use Rattle.input.proofs.Verdicts.{numbered}
use Rattle.machine.proofs.Own.{both_of}
use Rattle.ready.proofs.Tested.{neither}
use Rattle.threshcinch.specs.Said.{test_sizes, sizes_by}

module _ (d rounds n m : ℕ) where
  -- r is the answer that the code's test gave
  pub no_sizes : (r : Result Unit Refusal) → is_err r ≡ true → verdict_in r ≡ test_sizes d rounds n m
      → sizes_by (test_sizes d rounds n m) d rounds n m ≡ replicate lent_count 0
  unfolding sizes_by
  no_sizes (Ok x) h e = absurd (false≢true h)
  no_sizes (Err q) h e =
      ap (λ (v : Verdict). sizes_by v d rounds n m) (sym e)
      ∙ ap (λ (b : Bool). cond b (lent_sizes d rounds n m) (replicate lent_count 0)) (ne_eqb (refusal_of q).number 0 (numbered q))

  pub all_sizes : (r : Result Unit Refusal) → is_err r ≡ false → verdict_in r ≡ test_sizes d rounds n m
      → sizes_by (test_sizes d rounds n m) d rounds n m ≡ lent_sizes d rounds n m
  unfolding sizes_by
  all_sizes (Ok x) h e = ap (λ (v : Verdict). sizes_by v d rounds n m) (sym e)
  all_sizes (Err q) h e = absurd (false≢true (sym h))

  pub allowed : (test_sizes d rounds n m).number ≡ 0 → Allowed d rounds n m
  unfolding test_sizes test_rounds
  allowed h =
      let dims = both_pass _ _ h in
      let rows = both_pass _ _ dims.1 in
      let over = both_pass _ _ rows.1 in
      let limits = neither (ltb rows_most n) (ltb entries_most m) (no-fault (ltb rows_most n || ltb entries_most m) 2 0 over.0) in
      let few : within rounds rounds_most ≡ true = not-false (within rounds rounds_most) (no-fault (not (within rounds rounds_most)) 7 0 over.1) in
      record {
        dims = (dims_valid d dims.0).1;
        rounds-few = leb-true rounds rounds_most (both_of (leb 1 rounds) (leb rounds rounds_most) few).1;
        rows = ltb-false rows_most n limits.0;
        entries = ltb-false entries_most m limits.1;
      }
