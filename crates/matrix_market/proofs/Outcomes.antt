-- The outcome of reading, way by way. Assumes nothing.
use mathlib.Core.List.{List}
use mathlib.Core.Path.{◌≡◌, refl, sym}
use Prim.Native.Nat.{ℕ}
use borrow.Author.Tests.{ne_eqb}
use lib.Ieee.{Float}
use lib.ListN.{length}
use Rattle.std.specs.Prelude.{Result, IsErrAnd}
use Rattle.definition.specs.Refusals.{Verdict, accepted, refused}
use Rattle.input.specs.declared.refusal.Refusal.{Refusal}
use Rattle.input.specs.Said.{refusal_of}
use Rattle.input.proofs.Verdicts.{refuses, numbered, exits, goes_past}
use Rattle.market.specs.Market.{Entry, market, fault}
use Rattle.market.specs.Graph.{placed_of}
use Rattle.matrix_market.specs.Outcome.{test_limits, test_room, outcome, test_read, outcome_by, outcome_of}
use Rattle.matrix_market.specs.Said.{outcome_in, Placed}
use Rattle.matrix_market.specs.declared.Size.{Size}

pub out_fault : (k : ℕ) (starts columns : List ℕ) (values : List Float) → outcome (refused 19 k) 0 0 starts columns values ≡ outcome_of (fault k) starts columns values
unfolding test_read outcome_by
out_fault k starts columns values = refl

module _ (n m : ℕ) (es : List Entry) (starts columns : List ℕ) (values : List Float) (placed : placed_of n es ≡ m) where
  -- what a refusal leaves
  refused-by : (d : Refusal) → test_read (market n es) (length starts) (length columns) (length values) ≡ refusal_of d
      → outcome (refusal_of d) 0 0 starts columns values ≡ outcome_of (market n es) starts columns values
  unfolding outcome_by
  refused-by d p = rw (p, ne_eqb (refusal_of d).number 0 (numbered d)) refl

  pub out_limits : (r : Result Size Refusal) (d : Refusal) → IsErrAnd r (λ e. e ≡ d) → refusal_of d ≡ test_limits n m
      → outcome_in r starts columns values ≡ outcome_of (market n es) starts columns values
  unfolding test_read
  out_limits r d h is =
      rw (exits r d h)
      (refused-by d (sym (refuses {t = test_limits n (placed_of n es)} (rw placed is) _ (numbered d))))

  -- what the limits leave to the room
  module _ (limits : accepted ≡ test_limits n m) where
    read_room : {v : Verdict} → v ≡ test_room n m (length starts) (length columns) (length values)
        → test_read (market n es) (length starts) (length columns) (length values) ≡ v
    unfolding test_read
    read_room told = sym (goes_past {t = test_limits n (placed_of n es)} (rw placed limits) (rw placed told))

    pub out_room : (r : Result Size Refusal) (d : Refusal) → IsErrAnd r (λ e. e ≡ d)
        → refusal_of d ≡ test_room n m (length starts) (length columns) (length values)
        → outcome_in r starts columns values ≡ outcome_of (market n es) starts columns values
    out_room r d h told = rw (exits r d h) (refused-by d (read_room told))

    pub out_placed : accepted ≡ test_room n m (length starts) (length columns) (length values) → (starts' columns' : List ℕ) (values' : List Float)
        → Placed n es starts columns values starts' columns' values'
        → outcome accepted n m starts' columns' values' ≡ outcome_of (market n es) starts columns values
    unfolding outcome_by
    out_placed told starts' columns' values' q =
        rw (read_room told, q.starts_are, q.columns_are, q.values_are, ← placed) refl
