-- What reading a Matrix Market file answers and leaves, refusals in their order, and what a host is told before it takes memory. Definitions only.
use Rattle.std.specs.Prelude.{cond, ◌||◌, List, [], ◌∷◌, ℕ, ◌+◌, ◌*◌, min, eqb, ltb, Float, length, get_or}
use Rattle.definition.specs.Numbers.{rows_most, entries_most}
use Rattle.definition.specs.Refusals.{Verdict, accepted, refused, given, or_else, given_first, passes}
use Rattle.market.specs.Market.{Read, market, fault, Head, sized, wrong}
use Rattle.market.specs.Graph.{placed_of, with_starts, with_columns, with_values}

-- 2 for no rows, 3 for n or the entries over their limit
abbrev pub test_limits : ℕ → ℕ → Verdict
test_limits n m = or_else (given (eqb n 0) 2 0) (given (ltb rows_most n || ltb entries_most m) 3 0)

-- 11 with the first list that is too short for n rows and m entries as placed
abbrev pub test_room : ℕ → ℕ → ℕ → ℕ → ℕ → Verdict
test_room n m starts columns values = given_first (λ j. ltb (get_or (starts ∷ columns ∷ values ∷ []) j 0) (get_or ((n + 1) ∷ m ∷ m ∷ []) j 0)) 0 3 11

-- ---- reading

pub record Outcome : Type 0 where
  pub verdict : Verdict
  pub rows : ℕ
  pub entries : ℕ
  pub starts : List ℕ
  pub columns : List ℕ
  pub values : List Float

abbrev pub outcome : Verdict → ℕ → ℕ → List ℕ → List ℕ → List Float → Outcome
outcome v n m starts columns values = record { verdict = v; rows = n; entries = m; starts = starts; columns = columns; values = values }

-- "19 with the first line at fault", then 2, 3 and 11; "the lists of a refused call are as they were"
unfoldable pub test_read : Read → ℕ → ℕ → ℕ → Verdict
test_read (fault k) starts columns values = refused 19 k
test_read (market n es) starts columns values = or_else (test_limits n (placed_of n es)) (test_room n (placed_of n es) starts columns values)

unfoldable pub outcome_by : Verdict → Read → List ℕ → List ℕ → List Float → Outcome
outcome_by v (fault k) starts columns values = outcome v 0 0 starts columns values
outcome_by v (market n es) starts columns values =
    cond (passes v)
    (outcome v n (placed_of n es) (with_starts n es starts) (with_columns n es columns) (with_values n es values))
    (outcome v 0 0 starts columns values)

abbrev pub outcome_of : Read → List ℕ → List ℕ → List Float → Outcome
outcome_of r starts columns values = outcome_by (test_read r (length starts) (length columns) (length values)) r starts columns values

-- ---- sizes

pub record Room : Type 0 where
  pub verdict : Verdict
  pub starts : ℕ
  pub entries : ℕ

abbrev pub room : Verdict → ℕ → ℕ → Room
room v starts entries = record { verdict = v; starts = starts; entries = entries }

-- "n + 1 and room that suffices (twice the entries, no more than the limit), or 19 for those lines, 2 and 3"
unfoldable pub room_for : ℕ → ℕ → Room
room_for n m = cond (passes (test_limits n m)) (room accepted (n + 1) (min (2 * m) entries_most)) (room (test_limits n m) 0 0)

unfoldable pub room_of : Head → Room
room_of (wrong k) = room (refused 19 k) 0 0
room_of (sized n m k ks) = room_for n m
