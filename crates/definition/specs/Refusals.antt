-- Refusals 1 to 11 in document 01's order, each with its place, and what the setters answer. Definitions only.
use Rattle.std.specs.Prelude.{Bool, true, false, cond, not, ◌&&◌, ◌||◌, List, ℕ, zero, suc, ◌+◌, ◌-◌, eqb, leb, ltb, length, get_or, Float}
use Rattle.std.specs.Float.Ieee.{lt, of_bits}
use Rattle.std.specs.Float.{binary64}
use Rattle.definition.specs.Arith.{Arith, is_finite}
use Rattle.definition.specs.Numbers.{Params, dims_most, rows_most, entries_most, rounds_most, degree_most, lent_size, lent_count}

-- a refusal's number and its place; number 0 is no refusal
pub record Verdict : Type 0 where
  pub number : ℕ
  pub place : ℕ

abbrev pub accepted : Verdict
accepted = record { number = 0; place = 0 }

abbrev pub refused : ℕ → ℕ → Verdict
refused r p = record { number = r; place = p }

-- refusal r at place p where the fault is there
abbrev pub given : Bool → ℕ → ℕ → Verdict
given fault r p = cond fault (refused r p) accepted

-- the first test that refuses
unfoldable pub or_else : Verdict → Verdict → Verdict
or_else v w = cond (eqb v.number 0) w v

-- the first of the m places from a on at which f is true, and a + m where there is none
unfoldable pub first_from : (ℕ → Bool) → ℕ → ℕ → ℕ
first_from f a zero = a
first_from f a (suc m) = cond (f a) a (first_from f (suc a) m)

-- refusal r at the first of the m places from a on at which f is true
abbrev pub given_first : (ℕ → Bool) → ℕ → ℕ → ℕ → Verdict
given_first f a m r = given (ltb (first_from f a m) (a + m)) r (first_from f a m)

-- a number from 1 to a limit
abbrev pub within : ℕ → ℕ → Bool
within x most = leb 1 x && leb x most

-- 1: D not 1 to 7
unfoldable pub test_dims : ℕ → Verdict
test_dims d = given (not (within d dims_most)) 1 0

-- 2: fewer than two row starts
unfoldable pub test_rows : List ℕ → Verdict
test_rows starts = given (ltb (length starts) 2) 2 0

-- 3: n or the columns over their limit
unfoldable pub test_limits : List ℕ → List ℕ → Verdict
test_limits starts columns = given (ltb rows_most (length starts - 1) || ltb entries_most (length columns)) 3 0

-- 4: columns and values differ in length
unfoldable pub test_lengths : ℕ → ℕ → Verdict
test_lengths columns values = given (not (eqb columns values)) 4 0

-- 5: first start not 0; else the first start below the one before; else last start not the column count
abbrev pub falls : List ℕ → ℕ → Bool
falls starts i = ltb (get_or starts i 0) (get_or starts (i - 1) 0)

unfoldable pub test_starts : List ℕ → List ℕ → Verdict
test_starts starts columns =
    or_else (given (not (eqb (get_or starts 0 0) 0)) 5 0)
    (or_else (given_first (falls starts) 1 (length starts - 1) 5)
    (given (not (eqb (get_or starts (length starts - 1) 0) (length columns))) 5 (length starts - 1)))

-- 6: a column not below n, at the first such entry
unfoldable pub test_columns : ℕ → List ℕ → Verdict
test_columns n columns = given_first (λ e. leb n (get_or columns e 0)) 0 (length columns) 6

-- 7: a value NaN or infinite, at the first such entry
unfoldable pub test_values : (A : Arith) → List A.F → Verdict
test_values A values = given_first (λ e. not (A.finite (get_or values e A.none))) 0 (length values) 7

-- 8, 9, 10: rounds, degree out of limits; seed_std not positive and finite
unfoldable pub test_rounds : ℕ → Verdict
test_rounds rounds = given (not (within rounds rounds_most)) 8 0

unfoldable pub test_degree : ℕ → Verdict
test_degree degree = given (not (within degree degree_most)) 9 0

unfoldable pub test_seed_std : Float → Verdict
test_seed_std seed_std = given (not (lt (of_bits binary64 0) seed_std && is_finite seed_std)) 10 0

-- 11: lent memory too short, at the first short one; lent j is the length of lent memory j
unfoldable pub test_lent : ℕ → ℕ → ℕ → ℕ → (ℕ → ℕ) → Verdict
test_lent d rounds n m lent = given_first (λ j. ltb (lent j) (lent_size d rounds n m j)) 0 lent_count 11

-- the parameters' tests, 8 to 10
unfoldable pub test_params : Params → Verdict
test_params p = or_else (test_rounds p.rounds) (or_else (test_degree p.degree) (test_seed_std p.seed_std))

-- the graph's tests, 2 to 7
unfoldable pub test_graph : (A : Arith) → List ℕ → List ℕ → List A.F → Verdict
test_graph A starts columns values =
    or_else (test_rows starts)
    (or_else (test_limits starts columns)
    (or_else (test_lengths (length columns) (length values))
    (or_else (test_starts starts columns)
    (or_else (test_columns (length starts - 1) columns) (test_values A values)))))

-- what opening and the one call test
unfoldable pub test_request : (A : Arith) → ℕ → Params → List ℕ → List ℕ → List A.F → (ℕ → ℕ) → Verdict
test_request A d p starts columns values lent =
    or_else (test_dims d)
    (or_else (test_graph A starts columns values)
    (or_else (test_params p) (test_lent d p.rounds (length starts - 1) (length columns) lent)))

-- the setters: the new parameters, or 8, 9 or 10 with the old ones
abbrev pub passes : Verdict → Bool
passes v = eqb v.number 0

unfoldable pub set_rounds : Params → ℕ → Params
set_rounds p r = cond (passes (test_rounds r)) (record { rounds = r; degree = p.degree; seed_std = p.seed_std }) p

unfoldable pub set_degree : Params → ℕ → Params
set_degree p d = cond (passes (test_degree d)) (record { rounds = p.rounds; degree = d; seed_std = p.seed_std }) p

unfoldable pub set_seed_std : Params → Float → Params
set_seed_std p s = cond (passes (test_seed_std s)) (record { rounds = p.rounds; degree = p.degree; seed_std = s }) p
