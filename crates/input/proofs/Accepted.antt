-- A request that passes the tests is valid. Assumes nothing.
use mathlib.Core.Path.{◌≡◌, refl, sym, ap, ◌∙◌}
use mathlib.Core.Bool.{Bool, true, false, cond, not, ◌&&◌, ◌||◌, false≢true}
use mathlib.Core.List.{List}
use Prim.Native.Nat.{ℕ, zero, suc, ◌+◌, ◌-◌, ◌≤◌, ◌<◌}
use native.Mathlib.Nat.{le_trans}
use native.Mathlib.Omega.{arith}
use borrow.Author.Tests.{ltb-false, leb-true, leb-false, eqb-true, not-false}
use lib.Dec.{eqb, leb, ltb}
use lib.Ieee.{lt, of_bits, binary64}
use lib.ListN.{length, get_or}
use Rattle.definition.specs.Arith.{Arith, is_finite}
use Rattle.definition.specs.Numbers.{Params, dims_most, rows_most, entries_most, rounds_most, degree_most, lent_size, lent_count}
use Rattle.definition.specs.Refusals.{Verdict, given, given_first, first_from, within, falls, or_else, test_dims, test_rows, test_limits, test_lengths, test_starts, test_columns, test_values, test_rounds, test_degree, test_seed_std, test_lent, test_params, test_graph, test_request}
use Rattle.input.specs.Valid.{ValidParams, ValidGraph, ValidRequest}
use Rattle.definition.proofs.First.{first-all}

-- ---- a test that passes, and two tests that pass
pub no-fault : (fault : Bool) (r p : ℕ) → (given fault (suc r) p).number ≡ 0 → fault ≡ false
no-fault true r p h = absurd (omega arith)
no-fault false r p h = refl

none_first : (f : ℕ → Bool) (a m r : ℕ) → (given_first f a m (suc r)).number ≡ 0 → (i : ℕ) → a ≤ i → i < a + m → f i ≡ false
none_first f a m r h i p q =
    let x = first_from f a m in first-all f a m i (ltb-false x (a + m) (no-fault (ltb x (a + m)) r x h)) p q

pub both_pass : (t w : Verdict) → (or_else t w).number ≡ 0 → (t.number ≡ 0) × (w.number ≡ 0)
unfolding or_else
both_pass t w h = go (eqb t.number 0) refl h
  where
    go : (b : Bool) → eqb t.number 0 ≡ b → (cond b w t).number ≡ 0 → (t.number ≡ 0) × (w.number ≡ 0)
    go true e g = (eqb-true t.number 0 e, g)
    go false e g = absurd (false≢true (sym e ∙ ap (λ (n : ℕ). eqb n 0) g))

both_true : (a b : Bool) → (a && b) ≡ true → (a ≡ true) × (b ≡ true)
both_true true b h = (refl, h)
both_true false b h = absurd (false≢true h)

both_false : (a b : Bool) → (a || b) ≡ false → (a ≡ false) × (b ≡ false)
both_false true b h = absurd (false≢true (sym h))
both_false false b h = (refl, h)

no_denial : (b : Bool) (r p : ℕ) → (given (not b) (suc r) p).number ≡ 0 → b ≡ true
no_denial b r p h = not-false b (no-fault (not b) r p h)

in_limits : (x most r : ℕ) → (given (not (within x most)) (suc r) 0).number ≡ 0 → (1 ≤ x) × (x ≤ most)
in_limits x most r h =
    let g = both_true (leb 1 x) (leb x most) (no_denial (within x most) r 0 h) in (leb-true 1 x g.0, leb-true x most g.1)

-- ---- the parameters
pub params_valid : (p : Params) → (test_params p).number ≡ 0 → ValidParams p
unfolding test_params test_rounds test_degree test_seed_std
params_valid p h =
    let g = both_pass _ _ h in
    let s = both_pass _ _ g.1 in
    let rounds = in_limits p.rounds rounds_most 7 g.0 in
    let degree = in_limits p.degree degree_most 8 s.0 in
    let std = both_true (lt (of_bits binary64 0) p.seed_std) (is_finite p.seed_std) (no_denial _ 9 0 s.1) in
    record {
      rounds-least = rounds.0;
      rounds-most = rounds.1;
      degree-least = degree.0;
      degree-most = degree.1;
      positive = std.0;
      finite = std.1;
    }

-- ---- the starts: each no more than the next, so none above the last
module _ (starts : List ℕ) (n : ℕ) where
  below_last : ((i : ℕ) → i < n → get_or starts i 0 ≤ get_or starts (i + 1) 0) → (k i : ℕ) → i + k ≡ n → get_or starts i 0 ≤ get_or starts n 0
  below_last up zero i e = let s : i ≡ n = omega arith in omega (arith, ap (λ (j : ℕ). get_or starts j 0) s)
  below_last up (suc k) i e = le_trans (up i (omega arith)) (below_last up k (i + 1) (omega arith))

  no_fall : (given_first (falls starts) 1 n 5).number ≡ 0 → (i : ℕ) → i < n → get_or starts i 0 ≤ get_or starts (i + 1) 0
  no_fall h i q =
      let s : i + 1 - 1 ≡ i = omega arith in
      omega (arith, ap (λ (j : ℕ). get_or starts j 0) s, ltb-false (get_or starts (i + 1) 0) (get_or starts (i + 1 - 1) 0) (none_first (falls starts) 1 n 4 h (i + 1) (omega arith) (omega arith)))

-- ---- the graph
module _ (A : Arith) (starts columns : List ℕ) (values : List A.F) where
  pub graph_valid : (test_graph A starts columns values).number ≡ 0 → ValidGraph A starts columns values
  unfolding test_graph test_rows test_limits test_lengths test_starts test_columns test_values
  graph_valid h =
      let n = length starts - 1 in
      let rows = both_pass _ _ h in
      let limits = both_pass _ _ rows.1 in
      let lengths = both_pass _ _ limits.1 in
      let risings = both_pass _ _ lengths.1 in
      let entries = both_pass _ _ risings.1 in
      let zeros = both_pass _ _ risings.0 in
      let falling = both_pass _ _ zeros.1 in
      let some : 2 ≤ length starts = ltb-false (length starts) 2 (no-fault _ 1 0 rows.0) in
      let most = both_false (ltb rows_most n) (ltb entries_most (length columns)) (no-fault _ 2 0 limits.0) in
      let last : get_or starts n 0 ≡ length columns = eqb-true (get_or starts n 0) (length columns) (no_denial _ 4 n falling.1) in
      record {
        rows-least = omega arith;
        rows-most = ltb-false rows_most n most.0;
        entries-most = ltb-false entries_most (length columns) most.1;
        lengths = eqb-true (length columns) (length values) (no_denial _ 3 0 lengths.0);
        first = eqb-true (get_or starts 0 0) 0 (no_denial _ 4 0 zeros.0);
        last = last;
        rising = record {
          enough = omega arith;
          rising = λ i p q. no_fall starts n falling.0 i q;
          within = λ i p q. omega (arith, last, below_last starts n (no_fall starts n falling.0) (n - i) i (omega arith));
        };
        below = record {
          below = λ e p q. leb-false n (get_or columns e 0) (none_first (λ j. leb n (get_or columns j 0)) 0 (length columns) 5 entries.0 e p (omega arith));
        };
        finite = λ e q. not-false (A.finite (get_or values e A.none)) (none_first (λ j. not (A.finite (get_or values j A.none))) 0 (length values) 6 entries.1 e (omega arith) (omega arith));
      }

  -- ---- the request
  pub request_valid : (d : ℕ) (p : Params) (lent : ℕ → ℕ) → (test_request A d p starts columns values lent).number ≡ 0 → ValidRequest A d p starts columns values lent
  unfolding test_request test_dims test_lent
  request_valid d p lent h =
      let first = both_pass _ _ h in
      let second = both_pass _ _ first.1 in
      let third = both_pass _ _ second.1 in
      let dims = in_limits d dims_most 0 first.0 in
      let size = lent_size d p.rounds (length starts - 1) (length columns) in
      record {
        dims-least = dims.0;
        dims-most = dims.1;
        graph = graph_valid second.0;
        params = params_valid p third.0;
        enough = λ j q. ltb-false (lent j) (size j) (none_first (λ i. ltb (lent i) (size i)) 0 lent_count 10 third.1 j (omega arith) (omega arith));
      }

-- D alone
pub dims_valid : (d : ℕ) → (test_dims d).number ≡ 0 → (1 ≤ d) × (d ≤ dims_most)
unfolding test_dims
dims_valid d h = in_limits d dims_most 0 h
