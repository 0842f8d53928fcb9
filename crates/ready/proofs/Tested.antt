-- The tests of a state, a graph and lent memory against the facts that they stand for, both ways. Assumes nothing.
use mathlib.Core.Path.{◌≡◌, refl, sym, ap}
use mathlib.Core.Bool.{Bool, true, false, ◌||◌, false≢true}
use mathlib.Core.List.{List}
use Prim.Native.Nat.{ℕ, zero, suc, ◌+◌, ◌-◌, ◌*◌, ◌≤◌, ◌<◌}
use native.Mathlib.Omega.{arith}
use borrow.Author.Tests.{ltb-true, ltb-false, leb-true, leb-false, eqb-true, lt-ltb, le-ltb, le-leb, lt-leb, eq-eqb}
use lib.Dec.{leb, ltb}
use lib.ListN.{length, get_or}
use Rattle.definition.specs.Arith.{Arith}
use Rattle.definition.specs.Memory.{wholes_of}
use Rattle.definition.specs.Numbers.{first_row, dims_most, rows_most, entries_most, rounds_most, degree_most, lent_sizes, lent_size, lent_count}
use Rattle.definition.specs.Refusals.{given, given_first, first_from, within, passes, test_seed_std, test_lent}
use Rattle.definition.specs.Requirements.{Starts, Columns}
use Rattle.definition.specs.SpectralEmbedding.{Counts}
use Rattle.definition.proofs.Chunks.{first-most, first-up, chunk-some}
use Rattle.definition.proofs.Fill.{split}
use Rattle.definition.proofs.First.{first-all, all_first}
use Rattle.machine.specs.State.{last_stage, Asked, wide, chunk_count, order_room, Lists, Progress, State, Lent, lengths_of}
use Rattle.machine.specs.Ranges.{none_from, asked_sound, counts_sound, order_sound, bound_sound, alpha_sound, progress_sound, state_sound, lists_enough, lent_enough, start_fault, starts_sound, columns_sound}
use Rattle.machine.specs.Ready.{AskedReady, CountsReady, ProgressReady, StateReady, LentReady, ListsReady}
use Rattle.machine.proofs.Own.{both, both_of}

-- ---- tests joined, and refusals that are not given
pub neither : (a b : Bool) → (a || b) ≡ false → (a ≡ false) × (b ≡ false)
neither true b h = absurd (false≢true (sym h))
neither false b h = (refl, h)

pub neither_of : (a b : Bool) → a ≡ false → b ≡ false → (a || b) ≡ false
neither_of true b p q = absurd (false≢true (sym p))
neither_of false b p q = q

pub in_limits : (x most : ℕ) → within x most ≡ true → (1 ≤ x) × (x ≤ most)
in_limits x most h = let g = both_of (leb 1 x) (leb x most) h in (leb-true 1 x g.0, leb-true x most g.1)

pub limits_in : (x most : ℕ) → 1 ≤ x → x ≤ most → within x most ≡ true
limits_in x most p q = both (leb 1 x) (leb x most) (le-leb 1 x p) (le-leb x most q)

pub no-fault : (fault : Bool) (r p : ℕ) → (given fault (suc r) p).number ≡ 0 → fault ≡ false
no-fault true r p h = absurd (omega arith)
no-fault false r p h = refl

-- ---- a scan that finds nothing
pub none_found : (f : ℕ → Bool) (a m r : ℕ) → (given_first f a m (suc r)).number ≡ 0 → (i : ℕ) → a ≤ i → i < a + m → f i ≡ false
none_found f a m r h i p q =
    let x = first_from f a m in first-all f a m i (ltb-false x (a + m) (no-fault (ltb x (a + m)) r x h)) p q

pub found_none : (f : ℕ → Bool) (a m : ℕ) → ((i : ℕ) → a ≤ i → i < a + m → f i ≡ false) → ltb (first_from f a m) (a + m) ≡ false
found_none f a m h = le-ltb (first_from f a m) (a + m) (omega (arith, all_first f a m h))

pub none-at : (f : ℕ → Bool) (a e : ℕ) → a ≤ e → none_from f a e ≡ true → (i : ℕ) → a ≤ i → i < e → f i ≡ false
unfolding none_from
none-at f a e l h i p q = first-all f a (e - a) i (omega (arith, eqb-true (first_from f a (e - a)) e h)) p (omega arith)

pub at_none : (f : ℕ → Bool) (a e : ℕ) → a ≤ e → ((i : ℕ) → a ≤ i → i < e → f i ≡ false) → none_from f a e ≡ true
unfolding none_from
at_none f a e l h = eq-eqb (first_from f a (e - a)) e (omega (arith, all_first f a (e - a) (λ i p q. h i p (omega arith))))

-- a fact of each number below eleven
each_of_eleven : (f : ℕ → Bool) → f 0 ≡ false → f 1 ≡ false → f 2 ≡ false → f 3 ≡ false → f 4 ≡ false → f 5 ≡ false → f 6 ≡ false
    → f 7 ≡ false → f 8 ≡ false → f 9 ≡ false → f 10 ≡ false → (i : ℕ) → i < 11 → f i ≡ false
each_of_eleven f a0 a1 a2 a3 a4 a5 a6 a7 a8 a9 a10 zero l = a0
each_of_eleven f a0 a1 a2 a3 a4 a5 a6 a7 a8 a9 a10 (suc zero) l = a1
each_of_eleven f a0 a1 a2 a3 a4 a5 a6 a7 a8 a9 a10 (suc (suc zero)) l = a2
each_of_eleven f a0 a1 a2 a3 a4 a5 a6 a7 a8 a9 a10 (suc (suc (suc zero))) l = a3
each_of_eleven f a0 a1 a2 a3 a4 a5 a6 a7 a8 a9 a10 (suc (suc (suc (suc zero)))) l = a4
each_of_eleven f a0 a1 a2 a3 a4 a5 a6 a7 a8 a9 a10 (suc (suc (suc (suc (suc zero))))) l = a5
each_of_eleven f a0 a1 a2 a3 a4 a5 a6 a7 a8 a9 a10 (suc (suc (suc (suc (suc (suc zero)))))) l = a6
each_of_eleven f a0 a1 a2 a3 a4 a5 a6 a7 a8 a9 a10 (suc (suc (suc (suc (suc (suc (suc zero))))))) l = a7
each_of_eleven f a0 a1 a2 a3 a4 a5 a6 a7 a8 a9 a10 (suc (suc (suc (suc (suc (suc (suc (suc zero)))))))) l = a8
each_of_eleven f a0 a1 a2 a3 a4 a5 a6 a7 a8 a9 a10 (suc (suc (suc (suc (suc (suc (suc (suc (suc zero))))))))) l = a9
each_of_eleven f a0 a1 a2 a3 a4 a5 a6 a7 a8 a9 a10 (suc (suc (suc (suc (suc (suc (suc (suc (suc (suc zero)))))))))) l = a10
each_of_eleven f a0 a1 a2 a3 a4 a5 a6 a7 a8 a9 a10 (suc (suc (suc (suc (suc (suc (suc (suc (suc (suc (suc i))))))))))) l = absurd (omega arith)

-- ---- the starts of a chunk's rows
pub starts_ready : (a : Asked) (starts : List ℕ) (h : ℕ) → a.rows < length starts → starts_sound a starts h ≡ true → h < chunk_count a
    → Starts starts (first_row a.rows h) (first_row a.rows (h + 1)) a.entries
unfolding starts_sound
starts_ready a starts h long e l = record {
  enough = omega (arith, first-most a.rows (h + 1));
  rising = λ i p q. ltb-false (get_or starts (i + 1) 0) (get_or starts i 0) (fine i p q).0;
  within = λ i p q. split first i (λ s. later i s q) (λ s. let z : i ≡ first = omega arith in
      omega (
        arith,
        ap (λ (j : ℕ). get_or starts j 0) z,
        chunk-some a.rows h l,
        ltb-false (get_or starts (first + 1) 0) (get_or starts first 0) (fine first (omega arith) (chunk-some a.rows h l)).0,
        ltb-false a.entries (get_or starts (first + 1) 0) (fine first (omega arith) (chunk-some a.rows h l)).1,
      ));
}
  where
    first : ℕ
    first = first_row a.rows h

    fine : (i : ℕ) → first_row a.rows h ≤ i → i < first_row a.rows (h + 1)
        → (ltb (get_or starts (i + 1) 0) (get_or starts i 0) ≡ false) × (ltb a.entries (get_or starts (i + 1) 0) ≡ false)
    fine i p q =
        neither (ltb (get_or starts (i + 1) 0) (get_or starts i 0)) (ltb a.entries (get_or starts (i + 1) 0))
        (none-at (start_fault a.entries starts) (first_row a.rows h) (first_row a.rows (h + 1)) (first-up a.rows h (h + 1) (omega arith)) e i p q)

    later : (i : ℕ) → first_row a.rows h < i → i ≤ first_row a.rows (h + 1) → get_or starts i 0 ≤ a.entries
    later i p q =
        let z : i - 1 + 1 ≡ i = omega arith in
        omega (arith, ap (λ (j : ℕ). get_or starts j 0) z, ltb-false a.entries (get_or starts (i - 1 + 1) 0) (fine (i - 1) (omega arith) (omega arith)).1)

pub starts-sound : (a : Asked) (starts : List ℕ) (h : ℕ)
    → Starts starts (first_row a.rows h) (first_row a.rows (h + 1)) a.entries → starts_sound a starts h ≡ true
unfolding starts_sound
starts-sound a starts h R =
    at_none (start_fault a.entries starts) (first_row a.rows h) (first_row a.rows (h + 1)) (first-up a.rows h (h + 1) (omega arith))
    (λ i p q. neither_of (ltb (get_or starts (i + 1) 0) (get_or starts i 0)) (ltb a.entries (get_or starts (i + 1) 0))
    (le-ltb (get_or starts (i + 1) 0) (get_or starts i 0) (R.rising i p q))
    (le-ltb a.entries (get_or starts (i + 1) 0) (R.within (i + 1) (omega arith) (omega arith))))

-- ---- the columns of a chunk's entries
pub columns_ready : (a : Asked) (starts columns : List ℕ) (h : ℕ)
    → get_or starts (first_row a.rows h) 0 ≤ get_or starts (first_row a.rows (h + 1)) 0 → columns_sound a starts columns h ≡ true
    → Columns columns (get_or starts (first_row a.rows h) 0) (get_or starts (first_row a.rows (h + 1)) 0) a.rows
unfolding columns_sound
columns_ready a starts columns h l e = record {
  below = λ p from to. leb-false a.rows (get_or columns p 0)
      (none-at (λ i. leb a.rows (get_or columns i 0)) (get_or starts (first_row a.rows h) 0) (get_or starts (first_row a.rows (h + 1)) 0) l e p from to);
}

pub columns-sound : (a : Asked) (starts columns : List ℕ) (h : ℕ)
    → get_or starts (first_row a.rows h) 0 ≤ get_or starts (first_row a.rows (h + 1)) 0
    → Columns columns (get_or starts (first_row a.rows h) 0) (get_or starts (first_row a.rows (h + 1)) 0) a.rows
    → columns_sound a starts columns h ≡ true
unfolding columns_sound
columns-sound a starts columns h l R =
    at_none (λ i. leb a.rows (get_or columns i 0)) (get_or starts (first_row a.rows h) 0) (get_or starts (first_row a.rows (h + 1)) 0) l
    (λ i p q. lt-leb a.rows (get_or columns i 0) (R.below i p q))

-- ---- lent memory that passes its test is long enough, list by list
pub lent_each : (a : Asked) (lent : ℕ → ℕ) → passes (test_lent a.dims a.rounds a.rows a.entries lent) ≡ true
    → (j : ℕ) → j < lent_count → lent_size a.dims a.rounds a.rows a.entries j ≤ lent j
unfolding test_lent
lent_each a lent h j l =
    let size : ℕ → ℕ = lent_size a.dims a.rounds a.rows a.entries in
    ltb-false (lent j) (size j) (none_found (λ i. ltb (lent i) (size i)) 0 lent_count 10 (eqb-true (test_lent a.dims a.rounds a.rows a.entries lent).number 0 h) j (omega arith) (omega arith))

module _ (A : Arith) where
  -- ---- what was asked
  pub asked_ready : (a : Asked) → asked_sound a ≡ true → AskedReady a
  unfolding asked_sound
  asked_ready a h =
      let dims = both_of (within a.dims dims_most) _ h in
      let rows = both_of (within a.rows rows_most) _ dims.1 in
      let entries = both_of (leb a.entries entries_most) _ rows.1 in
      let rounds = both_of (within a.rounds rounds_most) _ entries.1 in
      let degree = both_of (within a.degree degree_most) _ rounds.1 in
      record {
        dims-least = (in_limits a.dims dims_most dims.0).0;
        dims-most = (in_limits a.dims dims_most dims.0).1;
        rows-least = (in_limits a.rows rows_most rows.0).0;
        rows-most = (in_limits a.rows rows_most rows.0).1;
        entries-most = leb-true a.entries entries_most entries.0;
        rounds-least = (in_limits a.rounds rounds_most rounds.0).0;
        rounds-most = (in_limits a.rounds rounds_most rounds.0).1;
        degree-least = (in_limits a.degree degree_most degree.0).0;
        degree-most = (in_limits a.degree degree_most degree.0).1;
      }

  pub asked-sound : (a : Asked) → AskedReady a → passes (test_seed_std a.seed_std) ≡ true → asked_sound a ≡ true
  unfolding asked_sound
  asked-sound a R std =
      both (within a.dims dims_most) _ (limits_in a.dims dims_most R.dims-least R.dims-most)
      (both (within a.rows rows_most) _ (limits_in a.rows rows_most R.rows-least R.rows-most)
      (both (leb a.entries entries_most) _ (le-leb a.entries entries_most R.entries-most)
      (both (within a.rounds rounds_most) _ (limits_in a.rounds rounds_most R.rounds-least R.rounds-most)
      (both (within a.degree degree_most) _ (limits_in a.degree degree_most R.degree-least R.degree-most) std))))

  -- ---- the counts
  pub counts_ready : (a : Asked) (t : Counts) → counts_sound a t ≡ true → CountsReady a t
  unfolding counts_sound
  counts_ready a t h =
      let passed = both_of (leb t.passes (a.rounds * (a.degree + 1))) _ h in
      let refreshed = both_of (leb t.refreshed (a.rounds * wide a)) _ passed.1 in
      let zeroed = both_of (leb t.zeroed (a.rounds * wide a)) _ refreshed.1 in
      record {
        passes = leb-true t.passes (a.rounds * (a.degree + 1)) passed.0;
        refreshed = leb-true t.refreshed (a.rounds * wide a) refreshed.0;
        zeroed = leb-true t.zeroed (a.rounds * wide a) zeroed.0;
        isolated = leb-true t.isolated a.rows zeroed.1;
      }

  pub counts-sound : (a : Asked) (t : Counts) → CountsReady a t → counts_sound a t ≡ true
  unfolding counts_sound
  counts-sound a t R =
      both (leb t.passes (a.rounds * (a.degree + 1))) _ (le-leb t.passes (a.rounds * (a.degree + 1)) R.passes)
      (both (leb t.refreshed (a.rounds * wide a)) _ (le-leb t.refreshed (a.rounds * wide a) R.refreshed)
      (both (leb t.zeroed (a.rounds * wide a)) _ (le-leb t.zeroed (a.rounds * wide a) R.zeroed)
      (le-leb t.isolated a.rows R.isolated)))

  -- ---- where the run is
  pub progress_ready : (a : Asked) (p : Progress A) → progress_sound A a p ≡ true → ProgressReady A a p
  unfolding progress_sound
  progress_ready a p h =
      let stage = both_of (leb p.stage last_stage) _ h in
      let round = both_of (ltb p.round a.rounds) _ stage.1 in
      let pass = both_of (ltb p.pass a.degree) _ round.1 in
      let column = both_of (ltb p.column (wide a)) _ pass.1 in
      let attempt = both_of (leb p.attempt 1) _ column.1 in
      let current = both_of (ltb p.current 3) _ attempt.1 in
      let previous = both_of (ltb p.previous 3) _ current.1 in
      record {
        round = ltb-true p.round a.rounds round.0;
        pass = ltb-true p.pass a.degree pass.0;
        column = ltb-true p.column (wide a) column.0;
        attempt = leb-true p.attempt 1 attempt.0;
        current = ltb-true p.current 3 current.0;
        previous = ltb-true p.previous 3 previous.0;
      }

  pub progress-sound : (a : Asked) (p : Progress A) → ProgressReady A a p → p.stage ≤ last_stage
      → bound_sound A p.bound ≡ true → alpha_sound A p.alpha ≡ true → progress_sound A a p ≡ true
  unfolding progress_sound
  progress-sound a p R stage bound alpha =
      both (leb p.stage last_stage) _ (le-leb p.stage last_stage stage)
      (both (ltb p.round a.rounds) _ (lt-ltb p.round a.rounds R.round)
      (both (ltb p.pass a.degree) _ (lt-ltb p.pass a.degree R.pass)
      (both (ltb p.column (wide a)) _ (lt-ltb p.column (wide a) R.column)
      (both (leb p.attempt 1) _ (le-leb p.attempt 1 R.attempt)
      (both (ltb p.current 3) _ (lt-ltb p.current 3 R.current)
      (both (ltb p.previous 3) _ (lt-ltb p.previous 3 R.previous)
      (both (bound_sound A p.bound) (alpha_sound A p.alpha) bound alpha)))))))

  -- ---- the Ritz places
  pub order_ready : (a : Asked) (order : List ℕ) → order_sound a order ≡ true → (j : ℕ) → j < order_room → get_or order j 0 < wide a
  unfolding order_sound
  order_ready a order h j l =
      leb-false (wide a) (get_or order j 0) (none-at (λ i. leb (wide a) (get_or order i 0)) 0 order_room (omega arith) h j (omega arith) l)

  pub order-sound : (a : Asked) (order : List ℕ) → ((j : ℕ) → j < order_room → get_or order j 0 < wide a) → order_sound a order ≡ true
  unfolding order_sound
  order-sound a order below =
      at_none (λ i. leb (wide a) (get_or order i 0)) 0 order_room (omega arith) (λ i p q. lt-leb (wide a) (get_or order i 0) (below i q))

  -- ---- the state
  pub state_ready : (s : State A) → state_sound A s ≡ true → StateReady A s
  unfolding state_sound
  state_ready s h =
      let asked = both_of (asked_sound s.asked) _ h in
      let progress = both_of (progress_sound A s.asked s.progress) _ asked.1 in
      let counts = both_of (counts_sound s.asked s.counts) _ progress.1 in
      record {
        asked = asked_ready s.asked asked.0;
        progress = progress_ready s.asked s.progress progress.0;
        counts = counts_ready s.asked s.counts counts.0;
        order = order_ready s.asked s.order counts.1;
      }

  pub state-sound : (s : State A) → StateReady A s → passes (test_seed_std s.asked.seed_std) ≡ true → s.progress.stage ≤ last_stage
      → bound_sound A s.progress.bound ≡ true → alpha_sound A s.progress.alpha ≡ true → state_sound A s ≡ true
  unfolding state_sound
  state-sound s R std stage bound alpha =
      both (asked_sound s.asked) _ (asked-sound s.asked R.asked std)
      (both (progress_sound A s.asked s.progress) _ (progress-sound s.asked s.progress R.progress stage bound alpha)
      (both (counts_sound s.asked s.counts) (order_sound s.asked s.order) (counts-sound s.asked s.counts R.counts)
      (order-sound s.asked s.order R.order)))

  -- ---- the lists
  pub lists_ready : (a : Asked) (g : Lists A) → lists_enough A a g ≡ true → ListsReady A a g
  unfolding lists_enough
  lists_ready a g h =
      let starts = both_of (ltb a.rows (length g.starts)) _ h in
      let columns = both_of (leb a.entries (length g.columns)) _ starts.1 in
      record {
        starts = ltb-true a.rows (length g.starts) starts.0;
        columns = leb-true a.entries (length g.columns) columns.0;
        values = leb-true a.entries (length g.values) columns.1;
      }

  pub lists-enough : (a : Asked) (g : Lists A) → ListsReady A a g → lists_enough A a g ≡ true
  unfolding lists_enough
  lists-enough a g R =
      both (ltb a.rows (length g.starts)) _ (lt-ltb a.rows (length g.starts) R.starts)
      (both (leb a.entries (length g.columns)) _ (le-leb a.entries (length g.columns) R.columns)
      (le-leb a.entries (length g.values) R.values))

  -- ---- the lent memory: each list as long as its size
  pub lent_ready : (a : Asked) (m : Lent A) (marks : List ℕ) → lent_enough A a m marks ≡ true → LentReady A a m × (chunk_count a ≤ length marks)
  unfolding lent_enough lent_sizes
  lent_ready a m marks h = (
    record {
      lists = record {
        inverse = long 0 (omega arith);
        v0 = long 1 (omega arith);
        edge_columns = long 2 (omega arith);
        edge_weights = long 3 (omega arith);
        block0 = long 4 (omega arith);
        block1 = long 5 (omega arith);
        block2 = long 6 (omega arith);
        partials = long 7 (omega arith);
        output = long 9 (omega arith);
      };
      ritz_record = long 10 (omega arith);
    },
    long 8 (omega arith),
  )
    where
      long : (j : ℕ) → j < lent_count → lent_size a.dims a.rounds a.rows a.entries j ≤ wholes_of (lengths_of A m marks) j
      long = lent_each a (wholes_of (lengths_of A m marks)) h

  pub lent-enough : (a : Asked) (m : Lent A) (marks : List ℕ) → LentReady A a m → chunk_count a ≤ length marks → lent_enough A a m marks ≡ true
  unfolding lent_enough test_lent lent_sizes
  lent-enough a m marks R l = ap (λ (b : Bool). passes (given b 11 (first_from short 0 lent_count))) (found_none short 0 lent_count none)
    where
      short : ℕ → Bool
      short j = ltb (wholes_of (lengths_of A m marks) j) (lent_size a.dims a.rounds a.rows a.entries j)

      none : (i : ℕ) → 0 ≤ i → i < 0 + lent_count → short i ≡ false
      none i p q =
          each_of_eleven short (le-ltb _ _ R.lists.inverse) (le-ltb _ _ R.lists.v0) (le-ltb _ _ R.lists.edge_columns) (le-ltb _ _ R.lists.edge_weights)
          (le-ltb _ _ R.lists.block0) (le-ltb _ _ R.lists.block1) (le-ltb _ _ R.lists.block2) (le-ltb _ _ R.lists.partials) (le-ltb _ _ l)
          (le-ltb _ _ R.lists.output) (le-ltb _ _ R.ritz_record) i (omega arith)
