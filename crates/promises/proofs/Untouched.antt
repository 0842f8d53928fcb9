-- What lies behind the sizes in use is untouched by every chunk's work. Assumes nothing.
use mathlib.Core.Path.{◌≡◌, refl, sym, ap, ◌∙◌}
use mathlib.Core.Bool.{Bool, true, false, cond}
use mathlib.Core.List.{List}
use Prim.Native.Nat.{ℕ, zero, suc, ◌+◌, ◌-◌, ◌*◌, ◌≤◌, ◌<◌}
use native.Mathlib.Nat.{mul-le-mul_right, suc-mul, mul_assoc}
use native.Mathlib.Omega.{arith}
use lib.ListN.{length, get_or}
use Rattle.definition.specs.Arith.{Arith}
use Rattle.definition.specs.Memory.{wholes_of}
use Rattle.definition.specs.Numbers.{first_row}
use Rattle.definition.specs.Requirements.{Starts}
use Rattle.definition.proofs.Chunks.{first-most}
use Rattle.held.specs.Calls.{whole, parts}
use Rattle.held.specs.Places.{fill_where}
use Rattle.held.proofs.Places.{where_out}
use Rattle.machine.specs.State.{Stage, stage_of, Asked, wide, chunk_count, Lists, State, Lent, with_inverse, with_v0, with_edge_columns, with_edge_weights, with_partials, with_output, with_record, block_at, with_block}
use Rattle.machine.specs.State as stage
use Rattle.machine.specs.Work.{own_row, own_entry, own_place, own_partial, free_block, work_by, work}
use Rattle.machine.specs.Ready.{AskedReady, StateReady}
use Rattle.machine.proofs.Own.{true-within, row-owned, place-owned}
use Rattle.ready.proofs.Widths.{one-most, own-most, dims-most}
use Rattle.promises.specs.Promises.{Untouched}

-- a test that can't pass
not-true : (b : Bool) → (b ≡ true → ⊥) → b ≡ false
not-true true h = absurd (h refl)
not-true false h = refl

row_out : (n h p : ℕ) → n ≤ p → own_row n h p ≡ false
row_out n h p l = not-true (own_row n h p) (λ t. omega (arith, (row-owned n h p t).1, first-most n (h + 1)))

place_out : (n k h p : ℕ) → n * k ≤ p → own_place n k h p ≡ false
place_out n k h p l = not-true (own_place n k h p) (λ t. omega (arith, (place-owned n k h p t).0))

entry_out : (starts : List ℕ) (n m h p : ℕ) → Starts starts 0 n m → m ≤ p → own_entry (wholes_of starts) n h p ≡ false
entry_out starts n m h p S l =
    not-true (own_entry (wholes_of starts) n h p) (λ t. omega (arith, (true-within (get_or starts (first_row n h) 0) (get_or starts (first_row n (h + 1)) 0) p t).1, S.within (first_row n (h + 1)) (omega arith) (first-most n (h + 1))))

partial_out : (k c width h p : ℕ) → width ≤ k * k → h < c → c * k * k ≤ p → own_partial k width h p ≡ false
partial_out k c width h p w l q =
    not-true (own_partial k width h p)
    (λ t. omega (arith, (true-within (h * (k * k)) (h * (k * k) + width) p t).1, mul-le-mul_right {m = suc h} {n = c} (k * k) l, suc-mul h (k * k), mul_assoc c k k))

module _ (A : Arith) (m₀ : Lent A) where
  -- ---- one list put, that is the same behind its size
  module _ (a : Asked) (m : Lent A) (T : Untouched A a m₀ m) where
    put-inverse : (l : List A.F) → ((p : ℕ) → a.rows ≤ p → get_or l p A.none ≡ get_or m.inverse p A.none) → Untouched A a m₀ (with_inverse A l m)
    put-inverse l e = record { inverse = λ p q. e p q ∙ T.inverse p q; v0 = T.v0; edge_columns = T.edge_columns; edge_weights = T.edge_weights; block0 = T.block0; block1 = T.block1; block2 = T.block2; partials = T.partials; output = T.output }

    put-v0 : (l : List A.F) → ((p : ℕ) → a.rows ≤ p → get_or l p A.none ≡ get_or m.v0 p A.none) → Untouched A a m₀ (with_v0 A l m)
    put-v0 l e = record { inverse = T.inverse; v0 = λ p q. e p q ∙ T.v0 p q; edge_columns = T.edge_columns; edge_weights = T.edge_weights; block0 = T.block0; block1 = T.block1; block2 = T.block2; partials = T.partials; output = T.output }

    put-columns : (l : List ℕ) → ((p : ℕ) → a.entries ≤ p → get_or l p 0 ≡ get_or m.edge_columns p 0) → Untouched A a m₀ (with_edge_columns A l m)
    put-columns l e = record { inverse = T.inverse; v0 = T.v0; edge_columns = λ p q. e p q ∙ T.edge_columns p q; edge_weights = T.edge_weights; block0 = T.block0; block1 = T.block1; block2 = T.block2; partials = T.partials; output = T.output }

    put-weights : (l : List A.F) → ((p : ℕ) → a.entries ≤ p → get_or l p A.none ≡ get_or m.edge_weights p A.none) → Untouched A a m₀ (with_edge_weights A l m)
    put-weights l e = record { inverse = T.inverse; v0 = T.v0; edge_columns = T.edge_columns; edge_weights = λ p q. e p q ∙ T.edge_weights p q; block0 = T.block0; block1 = T.block1; block2 = T.block2; partials = T.partials; output = T.output }

    put-partials : (l : List A.F) → ((p : ℕ) → chunk_count a * wide a * wide a ≤ p → get_or l p A.none ≡ get_or m.partials p A.none) → Untouched A a m₀ (with_partials A l m)
    put-partials l e = record { inverse = T.inverse; v0 = T.v0; edge_columns = T.edge_columns; edge_weights = T.edge_weights; block0 = T.block0; block1 = T.block1; block2 = T.block2; partials = λ p q. e p q ∙ T.partials p q; output = T.output }

    put-output : (l : List A.F) → ((p : ℕ) → a.rows * a.dims ≤ p → get_or l p A.none ≡ get_or m.output p A.none) → Untouched A a m₀ (with_output A l m)
    put-output l e = record { inverse = T.inverse; v0 = T.v0; edge_columns = T.edge_columns; edge_weights = T.edge_weights; block0 = T.block0; block1 = T.block1; block2 = T.block2; partials = T.partials; output = λ p q. e p q ∙ T.output p q }

    put-block : (b : ℕ) (l : List A.F) → ((p : ℕ) → a.rows * wide a ≤ p → get_or l p A.none ≡ get_or (block_at A b m) p A.none) → Untouched A a m₀ (with_block A b l m)
    put-block zero l e = record { inverse = T.inverse; v0 = T.v0; edge_columns = T.edge_columns; edge_weights = T.edge_weights; block0 = λ p q. e p q ∙ T.block0 p q; block1 = T.block1; block2 = T.block2; partials = T.partials; output = T.output }
    put-block (suc zero) l e = record { inverse = T.inverse; v0 = T.v0; edge_columns = T.edge_columns; edge_weights = T.edge_weights; block0 = T.block0; block1 = λ p q. e p q ∙ T.block1 p q; block2 = T.block2; partials = T.partials; output = T.output }
    put-block (suc (suc b)) l e = record { inverse = T.inverse; v0 = T.v0; edge_columns = T.edge_columns; edge_weights = T.edge_weights; block0 = T.block0; block1 = T.block1; block2 = λ p q. e p q ∙ T.block2 p q; partials = T.partials; output = T.output }

    -- the Ritz record is beside all that
    pub put_record : (l : List A.F) → Untouched A a m₀ (with_record A l m)
    put_record l = record { inverse = T.inverse; v0 = T.v0; edge_columns = T.edge_columns; edge_weights = T.edge_weights; block0 = T.block0; block1 = T.block1; block2 = T.block2; partials = T.partials; output = T.output }

    -- ---- the kinds of work
    on-block : (b h : ℕ) (f : ℕ → A.F) → Untouched A a m₀ (with_block A b (fill_where (own_place a.rows (wide a) h) f (block_at A b m)) m)
    on-block b h f = put-block b _ (λ p q. where_out (own_place a.rows (wide a) h) f (block_at A b m) p A.none (place_out a.rows (wide a) h p q))

    on-output : (h : ℕ) (f : ℕ → A.F) → Untouched A a m₀ (with_output A (fill_where (own_place a.rows a.dims h) f m.output) m)
    on-output h f = put-output _ (λ p q. where_out (own_place a.rows a.dims h) f m.output p A.none (place_out a.rows a.dims h p q))

    on-partials : (width h : ℕ) (f : ℕ → A.F) → width ≤ wide a * wide a → h < chunk_count a → Untouched A a m₀ (with_partials A (fill_where (own_partial (wide a) width h) f m.partials) m)
    on-partials width h f w l = put-partials _ (λ p q. where_out (own_partial (wide a) width h) f m.partials p A.none (partial_out (wide a) (chunk_count a) width h p w l q))

  -- ---- every stage
  module _ (s : State A) (g : Lists A) (r : StateReady A s) (S : Starts g.starts 0 s.asked.rows s.asked.entries) where
    abbrev a : Asked
    a = s.asked

    untouched-by : (st : Stage) (h : ℕ) (m : Lent A) → h < chunk_count a → Untouched A a m₀ m → Untouched A a m₀ (work_by A st s g h m)
    untouched-by stage.empty h m l T = T
    untouched-by stage.degrees h m l T =
        put-v0 a _ (put-inverse a m T _ (λ p q. where_out (own_row a.rows h) _ m.inverse p A.none (row_out a.rows h p q))) _
        (λ p q. where_out (own_row a.rows h) _ m.v0 p A.none (row_out a.rows h p q))
    untouched-by stage.edges h m l T =
        put-weights a _ (put-columns a m T _ (λ p q. where_out (own_entry (wholes_of g.starts) a.rows h) _ m.edge_columns p 0 (entry_out g.starts a.rows a.entries h p S q))) _
        (λ p q. where_out (own_entry (wholes_of g.starts) a.rows h) _ m.edge_weights p A.none (entry_out g.starts a.rows a.entries h p S q))
    untouched-by stage.v0 h m l T = put-v0 a m T _ (λ p q. where_out (own_row a.rows h) _ m.v0 p A.none (row_out a.rows h p q))
    untouched-by stage.start_block h m l T = on-block a m T 0 h _
    untouched-by stage.filter_pass h m l T = on-block a m T (free_block s.progress.current s.progress.previous) h _
    untouched-by stage.norm_before h m l T = on-partials a m T 1 h _ (one-most r) l
    untouched-by stage.first_dots h m l T = on-partials a m T (s.progress.column + 1) h _ (own-most r) l
    untouched-by stage.first_subtract h m l T = on-block a m T s.progress.current h _
    untouched-by stage.second_dots h m l T = on-partials a m T (s.progress.column + 1) h _ (own-most r) l
    untouched-by stage.second_subtract h m l T = on-block a m T s.progress.current h _
    untouched-by stage.norm_after h m l T = on-partials a m T 1 h _ (one-most r) l
    untouched-by stage.write h m l T = on-block a m T s.progress.current h _
    untouched-by stage.plain_pass h m l T = on-block a m T (free_block s.progress.current s.progress.current) h _
    untouched-by stage.products h m l T = on-partials a m T (wide a * wide a) h _ (omega arith) l
    untouched-by stage.rotate h m l T = on-output a m T h _
    untouched-by stage.sums h m l T = on-partials a m T a.dims h _ (dims-most r) l
    untouched-by stage.centre h m l T = on-output a m T h _
    untouched-by stage.squares h m l T = on-partials a m T a.dims h _ (dims-most r) l
    untouched-by stage.scale h m l T = on-output a m T h _
    untouched-by stage.ended h m l T = T

    pub work-untouched : (h : ℕ) (m : Lent A) → h < chunk_count a → Untouched A a m₀ m → Untouched A a m₀ (work A s g h m)
    unfolding work
    work-untouched h m l T = untouched-by (stage_of s.progress.stage) h m l T

-- ---- all chunks, or some
module _ {M : Type 0} (op : ℕ → M → M) (P : M → Type 0) where
  pub whole_below : (n : ℕ) → ((h : ℕ) (m : M) → h < n → P m → P (op h m)) → (m : M) → P m → P (whole op n m)
  unfolding whole
  whole_below zero e m p = p
  whole_below (suc n) e m p = e n (whole op n m) (omega arith) (whole_below n (λ h x l q. e h x (omega arith) q) m p)

  pub parts_below : (d : ℕ → Bool) (n : ℕ) → ((h : ℕ) (m : M) → h < n → P m → P (op h m)) → (m : M) → P m → P (parts op d n m)
  unfolding parts
  parts_below d zero e m p = p
  parts_below d (suc n) e m p = go (d n) (parts_below d n (λ h x l q. e h x (omega arith) q) m p)
    where
      go : (b : Bool) → P (parts op d n m) → P (cond b (op n (parts op d n m)) (parts op d n m))
      go true q = e n (parts op d n m) (omega arith) q
      go false q = q
