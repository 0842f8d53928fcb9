-- The chunks of each stage can be done in any order, and keep every list's length. Assumes nothing.
use mathlib.Core.Path.{◌≡◌, refl, sym, ap, ap₂, ◌∙◌}
use mathlib.Core.Bool.{Bool, true, false}
use mathlib.Core.List.{List}
use Prim.Native.Nat.{ℕ, zero, suc, ◌+◌, ◌-◌, ◌*◌, ◌≤◌, ◌<◌}
use native.Mathlib.Nat.{mul-le-mul_right, suc-mul}
use native.Mathlib.Omega.{arith}
use lib.ListN.{length, get_or, take}
use Rattle.definition.specs.Arith.{Arith}
use Rattle.definition.specs.ChebyshevRayleighRitz as ritz
use Rattle.definition.specs.ChebyshevRayleighRitz.{plain_multipliers, rotated}
use Rattle.definition.specs.ChunkedColumnReduce.{Block, partial_sum, square}
use Rattle.definition.specs.MatvecCombine.{Multipliers, matvec_combine}
use Rattle.definition.specs.Memory.{place, row_at, column_at, vector_of, wholes_of, block_of, number_at}
use Rattle.definition.specs.Numbers.{first_row}
use Rattle.definition.specs.OrthonormalizeBlock.{dot_term, subtracted, written}
use Rattle.definition.specs.Requirements.{Starts}
use Rattle.definition.specs.SpectralEmbedding.{degree_root, inverse_weight, edge_column, edge_weight, v0_of, unscaled, centred, scaled}
use Rattle.definition.proofs.Chunks.{first-most, first-up}
use Rattle.definition.proofs.Fill.{split}
use Rattle.definition.proofs.Rows.{starts-up}
use Rattle.held.proofs.Ops.{thence}
use Rattle.held.proofs.Lens.{Lens, Beside, fill_op, Local, Disjoint, fill_beside}
use Rattle.machine.specs.State.{Stage, stage_of, Asked, wide, chunk_count, Lists, Progress, State, Lent, block_at, with_block}
use Rattle.machine.specs.State as stage
use Rattle.machine.specs.Work.{own_row, own_entry, own_place, own_partial, free_block, operator_in, filter_multipliers, ending_in, held_block, held_output, column_in, value_in, row_in, pass_work, work_by, work}
use Rattle.machine.specs.Ready.{AskedReady, ProgressReady, StateReady, LentReady}
use Rattle.machine.proofs.Own.{true-within, own-row-once, own-place-once, place-owned}
use Rattle.ready.proofs.Widths.{one-most, own-most, dims-most}
use Rattle.promises.proofs.RowPlaces.{row_of_place, column_of_place, row_same}
use Rattle.promises.proofs.RowLocal.{RowLocal, subtracted_local, written_local, centred_local, scaled_local}
use Rattle.promises.proofs.Lenses.{inverse_l, v0_l, edge_columns_l, edge_weights_l, partials_l, output_l, block_l, block_get_put, block_else, partials-block, output-block, free_current, free_previous, still_inverse, still_v0, still_columns, still_weights, still_partials, still_output, still_block, Acts, acts_fill, acts_two, acts_idle}

-- ---- no place has two owners
pub own_partial_once : (k width h j p : ℕ) → width ≤ k * k → own_partial k width h p ≡ true → own_partial k width j p ≡ true → h ≡ j
own_partial_once k width h j p w a b =
    let x = true-within (h * (k * k)) (h * (k * k) + width) p a in
    let y = true-within (j * (k * k)) (j * (k * k) + width) p b in
    split h j
    (λ s. absurd (omega (arith, x.1, y.0, mul-le-mul_right {m = suc h} {n = j} (k * k) s, suc-mul h (k * k))))
    (λ s. split j h
    (λ t. absurd (omega (arith, y.1, x.0, mul-le-mul_right {m = suc j} {n = h} (k * k) t, suc-mul j (k * k))))
    (λ t. omega arith))

pub own_entry_once : (starts : List ℕ) (n m h j p : ℕ) → Starts starts 0 n m → own_entry (wholes_of starts) n h p ≡ true → own_entry (wholes_of starts) n j p ≡ true → h ≡ j
own_entry_once starts n m h j p S a b =
    let x = true-within (get_or starts (first_row n h) 0) (get_or starts (first_row n (h + 1)) 0) p a in
    let y = true-within (get_or starts (first_row n j) 0) (get_or starts (first_row n (j + 1)) 0) p b in
    split h j
    (λ s. absurd (omega (arith, x.1, y.0, starts-up starts 0 n m S (first_row n (h + 1)) (first_row n j) (omega arith) (first-up n (h + 1) j (omega arith)) (first-most n j))))
    (λ s. split j h
    (λ t. absurd (omega (arith, y.1, x.0, starts-up starts 0 n m S (first_row n (j + 1)) (first_row n h) (omega arith) (first-up n (j + 1) h (omega arith)) (first-most n h))))
    (λ t. omega arith))

module _ (A : Arith) where
  -- ---- what is done in place, row by row, is local
  abbrev pub place_val : ℕ → ℕ → Lens (Lent A) A.F → (Block A → Block A) → ℕ → Lent A → ℕ → A.F
  place_val n k L f h m p = number_at n k (f (block_of A.none n k (L.get m))) p

  pub in_place : (n k : ℕ) (some : 0 < k) (L : Lens (Lent A) A.F) (f : Lent A → Block A → Block A) → ((m : Lent A) → RowLocal A k (f m)) → ((l : List A.F) (m : Lent A) → f (L.put l m) ≡ f m)
      → Local L (own_place n k) A.none (λ h m. place_val n k L (f m) h m)
  unfolding number_at
  in_place n k some L f loc same h l m e s i o lt =
      ap₂ (λ (w : List A.F) (u : Block A → Block A). u (block_of A.none n k w) (row_at n k i) (column_at n k i)) (L.get_put l m) (same l m)
      ∙ loc m (block_of A.none n k l) (block_of A.none n k (L.get m)) (row_at n k i)
      (λ c q. row_same n k some A.none h l (L.get m) s (row_at n k i) c (place-owned n k h i o).1 q) (column_at n k i) (column_of_place n k some i)

  -- a pass reads no block that it writes
  pub pass_local : (a : Asked) (g : Lists A) (by : Multipliers A) (c q : ℕ) → c < 3 → q < 3
      → Local (block_l A (free_block c q)) (own_place a.rows (wide a)) A.none (λ h m. number_at a.rows (wide a) (matvec_combine A (operator_in A g m) by (held_block A a c m) (held_block A a q m)))
  pass_local a g by c q lc lq h l m e t i o lt =
      block_else A (λ inverse v0 columns weights partials output. number_at a.rows (wide a)
      (matvec_combine A (record { start = wholes_of g.starts; column = λ r e. wholes_of columns e; weight = λ r e. vector_of A.none weights e; inverse = vector_of A.none inverse })
      by (held_block A a c (with_block A (free_block c q) l m)) (held_block A a q (with_block A (free_block c q) l m))) i) (free_block c q) l m
      ∙ ap₂ (λ (v w : List A.F). number_at a.rows (wide a) (matvec_combine A (operator_in A g m) by (block_of A.none a.rows (wide a) v) (block_of A.none a.rows (wide a) w)) i)
      (free_current A c q l m lc lq) (free_previous A c q l m lc lq)

  module _ (s : State A) (g : Lists A) (r : StateReady A s) (S : Starts g.starts 0 s.asked.rows s.asked.entries) where
    abbrev a : Asked
    a = s.asked

    abbrev p : Progress A
    p = s.progress

    abbrev n : ℕ
    n = s.asked.rows

    abbrev k : ℕ
    k = wide s.asked

    some : 0 < k
    some = omega arith

    -- ---- one law for each kind of list
    rows_act : (L : Lens (Lent A) A.F) (val : ℕ → Lent A → ℕ → A.F)
        → ((l : List A.F) (m : Lent A) → length l ≡ length (L.get m) → LentReady A a m → LentReady A a (L.put l m))
        → Local L (own_row n) A.none val → Acts A a (fill_op L (own_row n) A.none val)
    rows_act L val still loc = acts_fill A a L (own_row n) A.none val still (λ h j q. own-row-once n h j q) loc

    block_act : (b : ℕ) (val : ℕ → Lent A → ℕ → A.F) → Local (block_l A b) (own_place n k) A.none val → Acts A a (fill_op (block_l A b) (own_place n k) A.none val)
    block_act b val loc = acts_fill A a (block_l A b) (own_place n k) A.none val (still_block A a b) (λ h j q. own-place-once n k h j q) loc

    output_act : (val : ℕ → Lent A → ℕ → A.F) → Local (output_l A) (own_place n a.dims) A.none val → Acts A a (fill_op (output_l A) (own_place n a.dims) A.none val)
    output_act val loc = acts_fill A a (output_l A) (own_place n a.dims) A.none val (still_output A a) (λ h j q. own-place-once n a.dims h j q) loc

    partials_act : (width : ℕ) (val : ℕ → Lent A → ℕ → A.F) → width ≤ k * k → Local (partials_l A) (own_partial k width) A.none val
        → Acts A a (fill_op (partials_l A) (own_partial k width) A.none val)
    partials_act width val w loc = acts_fill A a (partials_l A) (own_partial k width) A.none val (still_partials A a) (λ h j q. own_partial_once k width h j q w) loc

    pass_act : (by : Multipliers A) (c q : ℕ) → c < 3 → q < 3 → Acts A a (λ h m. pass_work A a by c q g h m)
    unfolding fill_op
    pass_act by c q lc lq =
        block_act (free_block c q) (λ h m. number_at n k (matvec_combine A (operator_in A g m) by (held_block A a c m) (held_block A a q m))) (pass_local a g by c q lc lq)

    -- the delta taken from the column; v0 lies beside the blocks
    subtract_act : Acts A a (λ h m. work_by A stage.first_subtract s g h m)
    unfolding fill_op
    subtract_act =
        block_act p.current (λ h m. place_val n k (block_l A p.current) (λ v. subtracted A (vector_of A.none s.totals) (vector_of A.none m.v0) v p.column) h m)
        (in_place n k some (block_l A p.current) (λ m v. subtracted A (vector_of A.none s.totals) (vector_of A.none m.v0) v p.column)
        (λ m. subtracted_local A k (vector_of A.none s.totals) (vector_of A.none m.v0) p.column r.progress.column)
        (λ l m. block_else A (λ inverse v0 columns weights partials output v. subtracted A (vector_of A.none s.totals) (vector_of A.none v0) v p.column) p.current l m))

    norm_act : Acts A a (λ h m. work_by A stage.norm_before s g h m)
    unfolding fill_op
    norm_act =
        partials_act 1 (λ h m q. partial_sum A n (λ i. square A (held_block A a p.current m i p.column)) h) (one-most r)
        (λ h l m e t i o lt. ap (λ (v : List A.F). partial_sum A n (λ r. square A (block_of A.none n k v r p.column)) h) (partials-block A p.current l m))

    dots_act : Acts A a (λ h m. work_by A stage.first_dots s g h m)
    unfolding fill_op
    dots_act =
        partials_act (p.column + 1) (λ h m q. partial_sum A n (dot_term A (vector_of A.none m.v0) (held_block A a p.current m) p.column (q - h * (k * k))) h) (own-most r)
        (λ h l m e t i o lt. ap (λ (v : List A.F). partial_sum A n (dot_term A (vector_of A.none m.v0) (block_of A.none n k v) p.column (i - h * (k * k))) h) (partials-block A p.current l m))

    pub acts_by : (st : Stage) → Acts A a (λ h m. work_by A st s g h m)
    unfolding fill_op
    acts_by stage.empty = acts_idle A a
    acts_by stage.degrees =
        acts_two A a (fill_op (inverse_l A) (own_row n) A.none (λ h m. inverse_weight A (wholes_of g.starts) (vector_of A.none g.values)))
        (fill_op (v0_l A) (own_row n) A.none (λ h m. degree_root A (wholes_of g.starts) (vector_of A.none g.values)))
        (rows_act (inverse_l A) (λ h m. inverse_weight A (wholes_of g.starts) (vector_of A.none g.values)) (still_inverse A a) (λ h l m e t i o lt. refl))
        (rows_act (v0_l A) (λ h m. degree_root A (wholes_of g.starts) (vector_of A.none g.values)) (still_v0 A a) (λ h l m e t i o lt. refl))
        (fill_beside (inverse_l A) (own_row n) A.none (v0_l A) (own_row n) A.none (record { puts = λ k l m. refl; first = λ l m. refl; second = λ k m. refl })
        (λ h m. inverse_weight A (wholes_of g.starts) (vector_of A.none g.values)) (λ h m. degree_root A (wholes_of g.starts) (vector_of A.none g.values))
        (λ h l m i. refl) (λ h l m i. refl))
    acts_by stage.edges =
        acts_two A a (fill_op (edge_columns_l A) (own_entry (wholes_of g.starts) n) 0 column_val) (fill_op (edge_weights_l A) (own_entry (wholes_of g.starts) n) A.none weight_val)
        (acts_fill A a (edge_columns_l A) (own_entry (wholes_of g.starts) n) 0 column_val (still_columns A a) (λ h j q. own_entry_once g.starts n a.entries h j q S) (λ h l m e t i o lt. refl))
        (acts_fill A a (edge_weights_l A) (own_entry (wholes_of g.starts) n) A.none weight_val (still_weights A a) (λ h j q. own_entry_once g.starts n a.entries h j q S) (λ h l m e t i o lt. refl))
        (fill_beside (edge_columns_l A) (own_entry (wholes_of g.starts) n) 0 (edge_weights_l A) (own_entry (wholes_of g.starts) n) A.none
        (record { puts = λ k l m. refl; first = λ l m. refl; second = λ k m. refl }) column_val weight_val (λ h l m i. refl) (λ h l m i. refl))
      where
        column_val : ℕ → Lent A → ℕ → ℕ
        column_val h m q = edge_column (wholes_of g.starts) (column_in A a g) (row_in A a g h q) q

        weight_val : ℕ → Lent A → ℕ → A.F
        weight_val h m q = edge_weight A (wholes_of g.starts) (column_in A a g) (value_in A a g) (vector_of A.none m.inverse) (row_in A a g h q) q
    acts_by stage.v0 = rows_act (v0_l A) (λ h m i. v0_of A p.norm (vector_of A.none m.v0 i)) (still_v0 A a) (λ h l m e t i o lt. ap (v0_of A p.norm) (t i o))
    acts_by stage.start_block = block_act 0 (λ h m. number_at n k (ritz.start_block A k)) (λ h l m e t i o lt. refl)
    acts_by stage.filter_pass = pass_act (filter_multipliers A p) p.current p.previous r.progress.current r.progress.previous
    acts_by stage.norm_before = norm_act
    acts_by stage.first_dots = dots_act
    acts_by stage.first_subtract = subtract_act
    acts_by stage.second_dots = dots_act
    acts_by stage.second_subtract = subtract_act
    acts_by stage.norm_after = norm_act
    acts_by stage.write =
        block_act p.current (λ h m. place_val n k (block_l A p.current) (written A n k p.round p.column (ending_in A p)) h m)
        (in_place n k some (block_l A p.current) (λ m. written A n k p.round p.column (ending_in A p)) (λ m. written_local A k n p.round p.column (ending_in A p) r.progress.column) (λ l m. refl))
    acts_by stage.plain_pass = pass_act (plain_multipliers A) p.current p.current r.progress.current r.progress.current
    acts_by stage.products =
        partials_act (k * k)
        (λ h m q. partial_sum A n (λ i. A.mul (held_block A a p.current m i (row_at k k (q - h * (k * k)))) (held_block A a (free_block p.current p.current) m i (column_at k k (q - h * (k * k))))) h)
        (omega arith)
        (λ h l m e t i o lt. ap₂ (λ (v w : List A.F). partial_sum A n (λ r. A.mul (block_of A.none n k v r (row_at k k (i - h * (k * k)))) (block_of A.none n k w r (column_at k k (i - h * (k * k))))) h)
        (partials-block A p.current l m) (partials-block A (free_block p.current p.current) l m))
    acts_by stage.rotate =
        output_act (λ h m. number_at n a.dims (unscaled A (vector_of A.none m.inverse) (rotated A k (held_block A a p.current m) (block_of A.none k k s.vectors) s.order)))
        (λ h l m e t i o lt. ap (λ (v : List A.F). number_at n a.dims (unscaled A (vector_of A.none m.inverse) (rotated A k (block_of A.none n k v) (block_of A.none k k s.vectors) s.order)) i) (output-block A p.current l m))
    acts_by stage.sums = partials_act a.dims (λ h m q. partial_sum A n (λ i. held_output A a m i (q - h * (k * k))) h) (dims-most r) (λ h l m e t i o lt. refl)
    acts_by stage.centre =
        output_act (λ h m. place_val n a.dims (output_l A) (centred A n (vector_of A.none s.totals)) h m)
        (in_place n a.dims r.asked.dims-least (output_l A) (λ m. centred A n (vector_of A.none s.totals)) (λ m. centred_local A a.dims n (vector_of A.none s.totals)) (λ l m. refl))
    acts_by stage.squares = partials_act a.dims (λ h m q. partial_sum A n (λ i. square A (held_output A a m i (q - h * (k * k)))) h) (dims-most r) (λ h l m e t i o lt. refl)
    acts_by stage.scale =
        output_act (λ h m. place_val n a.dims (output_l A) (scaled A (vector_of A.none s.totals)) h m)
        (in_place n a.dims r.asked.dims-least (output_l A) (λ m. scaled A (vector_of A.none s.totals)) (λ m. scaled_local A a.dims (vector_of A.none s.totals)) (λ l m. refl))
    acts_by stage.ended = acts_idle A a
