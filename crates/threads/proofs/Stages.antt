-- Stage by stage: a chunk's work leaves what is not its own, its places are no other chunk's, and it reads nothing that another chunk of the stage writes. Assumes nothing.
use mathlib.Core.Path.{refl, ap, ap₂}
use mathlib.Core.Bool.{Bool}
use mathlib.Core.List.{List}
use Prim.Native.Nat.{ℕ, ◌+◌, ◌-◌, ◌*◌, ◌≤◌, ◌<◌}
use native.Mathlib.Omega.{arith}
use Rattle.definition.specs.Arith.{Arith}
use Rattle.definition.specs.ChebyshevRayleighRitz as ritz
use Rattle.definition.specs.ChebyshevRayleighRitz.{plain_multipliers, rotated}
use Rattle.definition.specs.ChunkedColumnReduce.{partial_sum, square}
use Rattle.definition.specs.MatvecCombine.{Multipliers, matvec_combine}
use Rattle.definition.specs.Memory.{row_at, column_at, vector_of, wholes_of, block_of, number_at}
use Rattle.definition.specs.OrthonormalizeBlock.{dot_term, subtracted, written}
use Rattle.definition.specs.Requirements.{Starts}
use Rattle.definition.specs.SpectralEmbedding.{degree_root, inverse_weight, edge_column, edge_weight, v0_of, unscaled, centred, scaled}
use Rattle.held.proofs.Places.{where_length, where_out}
use Rattle.held.proofs.Lens.{Local}
use Rattle.machine.specs.State.{Stage, Asked, wide, Lists, Progress, State, Lent}
use Rattle.machine.specs.State as stage
use Rattle.machine.specs.Work.{own_row, own_entry, own_place, own_partial, free_block, operator_in, filter_multipliers, ending_in, held_block, held_output, column_in, value_in, row_in, pass_work, work_by}
use Rattle.machine.specs.Ready.{StateReady}
use Rattle.machine.proofs.Own.{own-row-once, own-place-once}
use Rattle.ready.proofs.Widths.{one-most, own-most, dims-most}
use Rattle.promises.proofs.RowLocal.{subtracted_local, written_local, centred_local, scaled_local}
use Rattle.promises.proofs.Lenses.{v0_l, partials_l, output_l, block_l, block_else, partials-block, output-block}
use Rattle.promises.proofs.Acts.{own_partial_once, own_entry_once, place_val, in_place, pass_local}
use Rattle.threads.specs.Owned.{in_v0, in_partials, in_output, in_block, owned_by}
use Rattle.threads.proofs.Lists.{not-true, never, nobody, fill_same, inverse-same, v0_listed, partials_listed, output_listed, block_listed, Writes, Reads, filled, writes_fill, reads_fill, writes_idle, reads_idle}

module _ (A : Arith) (s : State A) (g : Lists A) where
  abbrev a : Asked
  a = s.asked

  abbrev p : Progress A
  p = s.progress

  abbrev n : ℕ
  n = s.asked.rows

  abbrev k : ℕ
  k = wide s.asked

  abbrev entry_of : ℕ → ℕ → Bool
  entry_of h = own_entry (wholes_of g.starts) n h

  abbrev root_val : ℕ → A.F
  root_val = degree_root A (wholes_of g.starts) (vector_of A.none g.values)

  abbrev inverse_val : ℕ → A.F
  inverse_val = inverse_weight A (wholes_of g.starts) (vector_of A.none g.values)

  abbrev column_val : ℕ → ℕ → ℕ
  column_val h q = edge_column (wholes_of g.starts) (column_in A a g) (row_in A a g h q) q

  abbrev weight_val : ℕ → List A.F → ℕ → A.F
  weight_val h inverse q = edge_weight A (wholes_of g.starts) (column_in A a g) (value_in A a g) (vector_of A.none inverse) (row_in A a g h q) q

  -- ---- what is not the chunk's own stays: in every state, over every graph
  block_writes : (b : ℕ) (val : ℕ → Lent A → ℕ → A.F) → Writes A (λ h. in_block b (own_place n k h)) (filled A (block_l A b) (own_place n k) val)
  block_writes b val = writes_fill A (block_l A b) A.none (in_block b) (block_listed A b) (own_place n k) val

  output_writes : (val : ℕ → Lent A → ℕ → A.F) → Writes A (λ h. in_output (own_place n a.dims h)) (filled A (output_l A) (own_place n a.dims) val)
  output_writes val = writes_fill A (output_l A) A.none in_output (output_listed A) (own_place n a.dims) val

  partials_writes : (width : ℕ) (val : ℕ → Lent A → ℕ → A.F) → Writes A (λ h. in_partials (own_partial k width h)) (filled A (partials_l A) (own_partial k width) val)
  partials_writes width val = writes_fill A (partials_l A) A.none in_partials (partials_listed A) (own_partial k width) val

  pub writes_by : (st : Stage) → Writes A (λ h. owned_by A st s g h) (λ h m. work_by A st s g h m)
  writes_by stage.empty = writes_idle A
  writes_by stage.degrees = record {
    lengths = λ h m. record {
      inverse = where_length (own_row n h) inverse_val m.inverse;
      v0 = where_length (own_row n h) root_val m.v0;
      edge_columns = refl;
      edge_weights = refl;
      block0 = refl;
      block1 = refl;
      block2 = refl;
      partials = refl;
      output = refl;
      ritz_record = refl;
    };
    outer = λ h m. record {
      inverse = λ q o. where_out (own_row n h) inverse_val m.inverse q A.none (not-true (own_row n h q) o);
      v0 = λ q o. where_out (own_row n h) root_val m.v0 q A.none (not-true (own_row n h q) o);
      edge_columns = λ q o. refl;
      edge_weights = λ q o. refl;
      block0 = λ q o. refl;
      block1 = λ q o. refl;
      block2 = λ q o. refl;
      partials = λ q o. refl;
      output = λ q o. refl;
      ritz_record = λ q o. refl;
    };
  }
  writes_by stage.edges = record {
    lengths = λ h m. record {
      inverse = refl;
      v0 = refl;
      edge_columns = where_length (entry_of h) (column_val h) m.edge_columns;
      edge_weights = where_length (entry_of h) (weight_val h m.inverse) m.edge_weights;
      block0 = refl;
      block1 = refl;
      block2 = refl;
      partials = refl;
      output = refl;
      ritz_record = refl;
    };
    outer = λ h m. record {
      inverse = λ q o. refl;
      v0 = λ q o. refl;
      edge_columns = λ q o. where_out (entry_of h) (column_val h) m.edge_columns q 0 (not-true (entry_of h q) o);
      edge_weights = λ q o. where_out (entry_of h) (weight_val h m.inverse) m.edge_weights q A.none (not-true (entry_of h q) o);
      block0 = λ q o. refl;
      block1 = λ q o. refl;
      block2 = λ q o. refl;
      partials = λ q o. refl;
      output = λ q o. refl;
      ritz_record = λ q o. refl;
    };
  }
  writes_by stage.v0 = writes_fill A (v0_l A) A.none in_v0 (v0_listed A) (own_row n) _
  writes_by stage.start_block = block_writes 0 _
  writes_by stage.filter_pass = block_writes (free_block p.current p.previous) _
  writes_by stage.norm_before = partials_writes 1 _
  writes_by stage.first_dots = partials_writes (p.column + 1) _
  writes_by stage.first_subtract = block_writes p.current _
  writes_by stage.second_dots = partials_writes (p.column + 1) _
  writes_by stage.second_subtract = block_writes p.current _
  writes_by stage.norm_after = partials_writes 1 _
  writes_by stage.write = block_writes p.current _
  writes_by stage.plain_pass = block_writes (free_block p.current p.current) _
  writes_by stage.products = partials_writes (k * k) _
  writes_by stage.rotate = output_writes _
  writes_by stage.sums = partials_writes a.dims _
  writes_by stage.centre = output_writes _
  writes_by stage.squares = partials_writes a.dims _
  writes_by stage.scale = output_writes _
  writes_by stage.ended = writes_idle A

  -- ---- what another chunk writes is not read
  module _ (r : StateReady A s) (S : Starts g.starts 0 s.asked.rows s.asked.entries) where
    some : 0 < k
    some = omega arith

    block_reads : (b : ℕ) (val : ℕ → Lent A → ℕ → A.F) → Local (block_l A b) (own_place n k) A.none val → Reads A (λ h. in_block b (own_place n k h)) (filled A (block_l A b) (own_place n k) val)
    block_reads b val loc = reads_fill A (block_l A b) A.none (in_block b) (block_listed A b) (own_place n k) val (λ h j q. own-place-once n k h j q) loc

    output_reads : (val : ℕ → Lent A → ℕ → A.F) → Local (output_l A) (own_place n a.dims) A.none val → Reads A (λ h. in_output (own_place n a.dims h)) (filled A (output_l A) (own_place n a.dims) val)
    output_reads val loc = reads_fill A (output_l A) A.none in_output (output_listed A) (own_place n a.dims) val (λ h j q. own-place-once n a.dims h j q) loc

    partials_reads : (width : ℕ) (val : ℕ → Lent A → ℕ → A.F) → width ≤ k * k → Local (partials_l A) (own_partial k width) A.none val → Reads A (λ h. in_partials (own_partial k width h)) (filled A (partials_l A) (own_partial k width) val)
    partials_reads width val w loc = reads_fill A (partials_l A) A.none in_partials (partials_listed A) (own_partial k width) val (λ h j q. own_partial_once k width h j q w) loc

    pass_reads : (by : Multipliers A) (c q : ℕ) → c < 3 → q < 3 → Reads A (λ h. in_block (free_block c q) (own_place n k h)) (λ h m. pass_work A a by c q g h m)
    pass_reads by c q lc lq =
        block_reads (free_block c q) (λ h m. number_at n k (matvec_combine A (operator_in A g m) by (held_block A a c m) (held_block A a q m))) (pass_local A a g by c q lc lq)

    -- v0 lies beside the blocks
    subtract_reads : Reads A (λ h. owned_by A stage.first_subtract s g h) (λ h m. work_by A stage.first_subtract s g h m)
    subtract_reads =
        block_reads p.current (λ h m. place_val A n k (block_l A p.current) (λ v. subtracted A (vector_of A.none s.totals) (vector_of A.none m.v0) v p.column) h m)
        (in_place A n k some (block_l A p.current) (λ m v. subtracted A (vector_of A.none s.totals) (vector_of A.none m.v0) v p.column)
        (λ m. subtracted_local A k (vector_of A.none s.totals) (vector_of A.none m.v0) p.column r.progress.column)
        (λ l m. block_else A (λ inverse v0 columns weights partials output v. subtracted A (vector_of A.none s.totals) (vector_of A.none v0) v p.column) p.current l m))

    norm_reads : Reads A (λ h. owned_by A stage.norm_before s g h) (λ h m. work_by A stage.norm_before s g h m)
    norm_reads =
        partials_reads 1 (λ h m q. partial_sum A n (λ i. square A (held_block A a p.current m i p.column)) h) (one-most r)
        (λ h l m e t i o lt. ap (λ (v : List A.F). partial_sum A n (λ r. square A (block_of A.none n k v r p.column)) h) (partials-block A p.current l m))

    dots_reads : Reads A (λ h. owned_by A stage.first_dots s g h) (λ h m. work_by A stage.first_dots s g h m)
    dots_reads =
        partials_reads (p.column + 1) (λ h m q. partial_sum A n (dot_term A (vector_of A.none m.v0) (held_block A a p.current m) p.column (q - h * (k * k))) h) (own-most r)
        (λ h l m e t i o lt. ap (λ (v : List A.F). partial_sum A n (dot_term A (vector_of A.none m.v0) (block_of A.none n k v) p.column (i - h * (k * k))) h) (partials-block A p.current l m))

    pub reads_by : (st : Stage) → Reads A (λ h. owned_by A st s g h) (λ h m. work_by A st s g h m)
    reads_by stage.empty = reads_idle A
    reads_by stage.degrees = record {
      once = record {
        inverse = own-row-once n;
        v0 = own-row-once n;
        edge_columns = nobody;
        edge_weights = nobody;
        block0 = nobody;
        block1 = nobody;
        block2 = nobody;
        partials = nobody;
        output = nobody;
        ritz_record = nobody;
      };
      inner = λ h m m' D. record {
        inverse = λ q o. fill_same (own_row n h) inverse_val inverse_val A.none m.inverse m'.inverse q D.lengths.inverse o refl;
        v0 = λ q o. fill_same (own_row n h) root_val root_val A.none m.v0 m'.v0 q D.lengths.v0 o refl;
        edge_columns = λ q. never;
        edge_weights = λ q. never;
        block0 = λ q. never;
        block1 = λ q. never;
        block2 = λ q. never;
        partials = λ q. never;
        output = λ q. never;
        ritz_record = λ q. never;
      };
    }
    reads_by stage.edges = record {
      once = record {
        inverse = nobody;
        v0 = nobody;
        edge_columns = λ h j q o t. own_entry_once g.starts n a.entries h j q S o t;
        edge_weights = λ h j q o t. own_entry_once g.starts n a.entries h j q S o t;
        block0 = nobody;
        block1 = nobody;
        block2 = nobody;
        partials = nobody;
        output = nobody;
        ritz_record = nobody;
      };
      inner = λ h m m' D. record {
        inverse = λ q. never;
        v0 = λ q. never;
        edge_columns = λ q o. fill_same (entry_of h) (column_val h) (column_val h) 0 m.edge_columns m'.edge_columns q D.lengths.edge_columns o refl;
        edge_weights = λ q o. fill_same (entry_of h) (weight_val h m.inverse) (weight_val h m'.inverse) A.none m.edge_weights m'.edge_weights q D.lengths.edge_weights o (ap (λ (l : List A.F). weight_val h l q) (inverse-same A (λ j. owned_by A stage.edges s g j) h m m' D (λ j i. refl)));
        block0 = λ q. never;
        block1 = λ q. never;
        block2 = λ q. never;
        partials = λ q. never;
        output = λ q. never;
        ritz_record = λ q. never;
      };
    }
    reads_by stage.v0 =
        reads_fill A (v0_l A) A.none in_v0 (v0_listed A) (own_row n) (λ h m i. v0_of A p.norm (vector_of A.none m.v0 i)) (λ h j q. own-row-once n h j q) (λ h l m e t i o lt. ap (v0_of A p.norm) (t i o))
    reads_by stage.start_block = block_reads 0 (λ h m. number_at n k (ritz.start_block A k)) (λ h l m e t i o lt. refl)
    reads_by stage.filter_pass = pass_reads (filter_multipliers A p) p.current p.previous r.progress.current r.progress.previous
    reads_by stage.norm_before = norm_reads
    reads_by stage.first_dots = dots_reads
    reads_by stage.first_subtract = subtract_reads
    reads_by stage.second_dots = dots_reads
    reads_by stage.second_subtract = subtract_reads
    reads_by stage.norm_after = norm_reads
    reads_by stage.write =
        block_reads p.current (λ h m. place_val A n k (block_l A p.current) (written A n k p.round p.column (ending_in A p)) h m)
        (in_place A n k some (block_l A p.current) (λ m. written A n k p.round p.column (ending_in A p)) (λ m. written_local A k n p.round p.column (ending_in A p) r.progress.column) (λ l m. refl))
    reads_by stage.plain_pass = pass_reads (plain_multipliers A) p.current p.current r.progress.current r.progress.current
    reads_by stage.products =
        partials_reads (k * k)
        (λ h m q. partial_sum A n (λ i. A.mul (held_block A a p.current m i (row_at k k (q - h * (k * k)))) (held_block A a (free_block p.current p.current) m i (column_at k k (q - h * (k * k))))) h)
        (omega arith)
        (λ h l m e t i o lt. ap₂ (λ (v w : List A.F). partial_sum A n (λ r. A.mul (block_of A.none n k v r (row_at k k (i - h * (k * k)))) (block_of A.none n k w r (column_at k k (i - h * (k * k))))) h)
        (partials-block A p.current l m) (partials-block A (free_block p.current p.current) l m))
    reads_by stage.rotate =
        output_reads (λ h m. number_at n a.dims (unscaled A (vector_of A.none m.inverse) (rotated A k (held_block A a p.current m) (block_of A.none k k s.vectors) s.order)))
        (λ h l m e t i o lt. ap (λ (v : List A.F). number_at n a.dims (unscaled A (vector_of A.none m.inverse) (rotated A k (block_of A.none n k v) (block_of A.none k k s.vectors) s.order)) i) (output-block A p.current l m))
    reads_by stage.sums = partials_reads a.dims (λ h m q. partial_sum A n (λ i. held_output A a m i (q - h * (k * k))) h) (dims-most r) (λ h l m e t i o lt. refl)
    reads_by stage.centre =
        output_reads (λ h m. place_val A n a.dims (output_l A) (centred A n (vector_of A.none s.totals)) h m)
        (in_place A n a.dims r.asked.dims-least (output_l A) (λ m. centred A n (vector_of A.none s.totals)) (λ m. centred_local A a.dims n (vector_of A.none s.totals)) (λ l m. refl))
    reads_by stage.squares = partials_reads a.dims (λ h m q. partial_sum A n (λ i. square A (held_output A a m i (q - h * (k * k)))) h) (dims-most r) (λ h l m e t i o lt. refl)
    reads_by stage.scale =
        output_reads (λ h m. place_val A n a.dims (output_l A) (scaled A (vector_of A.none s.totals)) h m)
        (in_place A n a.dims r.asked.dims-least (output_l A) (λ m. scaled A (vector_of A.none s.totals)) (λ m. scaled_local A a.dims (vector_of A.none s.totals)) (λ l m. refl))
    reads_by stage.ended = reads_idle A
