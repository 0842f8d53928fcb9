-- An attempt at a column: its seven stages, and what they leave. Assumes nothing.
use mathlib.Core.Path.{◌≡◌, refl, sym, ap, ap₂, ◌∙◌, subst}
use mathlib.Core.Bool.{Bool, true, false}
use mathlib.Core.List.{List}
use Prim.Native.Nat.{ℕ, zero, suc, ◌+◌, ◌-◌, ◌*◌, ◌≤◌, ◌<◌}
use native.Mathlib.Omega.{arith}
use lib.Dec.{eqb}
use lib.ListN.{length, get_or}
use Rattle.definition.specs.Arith.{Arith}
use Rattle.definition.specs.ChunkedColumnReduce.{Vector, Block, square, column_norm, partial_sum, chunked_sum}
use Rattle.definition.specs.Memory.{vector_of, block_of, number_at}
use Rattle.definition.specs.Numbers.{Params, width, chunks}
use Rattle.definition.specs.OrthonormalizeBlock.{Ending, ending, dot_term, dots, subtracted, projected, twice_projected, attempt_ending, written}
use Rattle.definition.proofs.Places.{square-least}
use Rattle.held.specs.Calls.{Base, whole}
use Rattle.held.proofs.Lens.{Lens, fill_op, Local, whole_length, whole_is}
use Rattle.machine.specs.State.{Asked, asked_of, matrix_room, Lists, Progress, State, Lent, block_at, with_block, with_partials}
use Rattle.machine.specs.Ready.{AskedReady, LentReady}
use Rattle.machine.specs.Work.{own_place, own_partial, held_block, ending_in, norm_work, dots_work, subtract_work, write_work, work}
use Rattle.machine.specs.Closing.{totals_of, norm_of, after_write, end_counted, closed}
use Rattle.promises.specs.Run.{v0_of, tried_at}
use Rattle.promises.specs.Shows.{ShowsGraph, ShowsColumn, HoldsBlock}
use Rattle.promises.proofs.Cong.{SameBlock, norm_cong, dots_cong, subtracted_cong}
use Rattle.promises.proofs.RowLocal.{subtracted_local, written_local}
use Rattle.promises.proofs.Lenses.{partials_l, block_l, block_get_put, block_else, partials-block, still_partials, still_block}
use Rattle.promises.proofs.Acts.{in_place}
use Rattle.promises.proofs.After.{some, partial_val, places-after, total_after, totals-at}
use Rattle.promises.proofs.Here.{Sure, asked_ready, Idle, tally, progress, here, Fine, Leads, at, worked, on, known, graph-partials, graph_block, Standing}

module _ (A : Arith) (d : ℕ) (params : Params) (g : Lists A) (U : Sure A d params g) where
  abbrev a : Asked
  a = asked_of A d params g

  abbrev n : ℕ
  n = length g.starts - 1

  abbrev k : ℕ
  k = width d

  abbrev C : ℕ
  C = chunks (length g.starts - 1)

  abbrev ready : AskedReady a
  ready = asked_ready A d params g U

  abbrev v₀ : Vector A
  v₀ = v0_of A d params g

  abbrev Stands : ℕ → Block A → Lent A → Type 0
  Stands = Standing A d params g U

  -- ---- stages that write the partials
  pub standing_partials : (own : ℕ → ℕ → Bool) (val : ℕ → Lent A → ℕ → A.F) (cur : ℕ) (v : Block A) (m : Lent A) → Stands cur v m
      → Stands cur v (whole (fill_op (partials_l A) own A.none val) C m)
  standing_partials own val cur v m S =
      subst (λ (x : Lent A). Stands cur v x) (sym (whole_is (partials_l A) own A.none val C m))
      (put _ (whole_length (partials_l A) own A.none val C m))
    where
      put : (l : List A.F) → length l ≡ length m.partials → Stands cur v (with_partials A l m)
      put l e = record {
        graph = graph-partials A d params g U l m S.graph;
        lent = still_partials A a l m e S.lent;
        block = λ i c p q. ap (λ (w : List A.F). block_of A.none n k w i c) (partials-block A cur l m) ∙ S.block i c p q;
      }

  -- a reduction of the lists beside the partials
  pub partials_local : (width : ℕ) (f : Lent A → ℕ → ℕ → A.F) → ((l : List A.F) (m : Lent A) → f (with_partials A l m) ≡ f m)
      → Local (partials_l A) (own_partial k width) A.none (partial_val A a ready f)
  partials_local width f e h l m z t i o lt = ap (λ (φ : ℕ → ℕ → A.F). partial_sum A n (φ (i - h * (k * k))) h) (e l m)

  pub norm_leaves : (p : Progress A) (v : Block A) (m : Lent A) → p.column < k → Stands p.current v m
      → norm_of A a (whole (λ h x. norm_work A a p h x) C m).partials ≡ column_norm A n v p.column
  unfolding fill_op norm_of column_norm
  norm_leaves p v m q S =
      ap A.root (total_after A a ready 1 (omega (arith, square-least k (omega arith))) f
      (partials_local 1 f (λ l x. ap squares (partials-block A p.current l x)))
      m S.lent 0 (omega arith))
      ∙ unfold column_norm in norm_cong A n k (held_block A a p.current m) v p.column q S.block
    where
      f : Lent A → ℕ → ℕ → A.F
      f x q i = square A (held_block A a p.current x i p.column)

      squares : List A.F → ℕ → ℕ → A.F
      squares w q i = square A (block_of A.none n k w i p.column)

  pub dots_leave : (p : Progress A) (v : Block A) (m : Lent A) → p.column < k → Stands p.current v m → (q : ℕ) → q ≤ p.column
      → vector_of A.none (totals_of A a (p.column + 1) (whole (λ h x. dots_work A a p h x) C m).partials) q
      ≡ dots A n v₀ v p.column q
  unfolding fill_op
  dots_leave p v m l S q u =
      totals-at A a ready (p.column + 1) _ q (omega (arith, U.dims-most)) (omega arith)
      ∙ total_after A a ready (p.column + 1) (omega (arith, square-least k (omega arith))) f
      (partials_local (p.column + 1) f (λ l x. ap (λ (w : List A.F). dot_term A (vector_of A.none x.v0) (block_of A.none n k w) p.column) (partials-block A p.current l x)))
      m S.lent q (omega arith)
      ∙ dots_cong A n k (vector_of A.none m.v0) v₀ (held_block A a p.current m) v p.column q l u S.graph.v0 S.block
    where
      f : Lent A → ℕ → ℕ → A.F
      f x = dot_term A (vector_of A.none x.v0) (held_block A a p.current x) p.column

  -- ---- stages that write a block
  pub room-block : (b : ℕ) (m : Lent A) → LentReady A a m → n * k ≤ length (block_at A b m)
  room-block zero m r = r.lists.block0
  room-block (suc zero) m r = r.lists.block1
  room-block (suc (suc b)) m r = r.lists.block2

  pub standing_block : (b : ℕ) (w : Lent A → Block A) (v : Block A) (m : Lent A) → Local (block_l A b) (own_place n k) A.none (λ h x. number_at n k (w x))
      → SameBlock A n k (w m) v → (cur : ℕ) (u : Block A) → Stands cur u m
      → Stands b v (whole (fill_op (block_l A b) (own_place n k) A.none (λ h x. number_at n k (w x))) C m)
  standing_block b w v m loc e cur u S = record {
    graph = subst (λ (x : Lent A). ShowsGraph A d params g x) (sym is) (graph_block A d params g U b _ m S.graph);
    lent = subst (λ (x : Lent A). LentReady A a x) (sym is) (still_block A a b _ m (whole_length (block_l A b) own A.none val C m) S.lent);
    block = λ i c p q. places-after A a ready k (omega arith) (block_l A b) w loc m (room-block b m S.lent) i c p q ∙ e i c p q;
  }
    where
      own : ℕ → ℕ → Bool
      own = own_place n k

      val : ℕ → Lent A → ℕ → A.F
      val h x = number_at n k (w x)

      is : whole (fill_op (block_l A b) own A.none val) C m ≡ with_block A b (block_at A b (whole (fill_op (block_l A b) own A.none val) C m)) m
      is = whole_is (block_l A b) own A.none val C m

  pub subtract_leaves : (p : Progress A) (totals : List A.F) (v : Block A) (m : Lent A) → p.column < k
      → ((q : ℕ) → q ≤ p.column → vector_of A.none totals q ≡ dots A n v₀ v p.column q) → Stands p.current v m
      → Stands p.current (projected A n v₀ p.column v) (whole (λ h x. subtract_work A a p totals h x) C m)
  unfolding fill_op
  subtract_leaves p totals v m q t S =
      standing_block p.current (λ x. subtracted A (vector_of A.none totals) (vector_of A.none x.v0) (held_block A a p.current x) p.column)
      (projected A n v₀ p.column v) m
      (in_place A n k (omega arith) (block_l A p.current) (λ x w. subtracted A (vector_of A.none totals) (vector_of A.none x.v0) w p.column)
      (λ x. subtracted_local A k (vector_of A.none totals) (vector_of A.none x.v0) p.column q)
      (λ l x. block_else A (λ inverse v0 columns weights partials output w. subtracted A (vector_of A.none totals) (vector_of A.none v0) w p.column) p.current l x))
      (subtracted_cong A n k (vector_of A.none totals) (vector_of A.none m.v0) v₀ (held_block A a p.current m) v p.column q t S.graph.v0 S.block)
      p.current v S

  pub write_leaves : (p : Progress A) (v : Block A) (m : Lent A) → p.column < k → Stands p.current v m
      → Stands p.current (written A n k p.round p.column (ending_in A p) v) (whole (λ h x. write_work A a p h x) C m)
  unfolding fill_op
  write_leaves p v m q S =
      standing_block p.current (λ x. written A n k p.round p.column (ending_in A p) (held_block A a p.current x))
      (written A n k p.round p.column (ending_in A p) v) m
      (in_place A n k (omega arith) (block_l A p.current) (λ x. written A n k p.round p.column (ending_in A p))
      (λ x. written_local A k n p.round p.column (ending_in A p) q) (λ l x. refl))
      (λ i c l u. written_local A k n p.round p.column (ending_in A p) q (held_block A a p.current m) v i (λ e z. S.block i e l z) c u)
      p.current v S
