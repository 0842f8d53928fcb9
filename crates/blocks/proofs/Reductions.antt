-- Laws of the stages that write partials: what a chunk's reduction over chosen blocks leaves is the machine's work. Assumes nothing.
use mathlib.Core.Path.{◌≡◌, ap, ◌∙◌}
use mathlib.Core.List.{List}
use Prim.Native.Nat.{ℕ, ◌+◌, ◌-◌, ◌*◌}
use lib.Ieee.{Float}
use Rattle.definition.specs.Arith.{ieee64}
use Rattle.definition.specs.ChunkedColumnReduce.{partial_sum, square}
use Rattle.definition.specs.Memory.{vector_of, block_of}
use Rattle.definition.specs.Numbers.{first_row}
use Rattle.definition.specs.OrthonormalizeBlock.{dot_term}
use Rattle.held.specs.Places.{fill_where}
use Rattle.machine.specs.State.{Asked, wide, Progress, Lent, block_at, with_partials}
use Rattle.machine.specs.Work.{own_partial, on_partials, free_block, norm_work, dots_work, products_work}
use Rattle.sums.specs.Accumulators.{with_partial, product_term}
use Rattle.blocks.specs.Chosen.{chosen}
use Rattle.blocks.proofs.Chosen.{chosen_at}
use Rattle.blocks.proofs.Own.{partial_of}

-- v is the block of number b
abbrev Chosen : List Float → ℕ → Lent ieee64 → Type 0
Chosen v b m = v ≡ chosen b m.block0 m.block1 m.block2

module _ (a : Asked) (h : ℕ) (m : Lent ieee64) {first end : ℕ} (p : first ≡ first_row a.rows h) (q : end ≡ first_row a.rows (h + 1)) where
  -- a reduction over one block
  lent_one : (width : ℕ) (f : List Float → ℕ → ℕ → Float) (b : ℕ) {v ys : List Float} → Chosen v b m
      → ys ≡ with_partial ieee64 (h * (wide a * wide a)) width (f v) first end m.partials
      → with_partials ieee64 ys m ≡ on_partials ieee64 a width (f (block_at ieee64 b m)) h m
  lent_one width f b {v} r e =
      ap (λ (l : List Float). with_partials ieee64 l m)
      (partial_of a.rows h p q (wide a) width (f v) m.partials e
      ∙ ap (λ (x : List Float). fill_where (own_partial (wide a) width h) (λ i. partial_sum ieee64 a.rows (f x (i - h * (wide a * wide a))) h) m.partials)
      (r ∙ chosen_at b m))

  pub norm-lent : (t : Progress ieee64) {v ys : List Float} → Chosen v t.current m
      → ys ≡ with_partial ieee64 (h * (wide a * wide a)) 1 (λ j i. square ieee64 (block_of ieee64.none a.rows (wide a) v i t.column)) first end m.partials
      → with_partials ieee64 ys m ≡ norm_work ieee64 a t h m
  norm-lent t r e = lent_one 1 (λ x j i. square ieee64 (block_of ieee64.none a.rows (wide a) x i t.column)) t.current r e

  pub dots-lent : (t : Progress ieee64) {v ys : List Float} → Chosen v t.current m
      → ys ≡ with_partial ieee64 (h * (wide a * wide a)) (t.column + 1)
      (dot_term ieee64 (vector_of ieee64.none m.v0) (block_of ieee64.none a.rows (wide a) v) t.column) first end m.partials
      → with_partials ieee64 ys m ≡ dots_work ieee64 a t h m
  dots-lent t r e =
      lent_one (t.column + 1) (λ x. dot_term ieee64 (vector_of ieee64.none m.v0) (block_of ieee64.none a.rows (wide a) x) t.column) t.current r e

  pub products-lent : (t : Progress ieee64) {v w ys : List Float} → Chosen v t.current m → Chosen w (free_block t.current t.current) m
      → ys ≡ with_partial ieee64 (h * (wide a * wide a)) (wide a * wide a)
      (product_term ieee64 (wide a) (block_of ieee64.none a.rows (wide a) v) (block_of ieee64.none a.rows (wide a) w)) first end m.partials
      → with_partials ieee64 ys m ≡ products_work ieee64 a t h m
  products-lent t {v} {w} r s e =
      lent_one (wide a * wide a) (λ x. product_term ieee64 (wide a) (block_of ieee64.none a.rows (wide a) x) (block_of ieee64.none a.rows (wide a) w))
      t.current r e
      ∙ ap (λ (x : List Float). on_partials ieee64 a (wide a * wide a)
      (product_term ieee64 (wide a) (block_of ieee64.none a.rows (wide a) (block_at ieee64 t.current m)) (block_of ieee64.none a.rows (wide a) x)) h m)
      (s ∙ chosen_at (free_block t.current t.current) m)
