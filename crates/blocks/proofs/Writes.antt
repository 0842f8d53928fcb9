-- Laws of the stages that write a block or the output: what a chunk function leaves in its rows is the machine's work. Assumes nothing.
use mathlib.Core.Path.{◌≡◌, sym, ap, subst, ◌∙◌}
use mathlib.Core.List.{List}
use Prim.Native.Nat.{ℕ, ◌+◌, ◌<◌}
use lib.Dec.{eqb}
use lib.Ieee.{Float}
use Rattle.definition.specs.Arith.{ieee64}
use Rattle.definition.specs.ChebyshevRayleighRitz.{rotated}
use Rattle.definition.specs.Memory.{place, vector_of, block_of, number_at, fill_range}
use Rattle.definition.specs.Numbers.{first_row}
use Rattle.definition.specs.OrthonormalizeBlock as Block
use Rattle.definition.specs.OrthonormalizeBlock.{ending, subtracted, written}
use Rattle.definition.specs.SpectralEmbedding.{unscaled}
use Rattle.held.specs.Places.{fill_where}
use Rattle.machine.specs.State.{Asked, wide, Progress, Lent, block_at, with_block, with_output}
use Rattle.machine.specs.Work.{own_place, ending_in, subtract_work, write_work, rotate_work}
use Rattle.numbers.specs.declared.Ending.{Ending}
use Rattle.numbers.specs.Answers.{ending_of}
use Rattle.blocks.specs.Chosen.{chosen}
use Rattle.blocks.proofs.Chosen.{chosen_at}
use Rattle.blocks.proofs.Own.{rows_of}

-- block j is the one of number b
pub put-block : (j b : ℕ) (m : Lent ieee64) (f : List Float → List Float) {ys : List Float} → b ≡ j → ys ≡ f (block_at ieee64 j m)
    → with_block ieee64 j ys m ≡ with_block ieee64 b (f (block_at ieee64 b m)) m
put-block j b m f {ys} e q =
    subst (λ (x : ℕ). with_block ieee64 j ys m ≡ with_block ieee64 x (f (block_at ieee64 x m)) m) (sym e) (ap (λ (l : List Float). with_block ieee64 j l m) q)

-- how the attempt ends, by the case that the test answered
pub ending-is : (t : Progress ieee64) {r s : Ending} → ending_of r ≡ ending ieee64 t.before t.norm (eqb t.attempt 1) → r ≡ s
    → ending_in ieee64 t ≡ ending_of s
unfolding ending_in
ending-is t e q = sym e ∙ ap ending_of q

module _ (a : Asked) (t : Progress ieee64) (h : ℕ) where
  pub written_of : {first end : ℕ} → first ≡ first_row a.rows h → end ≡ first_row a.rows (h + 1) → 0 < wide a
      → (xs : List Float) {ys : List Float} (e : Block.Ending ieee64) → ending_in ieee64 t ≡ e
      → ys ≡ fill_range (place a.rows (wide a) first 0) (place a.rows (wide a) end 0)
      (number_at a.rows (wide a) (written ieee64 a.rows (wide a) t.round t.column e (block_of ieee64.none a.rows (wide a) xs))) xs
      → ys ≡ fill_where (own_place a.rows (wide a) h)
      (number_at a.rows (wide a) (written ieee64 a.rows (wide a) t.round t.column (ending_in ieee64 t) (block_of ieee64.none a.rows (wide a) xs))) xs
  written_of p q some xs e s r =
      rw s
      (rows_of a.rows h p q (wide a)
      (number_at a.rows (wide a) (written ieee64 a.rows (wide a) t.round t.column e (block_of ieee64.none a.rows (wide a) xs))) xs some r)

  module _ (m : Lent ieee64) where
    -- block j is current
    pub subtract_lent : (j : ℕ) (totals : List Float) {ys : List Float} → t.current ≡ j
        → ys ≡ fill_where (own_place a.rows (wide a) h)
        (number_at a.rows (wide a) (subtracted ieee64 (vector_of ieee64.none totals) (vector_of ieee64.none m.v0)
        (block_of ieee64.none a.rows (wide a) (block_at ieee64 j m)) t.column)) (block_at ieee64 j m)
        → with_block ieee64 j ys m ≡ subtract_work ieee64 a t totals h m
    subtract_lent j totals e q =
        put-block j t.current m
        (λ l. fill_where (own_place a.rows (wide a) h)
        (number_at a.rows (wide a) (subtracted ieee64 (vector_of ieee64.none totals) (vector_of ieee64.none m.v0)
        (block_of ieee64.none a.rows (wide a) l) t.column)) l) e q

    pub write_lent : (j : ℕ) {ys : List Float} → t.current ≡ j
        → ys ≡ fill_where (own_place a.rows (wide a) h)
        (number_at a.rows (wide a) (written ieee64 a.rows (wide a) t.round t.column (ending_in ieee64 t)
        (block_of ieee64.none a.rows (wide a) (block_at ieee64 j m)))) (block_at ieee64 j m)
        → with_block ieee64 j ys m ≡ write_work ieee64 a t h m
    write_lent j e q =
        put-block j t.current m
        (λ l. fill_where (own_place a.rows (wide a) h)
        (number_at a.rows (wide a) (written ieee64 a.rows (wide a) t.round t.column (ending_in ieee64 t)
        (block_of ieee64.none a.rows (wide a) l))) l) e q

    pub rotate_lent : (vectors : List Float) (order : List ℕ) {first end : ℕ} {v ys : List Float} → first ≡ first_row a.rows h → end ≡ first_row a.rows (h + 1)
        → 0 < a.dims → v ≡ chosen t.current m.block0 m.block1 m.block2
        → ys ≡ fill_range (place a.rows a.dims first 0) (place a.rows a.dims end 0)
        (number_at a.rows a.dims (unscaled ieee64 (vector_of ieee64.none m.inverse)
        (rotated ieee64 (wide a) (block_of ieee64.none a.rows (wide a) v) (block_of ieee64.none (wide a) (wide a) vectors) order))) m.output
        → with_output ieee64 ys m ≡ rotate_work ieee64 a t vectors order h m
    rotate_lent vectors order {v = v} p q some r e =
        ap (λ (l : List Float). with_output ieee64 l m)
        (rows_of a.rows h p q a.dims
        (number_at a.rows a.dims (unscaled ieee64 (vector_of ieee64.none m.inverse)
        (rotated ieee64 (wide a) (block_of ieee64.none a.rows (wide a) v) (block_of ieee64.none (wide a) (wide a) vectors) order))) m.output some e
        ∙ ap (λ (x : List Float). fill_where (own_place a.rows a.dims h)
        (number_at a.rows a.dims (unscaled ieee64 (vector_of ieee64.none m.inverse)
        (rotated ieee64 (wide a) (block_of ieee64.none a.rows (wide a) x) (block_of ieee64.none (wide a) (wide a) vectors) order))) m.output)
        (r ∙ chosen_at t.current m))
