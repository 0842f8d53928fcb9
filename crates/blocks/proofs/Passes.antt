-- Laws of a pass: the block that it writes is neither of those that it reads, and what it leaves there is the machine's work. Assumes nothing.
use mathlib.Core.Path.{◌≡◌, refl, sym, ap, ◌∙◌}
use mathlib.Core.Bool.{false}
use mathlib.Core.List.{List}
use Prim.Native.Nat.{ℕ, zero, suc, ◌+◌, ◌*◌, ◌≤◌, ◌<◌}
use native.Mathlib.Omega.{arith}
use borrow.Author.Tests.{eqb-false}
use lib.Dec.{eqb}
use lib.Ieee.{Float}
use lib.ListN.{length}
use Rattle.definition.specs.Arith.{ieee64}
use Rattle.definition.specs.MatvecCombine.{Multipliers}
use Rattle.definition.specs.Numbers.{first_row}
use Rattle.definition.specs.Requirements.{Starts}
use Rattle.held.specs.Places.{fill_where}
use Rattle.machine.specs.State.{Asked, wide, Lists, Lent, block_at, with_block}
use Rattle.machine.specs.Ready.{AskedReady}
use Rattle.machine.specs.Work.{own_place, free_block, operator_in, pass_work}
use Rattle.rows.specs.Pass.{combined_at, Pass}
use Rattle.blocks.specs.Chosen.{chosen, EdgesReady}
use Rattle.blocks.proofs.Own.{asked-width, span_of}
use Rattle.blocks.proofs.Writes.{put-block}

-- ---- it is one of the three, and neither of the two
of_three : (P : ℕ → Type 0) → P 0 → P 1 → P 2 → (x : ℕ) → x < 3 → P x
of_three P u v w zero l = u
of_three P u v w (suc zero) l = v
of_three P u v w (suc (suc zero)) l = w
of_three P u v w (suc (suc (suc x))) l = absurd (omega arith)

pub record Free (c p : ℕ) : Type 0 where
  pub below : free_block c p < 3
  pub other : free_block c p ≡ c → ⊥
  pub another : free_block c p ≡ p → ⊥

-- by the tests, which antt computes on numerals
free_by : (c p : ℕ) → free_block c p < 3 → eqb (free_block c p) c ≡ false → eqb (free_block c p) p ≡ false → Free c p
free_by c p l u v = record { below = l; other = eqb-false (free_block c p) c u; another = eqb-false (free_block c p) p v }

pub free_of : (c p : ℕ) → c < 3 → p < 3 → Free c p
free_of c p k l =
    of_three (λ x. Free x p)
    (of_three (λ y. Free 0 y) (free_by 0 0 (omega arith) refl refl) (free_by 0 1 (omega arith) refl refl) (free_by 0 2 (omega arith) refl refl) p l)
    (of_three (λ y. Free 1 y) (free_by 1 0 (omega arith) refl refl) (free_by 1 1 (omega arith) refl refl) (free_by 1 2 (omega arith) refl refl) p l)
    (of_three (λ y. Free 2 y) (free_by 2 0 (omega arith) refl refl) (free_by 2 1 (omega arith) refl refl) (free_by 2 2 (omega arith) refl refl) p l)
    c k

-- ---- what stands in its place is not chosen
module _ (x : List Float) (m : Lent ieee64) where
  stands-first : (c : ℕ) → (c ≡ 0 → ⊥) → chosen c x m.block1 m.block2 ≡ block_at ieee64 c m
  unfolding chosen
  stands-first zero n = absurd (n refl)
  stands-first (suc zero) n = refl
  stands-first (suc (suc c)) n = refl

  stands-second : (c : ℕ) → (c ≡ 1 → ⊥) → chosen c m.block0 x m.block2 ≡ block_at ieee64 c m
  unfolding chosen
  stands-second zero n = refl
  stands-second (suc zero) n = absurd (n refl)
  stands-second (suc (suc c)) n = refl

  stands-third : (c : ℕ) → c < 3 → (c ≡ 2 → ⊥) → chosen c m.block0 m.block1 x ≡ block_at ieee64 c m
  unfolding chosen
  stands-third zero l n = refl
  stands-third (suc zero) l n = refl
  stands-third (suc (suc zero)) l n = absurd (n refl)
  stands-third (suc (suc (suc c))) l n = absurd (omega arith)

  module _ (c p : ℕ) (k : c < 3) (l : p < 3) where
    pub apart_first : free_block c p ≡ 0
        → (chosen c x m.block1 m.block2 ≡ block_at ieee64 c m) × (chosen p x m.block1 m.block2 ≡ block_at ieee64 p m)
    apart_first e = (stands-first c (λ q. (free_of c p k l).other (e ∙ sym q)), stands-first p (λ q. (free_of c p k l).another (e ∙ sym q)))

    pub apart_second : free_block c p ≡ 1
        → (chosen c m.block0 x m.block2 ≡ block_at ieee64 c m) × (chosen p m.block0 x m.block2 ≡ block_at ieee64 p m)
    apart_second e = (stands-second c (λ q. (free_of c p k l).other (e ∙ sym q)), stands-second p (λ q. (free_of c p k l).another (e ∙ sym q)))

    pub apart_third : free_block c p ≡ 2
        → (chosen c m.block0 m.block1 x ≡ block_at ieee64 c m) × (chosen p m.block0 m.block1 x ≡ block_at ieee64 p m)
    apart_third e = (stands-third c k (λ q. (free_of c p k l).other (e ∙ sym q)), stands-third p l (λ q. (free_of c p k l).another (e ∙ sym q)))

-- block j is free, and v and w are the blocks that are read
module _ (a : Asked) (by : Multipliers ieee64) (c p : ℕ) (g : Lists ieee64) (h : ℕ) (m : Lent ieee64) where
  pub pass-lent : (j : ℕ) {v w ys : List Float} → free_block c p ≡ j → (v ≡ block_at ieee64 c m) × (w ≡ block_at ieee64 p m)
      → ys ≡ fill_where (own_place a.rows (wide a) h) (combined_at ieee64 a.rows (wide a) (operator_in ieee64 g m) by v w) (block_at ieee64 j m)
      → with_block ieee64 j ys m ≡ pass_work ieee64 a by c p g h m
  pass-lent j {v} {w} e (r, s) q =
      put-block j (free_block c p) m
      (λ l. fill_where (own_place a.rows (wide a) h) (combined_at ieee64 a.rows (wide a) (operator_in ieee64 g m) by (block_at ieee64 c m) (block_at ieee64 p m)) l) e
      (q
      ∙ ap (λ (x : List Float). fill_where (own_place a.rows (wide a) h) (combined_at ieee64 a.rows (wide a) (operator_in ieee64 g m) by x w) (block_at ieee64 j m)) r
      ∙ ap (λ (x : List Float). fill_where (own_place a.rows (wide a) h) (combined_at ieee64 a.rows (wide a) (operator_in ieee64 g m) by (block_at ieee64 c m) x) (block_at ieee64 j m)) s)

-- ---- what a pass over chunk h's rows asks
pub pass_ready : (a : Asked) (h : ℕ) {first end : ℕ} {starts columns : List ℕ} {weights inverse v prev : List Float} → AskedReady a
    → EdgesReady a h starts columns weights inverse → first ≡ first_row a.rows h → end ≡ first_row a.rows (h + 1)
    → a.rows * wide a ≤ length v → a.rows * wide a ≤ length prev → Pass a.rows (wide a) first end starts columns weights inverse v prev
pass_ready a h r d p q vs ps =
    rw (p, q)
    (record {
      width = asked-width r;
      span = span_of a.rows h refl refl;
      column_starts = wider d.columns_enough d.rising;
      weight_starts = wider d.weights_enough d.rising;
      columns_below = d.below;
      inverse_enough = d.inverse_enough;
      v_enough = vs;
      prev_enough = ps;
    })
  where
    wider : {starts : List ℕ} {first end m l : ℕ} → m ≤ l → Starts starts first end m → Starts starts first end l
    wider k u = record { enough = u.enough; rising = u.rising; within = λ i x y. omega (arith, k, u.within i x y) }
