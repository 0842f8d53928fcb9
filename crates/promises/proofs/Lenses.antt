-- The lent lists as lists of the memory, and what a stage that fills places of one keeps. Assumes nothing.
use mathlib.Core.Path.{◌≡◌, refl, sym, ap, ◌∙◌}
use mathlib.Core.Bool.{Bool, true, false}
use mathlib.Core.List.{List}
use Prim.Native.Nat.{ℕ, zero, suc, ◌+◌, ◌*◌, ◌≤◌, ◌<◌}
use native.Mathlib.Omega.{arith}
use lib.ListN.{length, get_or}
use Rattle.definition.specs.Arith.{Arith}
use Rattle.held.specs.Places.{fill_where}
use Rattle.held.proofs.Places.{where_length}
use Rattle.held.proofs.Ops.{Apart, thence, apart_thence}
use Rattle.held.proofs.Lens.{Lens, Beside, fill_op, Local, Disjoint, fill_apart, fill_beside}
use Rattle.machine.specs.State.{Asked, Lent, with_inverse, with_v0, with_edge_columns, with_edge_weights, with_partials, with_output, with_record, block_at, with_block}
use Rattle.machine.specs.Work.{free_block}
use Rattle.machine.specs.Ready.{LentReady}

module _ (A : Arith) where
  abbrev pub inverse_l : Lens (Lent A) A.F
  inverse_l = record { get = λ m. m.inverse; put = with_inverse A; get_put = λ l m. refl; put-put = λ k l m. refl; put_get = λ m. refl }

  abbrev pub v0_l : Lens (Lent A) A.F
  v0_l = record { get = λ m. m.v0; put = with_v0 A; get_put = λ l m. refl; put-put = λ k l m. refl; put_get = λ m. refl }

  abbrev pub edge_columns_l : Lens (Lent A) ℕ
  edge_columns_l = record { get = λ m. m.edge_columns; put = with_edge_columns A; get_put = λ l m. refl; put-put = λ k l m. refl; put_get = λ m. refl }

  abbrev pub edge_weights_l : Lens (Lent A) A.F
  edge_weights_l = record { get = λ m. m.edge_weights; put = with_edge_weights A; get_put = λ l m. refl; put-put = λ k l m. refl; put_get = λ m. refl }

  abbrev pub partials_l : Lens (Lent A) A.F
  partials_l = record { get = λ m. m.partials; put = with_partials A; get_put = λ l m. refl; put-put = λ k l m. refl; put_get = λ m. refl }

  abbrev pub output_l : Lens (Lent A) A.F
  output_l = record { get = λ m. m.output; put = with_output A; get_put = λ l m. refl; put-put = λ k l m. refl; put_get = λ m. refl }

  -- ---- block b
  pub block_get_put : (b : ℕ) (l : List A.F) (m : Lent A) → block_at A b (with_block A b l m) ≡ l
  block_get_put zero l m = refl
  block_get_put (suc zero) l m = refl
  block_get_put (suc (suc b)) l m = refl

  pub block-put-put : (b : ℕ) (k l : List A.F) (m : Lent A) → with_block A b k (with_block A b l m) ≡ with_block A b k m
  block-put-put zero k l m = refl
  block-put-put (suc zero) k l m = refl
  block-put-put (suc (suc b)) k l m = refl

  pub block-put_get : (b : ℕ) (m : Lent A) → with_block A b (block_at A b m) m ≡ m
  block-put_get zero m = refl
  block-put_get (suc zero) m = refl
  block-put_get (suc (suc b)) m = refl

  abbrev pub block_l : ℕ → Lens (Lent A) A.F
  block_l b = record { get = block_at A b; put = with_block A b; get_put = block_get_put b; put-put = block-put-put b; put_get = block-put_get b }

  -- what a list beside the blocks keeps when a block is put
  pub block_else : {X : Type 0} (f : List A.F → List A.F → List ℕ → List A.F → List A.F → List A.F → X) (b : ℕ) (l : List A.F) (m : Lent A)
      → f (with_block A b l m).inverse (with_block A b l m).v0 (with_block A b l m).edge_columns (with_block A b l m).edge_weights (with_block A b l m).partials (with_block A b l m).output
      ≡ f m.inverse m.v0 m.edge_columns m.edge_weights m.partials m.output
  block_else f zero l m = refl
  block_else f (suc zero) l m = refl
  block_else f (suc (suc b)) l m = refl

  -- a block when a list beside the blocks is put
  pub partials-block : (b : ℕ) (l : List A.F) (m : Lent A) → block_at A b (with_partials A l m) ≡ block_at A b m
  partials-block zero l m = refl
  partials-block (suc zero) l m = refl
  partials-block (suc (suc b)) l m = refl

  pub output-block : (b : ℕ) (l : List A.F) (m : Lent A) → block_at A b (with_output A l m) ≡ block_at A b m
  output-block zero l m = refl
  output-block (suc zero) l m = refl
  output-block (suc (suc b)) l m = refl

  -- a pass reads neither block that it writes
  pub free_current : (c p : ℕ) (l : List A.F) (m : Lent A) → c < 3 → p < 3 → block_at A c (with_block A (free_block c p) l m) ≡ block_at A c m
  free_current zero zero l m q r = refl
  free_current zero (suc zero) l m q r = refl
  free_current zero (suc (suc zero)) l m q r = refl
  free_current zero (suc (suc (suc p))) l m q r = absurd (omega arith)
  free_current (suc zero) zero l m q r = refl
  free_current (suc zero) (suc zero) l m q r = refl
  free_current (suc zero) (suc (suc zero)) l m q r = refl
  free_current (suc zero) (suc (suc (suc p))) l m q r = absurd (omega arith)
  free_current (suc (suc zero)) zero l m q r = refl
  free_current (suc (suc zero)) (suc zero) l m q r = refl
  free_current (suc (suc zero)) (suc (suc zero)) l m q r = refl
  free_current (suc (suc zero)) (suc (suc (suc p))) l m q r = absurd (omega arith)
  free_current (suc (suc (suc c))) p l m q r = absurd (omega arith)

  pub free_previous : (c p : ℕ) (l : List A.F) (m : Lent A) → c < 3 → p < 3 → block_at A p (with_block A (free_block c p) l m) ≡ block_at A p m
  free_previous zero zero l m q r = refl
  free_previous zero (suc zero) l m q r = refl
  free_previous zero (suc (suc zero)) l m q r = refl
  free_previous zero (suc (suc (suc p))) l m q r = absurd (omega arith)
  free_previous (suc zero) zero l m q r = refl
  free_previous (suc zero) (suc zero) l m q r = refl
  free_previous (suc zero) (suc (suc zero)) l m q r = refl
  free_previous (suc zero) (suc (suc (suc p))) l m q r = absurd (omega arith)
  free_previous (suc (suc zero)) zero l m q r = refl
  free_previous (suc (suc zero)) (suc zero) l m q r = refl
  free_previous (suc (suc zero)) (suc (suc zero)) l m q r = refl
  free_previous (suc (suc zero)) (suc (suc (suc p))) l m q r = absurd (omega arith)
  free_previous (suc (suc (suc c))) p l m q r = absurd (omega arith)

  pub free_below : (c p : ℕ) → c < 3 → p < 3 → free_block c p < 3
  free_below zero zero q r = omega arith
  free_below zero (suc zero) q r = omega arith
  free_below zero (suc (suc zero)) q r = omega arith
  free_below zero (suc (suc (suc p))) q r = absurd (omega arith)
  free_below (suc zero) zero q r = omega arith
  free_below (suc zero) (suc zero) q r = omega arith
  free_below (suc zero) (suc (suc zero)) q r = omega arith
  free_below (suc zero) (suc (suc (suc p))) q r = absurd (omega arith)
  free_below (suc (suc zero)) zero q r = omega arith
  free_below (suc (suc zero)) (suc zero) q r = omega arith
  free_below (suc (suc zero)) (suc (suc zero)) q r = omega arith
  free_below (suc (suc zero)) (suc (suc (suc p))) q r = absurd (omega arith)
  free_below (suc (suc (suc c))) p q r = absurd (omega arith)

  -- ---- lists as long as before leave the memory long enough
  module _ (a : Asked) where
    pub still_inverse : (l : List A.F) (m : Lent A) → length l ≡ length m.inverse → LentReady A a m → LentReady A a (with_inverse A l m)
    still_inverse l m e r = omega arith

    pub still_v0 : (l : List A.F) (m : Lent A) → length l ≡ length m.v0 → LentReady A a m → LentReady A a (with_v0 A l m)
    still_v0 l m e r = omega arith

    pub still_columns : (l : List ℕ) (m : Lent A) → length l ≡ length m.edge_columns → LentReady A a m → LentReady A a (with_edge_columns A l m)
    still_columns l m e r = omega arith

    pub still_weights : (l : List A.F) (m : Lent A) → length l ≡ length m.edge_weights → LentReady A a m → LentReady A a (with_edge_weights A l m)
    still_weights l m e r = omega arith

    pub still_partials : (l : List A.F) (m : Lent A) → length l ≡ length m.partials → LentReady A a m → LentReady A a (with_partials A l m)
    still_partials l m e r = omega arith

    pub still_output : (l : List A.F) (m : Lent A) → length l ≡ length m.output → LentReady A a m → LentReady A a (with_output A l m)
    still_output l m e r = omega arith

    pub still_record : (l : List A.F) (m : Lent A) → length l ≡ length m.ritz_record → LentReady A a m → LentReady A a (with_record A l m)
    still_record l m e r = omega arith

    pub still_block : (b : ℕ) (l : List A.F) (m : Lent A) → length l ≡ length (block_at A b m) → LentReady A a m → LentReady A a (with_block A b l m)
    still_block zero l m e r = omega arith
    still_block (suc zero) l m e r = omega arith
    still_block (suc (suc b)) l m e r = omega arith

    -- ---- what a stage's chunks do: in any order, with the memory as long as it was
    pub record Acts (op : ℕ → Lent A → Lent A) : Type 0 where
      pub apart : Apart op op
      pub keeps : (h : ℕ) (m : Lent A) → LentReady A a m → LentReady A a (op h m)

    pub acts_fill : {E : Type 0} (L : Lens (Lent A) E) (own : ℕ → ℕ → Bool) (none : E) (val : ℕ → Lent A → ℕ → E)
        → ((l : List E) (m : Lent A) → length l ≡ length (L.get m) → LentReady A a m → LentReady A a (L.put l m))
        → Disjoint L own none → Local L own none val → Acts (fill_op L own none val)
    unfolding fill_op
    acts_fill L own none val still dis loc = record {
      apart = fill_apart L own none dis val loc;
      keeps = λ h m r. still (fill_where (own h) (val h m) (L.get m)) m (where_length (own h) (val h m) (L.get m)) r;
    }

    -- a stage that fills places of two lists, neither of which is read
    pub acts_two : (f g : ℕ → Lent A → Lent A) → Acts f → Acts g → ((h k : ℕ) (m : Lent A) → f h (g k m) ≡ g k (f h m)) → Acts (thence f g)
    acts_two f g u v c = record {
      apart = apart_thence f g u.apart v.apart (λ h k ne m. c h k m);
      keeps = λ h m r. v.keeps h (f h m) (u.keeps h m r);
    }

    pub acts_idle : Acts (λ h m. m)
    acts_idle = record { apart = λ h k ne m. refl; keeps = λ h m r. r }
