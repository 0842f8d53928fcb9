-- The lists that the edges stage lends on: the first `entries` columns and values. Assumes nothing.
use mathlib.Core.Path.{◌≡◌, ◌∙◌}
use mathlib.Core.List.{List}
use Prim.Native.Nat.{ℕ, ◌+◌, ◌-◌, ◌≤◌, ◌<◌}
use native.Mathlib.Omega.{arith}
use lib.Ieee.{Float}
use lib.ListN.{length, take, get_or, length-take}
use lib.Seq.{get_or-take}
use Rattle.definition.specs.Memory.{fill_range, row_holding, wholes_of}
use Rattle.definition.specs.Numbers.{first_row, entries_most}
use Rattle.definition.specs.Requirements.{Starts, Columns}
use Rattle.definition.proofs.Chunks.{first-up}
use Rattle.edges.specs.Edges.{ChunkLists}
use Rattle.held.specs.Places.{fill_where}
use Rattle.held.proofs.Places.{range_where}
use Rattle.machine.specs.Work.{own_entry}
use Rattle.stages.proofs.Written.{starts-within}

-- a list cut to m of its elements has m
pub cut_length : {E : Type 0} (m : ℕ) (xs : List E) → m ≤ length xs → length (take m xs) ≡ m
cut_length m xs h = length-take m xs ∙ omega arith

-- and has what the list has there
pub cut_columns : (columns : List ℕ) (m a e n : ℕ) → e ≤ m → Columns columns a e n → Columns (take m columns) a e n
cut_columns columns m a e n h s = record { below = λ p l u. let q : p < m = omega arith in rw get_or-take (s.below p l u) }

-- columns below n are below more
pub columns-below : {columns : List ℕ} {a e n : ℕ} (l : ℕ) → n ≤ l → Columns columns a e n → Columns columns a e l
columns-below l p s = record { below = λ i a b. omega (arith, s.below i a b) }

-- what the edges stage asks, from what a chunk call has shown
pub chunk-lists : (n h m : ℕ) {first end : ℕ} → first ≡ first_row n h → end ≡ first_row n (h + 1)
    → (starts columns : List ℕ) (values inverse : List Float) (edge_columns : List ℕ) (edge_weights : List Float) → m ≤ entries_most
    → Starts starts (first_row n h) (first_row n (h + 1)) m → Columns columns (get_or starts (first_row n h) 0) (get_or starts (first_row n (h + 1)) 0) n
    → m ≤ length columns → m ≤ length values → n ≤ length inverse → m ≤ length edge_columns → m ≤ length edge_weights
    → ChunkLists first end starts (take m columns) (take m values) inverse edge_columns edge_weights
chunk-lists n h m p q starts columns values inverse edge_columns edge_weights most s b c v i ec ew =
    rw (p, q)
    (record {
      ordered = rising;
      few = omega (arith, cut_length m columns c);
      in_columns = starts-within _ (omega (arith, cut_length m columns c)) s;
      in_values = starts-within _ (omega (arith, cut_length m values v)) s;
      in_edge-columns = starts-within _ ec s;
      in_edge-weights = starts-within _ ew s;
      in_inverse = columns-below _ i (cut_columns columns m _ _ n (s.within (first_row n (h + 1)) rising (omega arith)) b);
    })
  where
    rising : first_row n h ≤ first_row n (h + 1)
    rising = first-up n h (h + 1) (omega arith)

-- the entries of the chunk's rows
pub entries-written : {E : Type 0} (n h : ℕ) (starts : List ℕ) {first end : ℕ} → first ≡ first_row n h → end ≡ first_row n (h + 1) → (f : ℕ → ℕ → E) (xs : List E)
    → fill_range (wholes_of starts first) (wholes_of starts end) (λ i. f (row_holding (wholes_of starts) first (end - first) i) i) xs
    ≡ fill_where (own_entry (wholes_of starts) n h) (λ i. f (row_holding (wholes_of starts) (first_row n h) (first_row n (h + 1) - first_row n h) i) i) xs
entries-written n h starts p q f xs = rw (p, q) (range_where (wholes_of starts (first_row n h)) (wholes_of starts (first_row n (h + 1))) _ xs)
