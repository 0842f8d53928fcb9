-- What the steps of placing ask, and what they leave together. Assumes nothing.
use mathlib.Core.List.{List}
use mathlib.Core.Path.{◌≡◌, sym, ap, ◌∙◌}
use Prim.Native.Nat.{ℕ, ◌+◌, ◌≤◌}
use native.Mathlib.Omega.{arith}
use lib.ListN.{length, get_or}
use Rattle.ascending.specs.Rows.{RowStarts, RowsRise}
use Rattle.definition.specs.Memory.{fill_range}
use Rattle.definition.proofs.Fill.{fill_length, fill_in, fill_over, fill_cong}
use Rattle.lines.specs.Kinds.{kinds_at}
use Rattle.market.specs.Graph.{start_of, placed_of, with_starts, with_columns}
use Rattle.market.specs.Passes.{Within, gathered_up_to, gathered_start, Placeable}
use Rattle.market.proofs.Right.{Distinct}
use Rattle.mirrored.proofs.Lengths.{start-same}
use Rattle.mirrored.proofs.Rows as rows
use Rattle.matrix_market.specs.Said.{entries_at, Ready}
use Rattle.matrix_market.proofs.Bodies.{right-within, right_distinct}

module _ (text : List ℕ) (n from s c v : ℕ) (r : Ready text n from s c v) where
  all-within : Within n (entries_at text from)
  all-within = right-within n r.behind.m r.behind.k (kinds_at text from) r.behind.is

  all_distinct : Distinct (entries_at text from)
  all_distinct = right_distinct n r.behind.m r.behind.k (kinds_at text from) r.behind.is

  total : gathered_start (entries_at text from) n ≡ placed_of n (entries_at text from)
  total = start-same n (entries_at text from) all-within all_distinct n

  -- room for the starts and for so many columns
  pub placeable : (starts columns : ℕ) → n + 1 ≤ starts → gathered_start (entries_at text from) n ≤ columns → Placeable n (entries_at text from) starts columns
  placeable starts columns p q =
      record { within = all-within; rows = r.rows; placed = omega (arith, total, r.placed); starts-room = p; columns-room = q }

  pub columns_fit : (columns : ℕ) → columns ≡ c → gathered_start (entries_at text from) n ≤ columns
  columns_fit columns p = omega (arith, total, r.columns-room)

  -- ---- the starts, once counted

  module _ (starts counted : List ℕ) (size : length starts ≡ s) (is : counted ≡ fill_range 0 (n + 1) (gathered_start (entries_at text from)) starts) where
    pub counted-length : length counted ≡ s
    counted-length = ap length is ∙ fill_length 0 (n + 1) (gathered_start (entries_at text from)) starts ∙ size

    pub counted_again : counted ≡ fill_range 0 (n + 1) (gathered_start (entries_at text from)) counted
    counted_again =
        is
        ∙ sym (fill_over 0 (n + 1) (gathered_start (entries_at text from)) (gathered_start (entries_at text from)) starts)
        ∙ ap (fill_range 0 (n + 1) (gathered_start (entries_at text from))) (sym is)

    counted-at : (i : ℕ) → i ≤ n → get_or counted i 0 ≡ gathered_start (entries_at text from) i
    counted-at i h =
        ap (λ (l : List ℕ). get_or l i 0) is
        ∙ fill_in 0 (n + 1) (gathered_start (entries_at text from)) starts i 0 (omega arith) (omega arith) (omega (arith, r.starts-room))

    pub counted_are : counted ≡ with_starts n (entries_at text from) starts
    counted_are =
        is ∙ fill_cong 0 (n + 1) (gathered_start (entries_at text from)) (start_of n (entries_at text from)) starts (λ i p q u. start-same n (entries_at text from) all-within all_distinct i)

    -- ---- the columns in file order

    module _ (columns filed : List ℕ) (room : length columns ≡ c)
        (filed_is : filed ≡ fill_range 0 (gathered_start (entries_at text from) n) (λ p. get_or (gathered_up_to (entries_at text from) n) p 0) columns) where
      filed_length : length filed ≡ c
      filed_length = ap length filed_is ∙ fill_length 0 (gathered_start (entries_at text from) n) (λ p. get_or (gathered_up_to (entries_at text from) n) p 0) columns ∙ room

      pub rows_start : (ends : List ℕ) → ends ≡ counted → RowStarts n ends (length filed)
      rows_start ends p =
          rows.starts_rise n (entries_at text from) ends (length filed) (omega (arith, ap length p, counted-length, r.starts-room))
          (λ i h. ap (λ (l : List ℕ). get_or l i 0) p ∙ counted-at i h) (columns_fit (length filed) filed_length)

      pub columns_sorted : (ends sorted : List ℕ) → ends ≡ counted → RowsRise n ends filed sorted → sorted ≡ with_columns n (entries_at text from) columns
      columns_sorted ends sorted p h =
          rows.sorted_are (record {
            within = all-within;
            distinct = all_distinct;
            starts_are = λ i q. ap (λ (l : List ℕ). get_or l i 0) p ∙ counted-at i q;
            room = columns_fit (length columns) room;
            filed_is = filed_is;
            sorted_is = h;
          })
