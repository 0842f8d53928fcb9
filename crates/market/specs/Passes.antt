-- What the passes over the text find, each by itself; proofs.Passes shows that together they are the definition. Definitions only.
use Rattle.std.specs.Prelude.{Bool, false, cond, List, [], ◌∷◌, ◌++◌, ℕ, zero, suc, ◌+◌, ◌-◌, ◌≤◌, eqb, leb, ltb, length}
use Rattle.definition.specs.Numbers.{rows_most, entries_most}
use Rattle.lines.specs.declared.Kind.{Kind}
use Rattle.lines.specs.declared.Kind.TheVariants as K
use Rattle.market.specs.Market.{Entry, has, Read, market, fault, inside}

-- ---- a pass that does not look for repeats

-- whether all is right, the line at fault or the one behind the last, the entries before it, and those of them off the diagonal
pub record Stop : Type 0 where
  pub right : Bool
  pub line : ℕ
  pub entries : ℕ
  pub doubles : ℕ

abbrev pub stop : Bool → ℕ → ℕ → ℕ → Stop
stop right line entries doubles = record { right = right; line = line; entries = entries; doubles = doubles }

-- one more off the diagonal
unfoldable pub doubles_with : ℕ → ℕ → ℕ → ℕ
doubles_with d r c = cond (eqb r c) d (suc d)

-- from line k on, with e entries before it, d of them off the diagonal
unfoldable pub scan_from : ℕ → ℕ → ℕ → ℕ → ℕ → List Kind → Stop
scan_from n m e d k [] = stop (eqb e m) k e d
scan_from n m e d k (K.Blank ∷ ks) = scan_from n m e d (suc k) ks
scan_from n m e d k (K.Comment ∷ ks) = stop false k e d
scan_from n m e d k (K.Entry r c ∷ ks) = cond (inside n m e r c) (scan_from n m (suc e) (doubles_with d r c) (suc k) ks) (stop false k e d)
scan_from n m e d k (K.Size r c s ∷ ks) = stop false k e d
scan_from n m e d k (K.Other ∷ ks) = stop false k e d

-- ---- repeats

-- from line k on, up to line `limit`: the first line whose entry is one of those seen or of those before it; or `limit`
unfoldable pub repeat_from : List Entry → ℕ → ℕ → List Kind → ℕ
repeat_from seen k limit [] = limit
repeat_from seen k limit (K.Blank ∷ ks) = cond (leb limit k) limit (repeat_from seen (suc k) limit ks)
repeat_from seen k limit (K.Comment ∷ ks) = cond (leb limit k) limit (repeat_from seen (suc k) limit ks)
repeat_from seen k limit (K.Entry r c ∷ ks) =
    cond (leb limit k) limit (cond (has seen r c) k (repeat_from (seen ++ (record { row = r; column = c } ∷ [])) (suc k) limit ks))
repeat_from seen k limit (K.Size r c m ∷ ks) = cond (leb limit k) limit (repeat_from seen (suc k) limit ks)
repeat_from seen k limit (K.Other ∷ ks) = cond (leb limit k) limit (repeat_from seen (suc k) limit ks)

-- ---- the entries in file order

unfoldable pub entries_in : List Kind → List Entry
entries_in [] = []
entries_in (K.Blank ∷ ks) = entries_in ks
entries_in (K.Comment ∷ ks) = entries_in ks
entries_in (K.Entry r c ∷ ks) = record { row = r; column = c } ∷ entries_in ks
entries_in (K.Size r c m ∷ ks) = entries_in ks
entries_in (K.Other ∷ ks) = entries_in ks

-- both passes together
unfoldable pub read_by : ℕ → Stop → ℕ → List Entry → Read
read_by n s again es = cond (ltb again s.line) (fault again) (cond s.right (market n es) (fault s.line))

-- each entry is in the lower triangle of n rows
unfoldable pub Within : ℕ → List Entry → Type 0
Within n [] = Unit
Within n (e ∷ es) = (1 ≤ e.column) × (e.column ≤ e.row) × (e.row ≤ n) × Within n es

-- ---- rows in file order

-- what an entry puts into row i, counted from 0: its column into its own row, and off the diagonal its row into its column's
unfoldable pub touch : ℕ → Entry → List ℕ
touch i e = cond (eqb e.row (suc i)) ((e.column - 1) ∷ []) (cond (eqb e.column (suc i)) ((e.row - 1) ∷ []) [])

unfoldable pub neighbours : ℕ → List Entry → List ℕ
neighbours i [] = []
neighbours i (e ∷ es) = touch i e ++ neighbours i es

-- the first i rows so, one behind the other, and where row i starts
unfoldable pub gathered_up_to : List Entry → ℕ → List ℕ
gathered_up_to es zero = []
gathered_up_to es (suc i) = gathered_up_to es i ++ neighbours i es

unfoldable pub gathered_start : List Entry → ℕ → ℕ
gathered_start es i = length (gathered_up_to es i)

-- what placing asks: entries in the triangle, a graph within the limits, and room for it
pub record Placeable (n : ℕ) (es : List Entry) (starts columns : ℕ) : Type 0 where
  pub within : Within n es
  pub rows : n ≤ rows_most
  pub placed : gathered_start es n ≤ entries_most
  pub starts-room : n + 1 ≤ starts
  pub columns-room : gathered_start es n ≤ columns
