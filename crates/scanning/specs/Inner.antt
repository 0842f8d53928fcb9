-- What the inner functions answer. Definitions only.
use Rattle.std.specs.Prelude.{Bool, cond, ◌&&◌, ◌||◌, List, ◌≡◌, ℕ, suc, ◌≤◌, Result, eqb, ltb, length}
use Rattle.lines.specs.Kinds.{kinds_at}
use Rattle.market.specs.Market.{head_from}
use Rattle.market.specs.Passes.{doubles_with}
use Rattle.scanning.specs.Said.{head_told, end_told, line_told}
use Rattle.scanning.specs.declared.HeadRead.{HeadRead}
use Rattle.scanning.specs.declared.Passed.{Passed}
use Rattle.scanning.specs.declared.Scanned.{Scanned}

-- from line 2, which begins at `from`, up to the size line
pub record FindsSize (text : List ℕ) (from : ℕ) (r : Result HeadRead ℕ) : Type 0 where
  pub is : head_from 2 (kinds_at text from) ≡ head_told text r
  pub within : end_told r ≤ length text
  pub line : line_told r ≤ end_told r

-- the pair (a, b) comes before (c, d)
unfoldable pub is_before : ℕ → ℕ → ℕ → ℕ → Bool
is_before a b c d = cond (eqb a c) (ltb b d) (ltb a c)

-- so few entries that one more can be counted: a text has fewer bytes
pub record Few (p : Passed) : Type 0 where
  pub entries : p.entries ≤ 0xffff_ffff_ffff_fffe
  pub doubles : p.doubles ≤ p.entries

-- one more entry, of row r and column c
pub record WithEntry (p : Passed) (r c : ℕ) (q : Passed) : Type 0 where
  pub entries : q.entries ≡ suc p.entries
  pub doubles : q.doubles ≡ doubles_with p.doubles r c
  pub row : q.row ≡ r
  pub column : q.column ≡ c
  pub by_rows : q.by_rows ≡ (p.by_rows && is_before p.row p.column r c)
  pub by-columns : q.by_columns ≡ (p.by_columns && is_before p.column p.row c r)

-- what a stop tells of the entries before it
pub record Stopped (p : Passed) (is_right : Bool) (k : ℕ) (r : Scanned) : Type 0 where
  pub right : r.is_right ≡ is_right
  pub line : r.line ≡ k
  pub entries : r.entries ≡ p.entries
  pub doubles : r.doubles ≡ p.doubles
  pub rising : r.rising ≡ (p.by_rows || p.by_columns)
