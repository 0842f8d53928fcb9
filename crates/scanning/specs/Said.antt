-- What the scans answer. Definitions only.
use Rattle.std.specs.Prelude.{true, List, [], ◌≡◌, ℕ, ◌≤◌, Result, Ok, Err, length}
use Rattle.lines.specs.Lines.{lines_of}
use Rattle.lines.specs.Kinds.{kinds_at}
use Rattle.market.specs.Market.{Head, sized, wrong, head_of}
use Rattle.market.specs.Passes.{Stop, stop, scan_from, repeat_from}
use Rattle.scanning.specs.declared.HeadRead.{HeadRead}
use Rattle.scanning.specs.declared.Scanned.{Scanned}

-- the head that an answer tells of, the place behind its size line, and the number of the line there
abbrev pub head_told : List ℕ → Result HeadRead ℕ → Head
head_told text (Ok h) = sized h.n h.m h.line (kinds_at text h.at)
head_told text (Err k) = wrong k

abbrev pub end_told : Result HeadRead ℕ → ℕ
end_told (Ok h) = h.at
end_told (Err k) = 0

abbrev pub line_told : Result HeadRead ℕ → ℕ
line_told (Ok h) = h.line
line_told (Err k) = 0

pub record ReadsHead (text : List ℕ) (r : Result HeadRead ℕ) : Type 0 where
  pub is : head_of (lines_of text) ≡ head_told text r
  pub within : end_told r ≤ length text
  pub line : line_told r ≤ end_told r

-- where line `first` begins: each line before it has a byte at least
pub record Place (text : List ℕ) (from first : ℕ) : Type 0 where
  pub within : from ≤ length text
  pub line : first ≤ from

abbrev pub stop_told : Scanned → Stop
stop_told r = stop r.is_right r.line r.entries r.doubles

-- all of a file behind its size line; where its entries rise, none repeats
pub record Scans (text : List ℕ) (from first n m : ℕ) (r : Scanned) : Type 0 where
  pub is : stop_told r ≡ scan_from n m 0 0 first (kinds_at text from)
  pub rising : r.rising ≡ true → repeat_from [] first r.line (kinds_at text from) ≡ r.line
  pub few : r.entries ≤ length text
  pub doubled : r.doubles ≤ r.entries
