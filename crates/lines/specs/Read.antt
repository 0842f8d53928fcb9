-- What the readers of lines answer. Definitions only.
use Rattle.std.specs.Prelude.{true, List, ◌∷◌, ◌≡◌, ℕ, ◌≤◌, ◌<◌, length, drop}
use Rattle.lines.specs.Lines.{lines_of}
use Rattle.lines.specs.Kinds.{kinds_at}
use Rattle.lines.specs.Banner.{is_banner}
use Rattle.lines.specs.declared.LineRead.{LineRead}
use Rattle.lines.specs.declared.BannerRead.{BannerRead}

-- the line that begins at `at`, and the place where the next one begins
pub record ReadsLine (text : List ℕ) (at : ℕ) (r : LineRead) : Type 0 where
  pub lines : kinds_at text at ≡ r.kind ∷ kinds_at text r.next
  pub on : at < r.next
  pub within : r.next ≤ length text

-- the first line; of an empty text it is no banner
pub record ReadsBanner (text : List ℕ) (r : BannerRead) : Type 0 where
  pub line : List ℕ
  pub lines : 1 ≤ length text → lines_of text ≡ line ∷ lines_of (drop r.next text)
  pub right : r.is_right ≡ is_banner line
  pub within : r.next ≤ length text
  pub on : is_banner line ≡ true → 2 ≤ r.next
