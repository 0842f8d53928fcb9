-- Which lines are a Matrix Market file, and which line is the first at fault, said without a reader. Definitions only; proofs/ shows that
-- market's `read_market` finds just that.
use Rattle.std.specs.Prelude.{true, false, List, [], ◌∷◌, ◌++◌, ◌⊎◌, ◌≡◌, ℕ, ◌+◌, ◌-◌, ◌*◌, ◌≤◌, length, take}
use Rattle.lines.specs.Lines.{lines_of}
use Rattle.lines.specs.Kinds.{kind_of, kinds_of}
use Rattle.lines.specs.Banner.{is_banner}
use Rattle.lines.specs.declared.Kind.{Kind}
use Rattle.lines.specs.declared.Kind.TheVariants as K
use Rattle.market.specs.Market.{Entry, has}
use Rattle.market.specs.Passes.{entries_in, Within}

-- ---- a file

-- lines that may stand between the banner and the size line, and lines that may stand behind the size line
unfoldable pub InHead : Kind → Type 0
InHead K.Blank = Unit
InHead K.Comment = Unit
InHead (K.Entry r c) = ⊥
InHead (K.Size r c m) = ⊥
InHead K.Other = ⊥

unfoldable pub InBody : Kind → Type 0
InBody K.Blank = Unit
InBody K.Comment = ⊥
InBody (K.Entry r c) = Unit
InBody (K.Size r c m) = ⊥
InBody K.Other = ⊥

unfoldable pub Each : (Kind → Type 0) → List Kind → Type 0
Each P [] = Unit
Each P (k ∷ ks) = P k × Each P ks

-- no entry is one of those behind it
unfoldable pub NoRepeats : List Entry → Type 0
NoRepeats [] = Unit
NoRepeats (e ∷ es) = (has es e.row e.column ≡ false) × NoRepeats es

-- these lines are a file of n rows with these entries: a banner, comments and blank lines, the size line, then entries and blank lines
pub record IsMarket (ls : List (List ℕ)) (n : ℕ) (es : List Entry) : Type 0 where
  pub banner : List ℕ
  pub head : List (List ℕ)
  pub size : List ℕ
  pub body : List (List ℕ)
  pub lines : ls ≡ banner ∷ (head ++ (size ∷ body))
  pub is-banner : is_banner banner ≡ true
  pub in_head : Each InHead (kinds_of head)
  pub is-size : kind_of size ≡ K.Size n n (length es)
  pub not_too_many : 2 * length es ≤ n * (n + 1)
  pub in_body : Each InBody (kinds_of body)
  pub entries : entries_in (kinds_of body) ≡ es
  pub within : Within n es
  pub no_repeats : NoRepeats es

-- ---- the first line at fault

-- these lines are a beginning of such a file: the first lines of a text that is one
pub record Begins (ls : List (List ℕ)) : Type 0 where
  pub text : List ℕ
  pub more : List (List ℕ)
  pub rows : ℕ
  pub entries : List Entry
  pub lines : lines_of text ≡ ls ++ more
  pub is-market : IsMarket (lines_of text) rows entries

-- "The first line at fault is the first line such that the file up to and with it is no beginning of such a file", and for too few entries
-- "the line that is missing", just behind the last. proofs/Cases has what is said of an empty file and of a repeated entry
pub record FirstFault (ls : List (List ℕ)) (k : ℕ) : Type 0 where
  pub counted : 1 ≤ k
  pub near : k - 1 ≤ length ls
  pub before : Begins (take (k - 1) ls)
  pub here : ((k ≤ length ls) × (Begins (take k ls) → ⊥)) ⊎ ((k ≡ length ls + 1) × ((n : ℕ) (es : List Entry) → IsMarket ls n es → ⊥))
