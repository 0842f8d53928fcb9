-- Which lines are a Matrix Market file (coordinate, pattern, symmetric), and the first line at fault where they are none. Definitions only;
-- the crate grammar says the same without a reader.
use Rattle.std.specs.Prelude.{Bool, false, cond, not, ◌&&◌, ◌||◌, List, [], ◌∷◌, ◌++◌, ℕ, suc, ◌+◌, ◌*◌, eqb, leb, ltb, length}
use Rattle.lines.specs.Lines.{lines_of}
use Rattle.lines.specs.Kinds.{kinds_of}
use Rattle.lines.specs.Banner.{is_banner}
use Rattle.lines.specs.declared.Kind.{Kind}
use Rattle.lines.specs.declared.Kind.TheVariants as K

-- an entry: its row and its column, counted from 1
pub record Entry : Type 0 where
  pub row : ℕ
  pub column : ℕ

-- whether the entry of row r and column c is among some
abbrev pub is : Entry → ℕ → ℕ → Bool
is e r c = eqb e.row r && eqb e.column c

unfoldable pub has : List Entry → ℕ → ℕ → Bool
has [] r c = false
has (e ∷ es) r c = is e r c || has es r c

-- a file's rows and its entries in file order, or the line at fault
pub data Read : Type 0 where
  market : ℕ → List Entry → Read
  fault : ℕ → Read

-- ---- behind the size line

-- "each entry's row is at least its column and at most n, its column at least 1, there are exactly as many entries as the size line says"
unfoldable pub inside : ℕ → ℕ → ℕ → ℕ → ℕ → Bool
inside n m count r c = ltb count m && (leb 1 c && (leb c r && leb r n))

-- from line k on, with what was seen before it: entry after entry, "and none repeats"
unfoldable pub body : ℕ → ℕ → List Entry → ℕ → List Kind → Read
body n m seen k [] = cond (eqb (length seen) m) (market n seen) (fault k)
body n m seen k (K.Blank ∷ ks) = body n m seen (suc k) ks
body n m seen k (K.Comment ∷ ks) = fault k
body n m seen k (K.Entry r c ∷ ks) =
    cond (inside n m (length seen) r c && not (has seen r c)) (body n m (seen ++ (record { row = r; column = c } ∷ [])) (suc k) ks) (fault k)
body n m seen k (K.Size r c e ∷ ks) = fault k
body n m seen k (K.Other ∷ ks) = fault k

-- ---- up to the size line

-- rows and entries, the number of the next line and what stands from it on; or the line at fault
pub data Head : Type 0 where
  sized : ℕ → ℕ → ℕ → List Kind → Head
  wrong : ℕ → Head

-- "Rows and columns are equal in number", and no "more than n (n + 1) / 2 entries"
unfoldable pub right_size : ℕ → ℕ → ℕ → Bool
right_size r c m = eqb r c && leb (2 * m) (r * (r + 1))

-- from line k on: comments and blank lines, then the size line
unfoldable pub head_from : ℕ → List Kind → Head
head_from k [] = wrong k
head_from k (K.Blank ∷ ks) = head_from (suc k) ks
head_from k (K.Comment ∷ ks) = head_from (suc k) ks
head_from k (K.Entry r c ∷ ks) = wrong k
head_from k (K.Size r c m ∷ ks) = cond (right_size r c m) (sized r m (suc k) ks) (wrong k)
head_from k (K.Other ∷ ks) = wrong k

unfoldable pub head_of : List (List ℕ) → Head
head_of [] = wrong 1
head_of (l ∷ ls) = cond (is_banner l) (head_from 2 (kinds_of ls)) (wrong 1)

abbrev pub on_head : Head → Read
on_head (sized n m k ks) = body n m [] k ks
on_head (wrong k) = fault k

unfoldable pub read_market : List ℕ → Read
read_market text = on_head (head_of (lines_of text))
