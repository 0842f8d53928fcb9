-- "The text program": which bytes are which run file. Definitions only.
use Rattle.std.specs.Prelude.{Bool, true, false, cond, List, [], ◌∷◌, ◌++◌, ◌≡◌, ℕ, zero, suc, ◌≤◌, ◌<◌, length, get_or}
use Rattle.digits.specs.Digits.{decimal, hex}

-- "at most 32 KiB, n to 64 and 1,024 entries"
abbrev pub bytes_most : ℕ
bytes_most = 32_768

abbrev pub starts_most : ℕ
starts_most = 65

abbrev pub entries_most : ℕ
entries_most = 1_024

-- W1: "`seedrun` takes at most 400 rounds from now", so that the Ritz record fits its memory
abbrev pub rounds_most : ℕ
rounds_most = 400

-- below 2^64, below 2^32
abbrev pub largest64 : ℕ
largest64 = 0xffff_ffff_ffff_ffff

abbrev pub largest32 : ℕ
largest32 = 0xffff_ffff

-- ---- a line: its name with its sign, whether its numbers are hex, the largest number, and how few and how many numbers it may have
pub record Line : Type 0 where
  pub name : List ℕ
  pub in_hex : Bool
  pub largest : ℕ
  pub fewest : ℕ
  pub most : ℕ

-- one decimal up to a largest, or one float as the hex of its bits
abbrev pub decimal_line : List ℕ → ℕ → Line
decimal_line name largest = record { name = name; in_hex = false; largest = largest; fewest = 1; most = 1 }

abbrev pub float_line : List ℕ → Line
float_line name = record { name = name; in_hex = true; largest = largest64; fewest = 1; most = 1 }

-- "d=", "rounds=", "degree=", "seed_std="; of these only the rounds have a size
abbrev pub d_line : Line
d_line = decimal_line (100 ∷ 61 ∷ []) largest64

abbrev pub rounds_line : Line
rounds_line = decimal_line (114 ∷ 111 ∷ 117 ∷ 110 ∷ 100 ∷ 115 ∷ 61 ∷ []) rounds_most

abbrev pub degree_line : Line
degree_line = decimal_line (100 ∷ 101 ∷ 103 ∷ 114 ∷ 101 ∷ 101 ∷ 61 ∷ []) largest64

abbrev pub seed_std_line : Line
seed_std_line = float_line (115 ∷ 101 ∷ 101 ∷ 100 ∷ 95 ∷ 115 ∷ 116 ∷ 100 ∷ 61 ∷ [])

-- "starts=", "columns=", "values="; a list may be empty
abbrev pub starts_line : Line
starts_line = record { name = 115 ∷ 116 ∷ 97 ∷ 114 ∷ 116 ∷ 115 ∷ 61 ∷ []; in_hex = false; largest = largest64; fewest = 0; most = starts_most }

abbrev pub columns_line : Line
columns_line = record { name = 99 ∷ 111 ∷ 108 ∷ 117 ∷ 109 ∷ 110 ∷ 115 ∷ 61 ∷ []; in_hex = false; largest = largest32; fewest = 0; most = entries_most }

abbrev pub values_line : Line
values_line = record { name = 118 ∷ 97 ∷ 108 ∷ 117 ∷ 101 ∷ 115 ∷ 61 ∷ []; in_hex = true; largest = largest64; fewest = 0; most = entries_most }

-- line i, from 0
abbrev pub lines : List Line
lines = d_line ∷ rounds_line ∷ degree_line ∷ seed_std_line ∷ starts_line ∷ columns_line ∷ values_line ∷ []

abbrev pub line_count : ℕ
line_count = 7

abbrev pub line_at : ℕ → Line
line_at i = get_or lines i d_line

-- ---- a line's bytes
abbrev pub number_text : Line → ℕ → List ℕ
number_text l v = cond l.in_hex (hex v) (decimal v)

-- by commas
unfoldable pub joined : Line → List ℕ → List ℕ
joined l [] = []
joined l (v ∷ []) = number_text l v
joined l (v ∷ w ∷ vs) = number_text l v ++ (44 ∷ joined l (w ∷ vs))

-- a newline ends each line
abbrev pub line_text : Line → List ℕ → List ℕ
line_text l vs = l.name ++ (joined l vs ++ (10 ∷ []))

-- the numbers that a line may have
pub record Right (l : Line) (vs : List ℕ) : Type 0 where
  pub fewest : l.fewest ≤ length vs
  pub most : length vs ≤ l.most
  pub largest : (i : ℕ) → i < length vs → get_or vs i 0 ≤ l.largest

-- ---- a run file: its numbers, floats as their bits
pub record RunNumbers : Type 0 where
  pub d : ℕ
  pub rounds : ℕ
  pub degree : ℕ
  pub seed_std : ℕ
  pub starts : List ℕ
  pub columns : List ℕ
  pub values : List ℕ

-- the numbers of line i, from 0
abbrev pub numbers_at : RunNumbers → ℕ → List ℕ
numbers_at f i = get_or ((f.d ∷ []) ∷ (f.rounds ∷ []) ∷ (f.degree ∷ []) ∷ (f.seed_std ∷ []) ∷ f.starts ∷ f.columns ∷ f.values ∷ []) i []

-- the first m lines are such that a run file may have them
abbrev pub RightLines : RunNumbers → ℕ → Type 0
RightLines f m = (i : ℕ) → i < m → Right (line_at i) (numbers_at f i)

-- their bytes
unfoldable pub text_up_to : RunNumbers → ℕ → List ℕ
text_up_to f zero = []
text_up_to f (suc i) = text_up_to f i ++ line_text (line_at i) (numbers_at f i)

-- these bytes are the run file with these numbers
pub record IsRun (bytes : List ℕ) (f : RunNumbers) : Type 0 where
  pub small : length bytes ≤ bytes_most
  pub right : RightLines f line_count
  pub text : bytes ≡ text_up_to f line_count
