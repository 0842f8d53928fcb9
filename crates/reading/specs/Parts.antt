-- What the inner functions of the reader answer. Definitions only.
use Rattle.std.specs.Prelude.{Bool, true, false, cond, Option, Some, None, Result, Ok, Err, List, ◌++◌, ◌≡◌, ℕ, ◌≤◌, eqb, length, drop}
use Rattle.digits.specs.declared.Number.{Number}
use Rattle.reading.specs.Grammar.{Line, largest64, bytes_most, columns_line, values_line}
use Rattle.reading.specs.ReadLine.{Found, found, none, line_from}
use Rattle.reading.specs.ReadRun.{Read, run, fault, on_line, one, read_lines, read_lists}
use Rattle.reading.specs.declared.Kind.{Kind}
use Rattle.reading.specs.declared.Kind.TheVariants.{UpTo, Bits}
use Rattle.reading.specs.declared.Counted.{Counted}
use Rattle.reading.specs.declared.Head.{Head}

-- whether the numbers of a kind are hex, and the largest
abbrev pub kind_in_hex : Kind → Bool
kind_in_hex (UpTo m) = false
kind_in_hex Bits = true

abbrev pub kind_largest : Kind → ℕ
kind_largest (UpTo m) = m
kind_largest Bits = largest64

-- a line by its fields
abbrev pub line_of : List ℕ → Kind → ℕ → ℕ → Line
line_of name kind fewest most = record { name = name; in_hex = kind_in_hex kind; largest = kind_largest kind; fewest = fewest; most = most }

-- how many numbers a line has, and the place behind it
abbrev pub list_of : Found → Option Counted
list_of (found vs next) = Some (record { count = length vs; next = next })
list_of none = None

-- the numbers stand at the front of the lent memory, and behind them it is as it was; where the line is wrong, nothing is said
pub record Reads (f : Found) (before : List ℕ) (answer : Option Counted) (after : List ℕ) : Type 0 where
  pub answered : answer ≡ list_of f
  pub numbers : (vs : List ℕ) (next : ℕ) → f ≡ found vs next → after ≡ vs ++ drop (length vs) before

-- the only number of a line, and the place behind it
abbrev pub one_of : Found → Option Number
one_of (found vs next) = Some (record { value = one vs; next = next })
one_of none = None

-- what is found once lines 1 to 4 are read
abbrev pub on_head : List ℕ → Result Head ℕ → Read
on_head bytes (Ok head) = read_lists bytes head.d head.rounds head.degree head.seed head.next
on_head bytes (Err line) = fault line

-- the place behind them
abbrev pub head_end : Result Head ℕ → ℕ
head_end (Ok head) = head.next
head_end (Err line) = 0

pub record ReadsHead (bytes : List ℕ) (answer : Result Head ℕ) : Type 0 where
  pub is : read_lines bytes ≡ on_head bytes answer
  pub inside : head_end answer ≤ length bytes

-- what is found once lines 1 to 5 are read
unfoldable pub read_entries : List ℕ → ℕ → ℕ → ℕ → ℕ → List ℕ → ℕ → Read
read_entries bytes d rounds degree seed_std starts at =
    on_line (line_from columns_line bytes at) 6
    (λ columns at6. on_line (line_from values_line bytes at6) 7
    (λ values at7. cond (eqb at7 (length bytes))
    (run (record { d = d; rounds = rounds; degree = degree; seed_std = seed_std; starts = starts; columns = columns; values = values }))
    (fault 8)))

-- few enough bytes, and a place among them
pub record Inside (bytes : List ℕ) (at : ℕ) : Type 0 where
  pub small : length bytes ≤ bytes_most
  pub inside : at ≤ length bytes
