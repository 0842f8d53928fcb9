-- What the reader of a line finds at a place, on any bytes. Definitions only; proofs.Lines shows it sound and complete.
use Rattle.std.specs.Prelude.{Bool, true, cond, ◌&&◌, Option, Some, None, List, [], ◌∷◌, ℕ, zero, suc, ◌+◌, eqb, length, get_or}
use Rattle.digits.specs.ReadDecimal.{read_decimal}
use Rattle.digits.specs.ReadHex.{read_hex}
use Rattle.digits.specs.declared.Number.{Number}
use Rattle.reading.specs.Grammar.{Line}

-- the numbers of a line and the place behind it
pub data Found : Type 0 where
  found : List ℕ → ℕ → Found
  none : Found

-- one number
abbrev pub number_at : Line → List ℕ → ℕ → Option Number
number_at l bytes at = cond l.in_hex (read_hex bytes at) (read_decimal bytes at l.largest)

-- with a number before
abbrev pub before : ℕ → Found → Found
before v (found vs next) = found (v ∷ vs) next
before v none = none

abbrev pub on_number : Option Number → (ℕ → ℕ → Found) → Found
on_number (Some n) go = go n.value n.next
on_number None go = none

-- at least one number and at most `room`, by commas, up to a newline; behind the end of the bytes stand zeros
unfoldable pub numbers_from : Line → List ℕ → ℕ → ℕ → Found
numbers_from l bytes at zero = none
numbers_from l bytes at (suc room) =
    on_number (number_at l bytes at)
    (λ v next. cond (eqb (get_or bytes next 0) 10) (found (v ∷ []) (next + 1))
    (cond (eqb (get_or bytes next 0) 44) (before v (numbers_from l bytes (next + 1) room)) none))

abbrev pub list_from : Line → List ℕ → ℕ → Found
list_from l bytes at =
    cond (eqb (get_or bytes at 0) 10) (cond (eqb l.fewest 0) (found [] (at + 1)) none) (numbers_from l bytes at l.most)

-- the name stands at `at`
unfoldable pub stands_at : List ℕ → List ℕ → ℕ → Bool
stands_at [] bytes at = true
stands_at (b ∷ bs) bytes at = eqb (get_or bytes at 0) b && stands_at bs bytes (at + 1)

unfoldable pub line_from : Line → List ℕ → ℕ → Found
line_from l bytes from = cond (stands_at l.name bytes from) (list_from l bytes (from + length l.name)) none
