-- What the reader of decimals finds, on any bytes. Definitions only.
use Rattle.std.specs.Prelude.{Bool, true, false, cond, not, Option, Some, None, List, [], ◌∷◌, ◌≡◌, ℕ, ◌+◌, ◌≤◌, eqb, leb, length, get_or, drop}
use Rattle.digits.specs.Digits.{decimal, part, is_digit, digits_of, value_from}
use Rattle.digits.specs.declared.Number.{Number}

-- a number was found, and the place behind it
abbrev pub some_number : ℕ → ℕ → Option Number
some_number v next = Some (record { value = v; next = next })

-- some digits, and a first `0` only if it stands alone
unfoldable pub plain : List ℕ → Bool
plain [] = false
plain (d ∷ []) = true
plain (d ∷ e ∷ es) = not (eqb d 48)

-- the number of the digits ds, which stand at `from`, if it is at most `most`
abbrev pub up_to : ℕ → List ℕ → ℕ → Option Number
up_to most ds from = cond (leb (value_from 0 ds) most) (some_number (value_from 0 ds) (from + length ds)) None

-- the longest run of digits at `from`
abbrev pub digits_at : List ℕ → ℕ → List ℕ
digits_at bytes from = digits_of (drop from bytes)

unfoldable pub read_decimal : List ℕ → ℕ → ℕ → Option Number
read_decimal bytes from most = cond (plain (digits_at bytes from)) (up_to most (digits_at bytes from) from) None

-- the same said without a reader: the decimal of v stands from `from` up to `next`, v is at most `most`, and no digit follows
pub record DecimalStands (bytes : List ℕ) (from most v next : ℕ) : Type 0 where
  pub inside : next ≤ length bytes
  pub starts : from ≤ next
  pub text : part from next bytes ≡ decimal v
  pub small : v ≤ most
  pub ends : is_digit (get_or bytes next 0) ≡ false
