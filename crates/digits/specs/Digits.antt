-- Numbers as text, bytes as numbers: decimals without leading zeros, and lower-case hex of a fixed width. Definitions only.
use Rattle.std.specs.Prelude.{Bool, true, cond, ◌&&◌, ◌||◌, List, [], ◌∷◌, ◌++◌, ℕ, zero, suc, ◌+◌, ◌-◌, ◌*◌, ◌/◌, ◌%◌, leb, ltb, take, drop}

-- ---- a number's text

-- the decimal of n, with at most m digits
unfoldable pub decimal_of : ℕ → ℕ → List ℕ
decimal_of zero n = []
decimal_of (suc m) n = cond (ltb n 10) ((48 + n) ∷ []) (decimal_of m (n / 10) ++ ((48 + n % 10) ∷ []))

-- 20 digits hold every number below 2^64
abbrev pub decimal : ℕ → List ℕ
decimal n = decimal_of 20 n

-- the byte of a hex digit, 0 to 15: `0` to `9`, then `a` to `f`
unfoldable pub hex_digit : ℕ → ℕ
hex_digit d = cond (ltb d 10) (48 + d) (87 + d)

-- the m lowest hex digits of n, highest first
unfoldable pub hex_of : ℕ → ℕ → List ℕ
hex_of zero n = []
hex_of (suc m) n = hex_of m (n / 16) ++ (hex_digit (n % 16) ∷ [])

-- 16 digits hold every number below 2^64
abbrev pub hex : ℕ → List ℕ
hex n = hex_of 16 n

-- ---- a text's number

-- a byte from `0` to `9`
unfoldable pub is_digit : ℕ → Bool
is_digit b = leb 48 b && leb b 57

-- the number of some decimal digits that follow on the number v
unfoldable pub value_from : ℕ → List ℕ → ℕ
value_from v [] = v
value_from v (b ∷ bs) = value_from (v * 10 + (b - 48)) bs

-- a byte from `0` to `9` or from `a` to `f`
unfoldable pub is_hex : ℕ → Bool
is_hex b = is_digit b || (leb 97 b && leb b 102)

-- the digit that such a byte stands for
unfoldable pub hex_value : ℕ → ℕ
hex_value b = cond (leb b 57) (b - 48) (b - 87)

-- the number of some hex digits that follow on the number v
unfoldable pub hex_from : ℕ → List ℕ → ℕ
hex_from v [] = v
hex_from v (b ∷ bs) = hex_from (v * 16 + hex_value b) bs

-- ---- lists of bytes

-- the bytes from `from` up to `next`
abbrev pub part : ℕ → ℕ → List ℕ → List ℕ
part from next bytes = take (next - from) (drop from bytes)

-- each byte passes the test
unfoldable pub every : (ℕ → Bool) → List ℕ → Bool
every f [] = true
every f (b ∷ bs) = f b && every f bs

-- the digits at the front: the longest run
unfoldable pub digits_of : List ℕ → List ℕ
digits_of [] = []
digits_of (b ∷ bs) = cond (is_digit b) (b ∷ digits_of bs) []
