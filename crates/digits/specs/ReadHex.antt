-- What the reader of hex bits finds, on any bytes. Definitions only.
use Rattle.std.specs.Prelude.{cond, ◌&&◌, Option, None, List, ◌≡◌, ℕ, ◌+◌, ◌≤◌, leb, length, take, drop}
use Rattle.digits.specs.Digits.{hex, part, every, is_hex, hex_from}
use Rattle.digits.specs.ReadDecimal.{some_number}
use Rattle.digits.specs.declared.Number.{Number}

-- the 16 bytes at `from`, if so many are there and each is a lower-case hex digit
unfoldable pub read_hex : List ℕ → ℕ → Option Number
read_hex bytes from =
    cond (leb (from + 16) (length bytes) && every is_hex (take 16 (drop from bytes)))
    (some_number (hex_from 0 (take 16 (drop from bytes))) (from + 16))
    None

-- the same said without a reader: the hex of v stands from `from` up to `next`
pub record HexStands (bytes : List ℕ) (from v next : ℕ) : Type 0 where
  pub inside : next ≤ length bytes
  pub starts : from ≤ next
  pub text : part from next bytes ≡ hex v
