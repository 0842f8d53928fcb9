-- The definitions at work, by computing: texts, and what the readers find in them. Assumes nothing.
use mathlib.Core.Path.{◌≡◌, refl}
use mathlib.Core.List.{List, [], ◌∷◌}
use Prim.Native.Nat.{ℕ, ◌^◌, ◌-◌}
use Rattle.digits.specs.Digits.{decimal_of, decimal, hex_digit, hex_of, hex, is_digit, value_from, is_hex, hex_value, hex_from, every, digits_of}
use Rattle.digits.specs.ReadDecimal.{some_number, plain, read_decimal}
use Rattle.digits.specs.ReadHex.{read_hex}
use Rattle.std.specs.Prelude.{None}

-- `0`, `10` and `18446744073709551615`
zero-text : decimal 0 ≡ 48 ∷ []
unfolding decimal_of
zero-text = refl

ten_text : decimal 10 ≡ 49 ∷ 48 ∷ []
unfolding decimal_of
ten_text = refl

largest-text : decimal (2 ^ 64 - 1)
    ≡ 49 ∷ 56 ∷ 52 ∷ 52 ∷ 54 ∷ 55 ∷ 52 ∷ 52 ∷ 48 ∷ 55 ∷ 51 ∷ 55 ∷ 48 ∷ 57 ∷ 53 ∷ 53 ∷ 49 ∷ 54 ∷ 49 ∷ 53 ∷ []
unfolding decimal_of
largest-text = refl

-- document 01's `seed_std=3f1a36e2eb1c432d`
seed-text : List ℕ
seed-text = 51 ∷ 102 ∷ 49 ∷ 97 ∷ 51 ∷ 54 ∷ 101 ∷ 50 ∷ 101 ∷ 98 ∷ 49 ∷ 99 ∷ 52 ∷ 51 ∷ 50 ∷ 100 ∷ []

seed-hex : hex 0x3f1a36e2eb1c432d ≡ seed-text
unfolding hex_of hex_digit seed-text
seed-hex = refl

seed_read : read_hex seed-text 0 ≡ some_number 0x3f1a36e2eb1c432d 16
unfolding read_hex every is_hex is_digit hex_from hex_value seed-text
seed_read = refl

-- `12,` is 12; of `12` up to 11 nothing is taken; `07` is wrong, `0` is not; past the end nothing is
twelve : read_decimal (49 ∷ 50 ∷ 44 ∷ []) 0 12 ≡ some_number 12 2
unfolding read_decimal plain digits_of is_digit value_from
twelve = refl

over : read_decimal (49 ∷ 50 ∷ []) 0 11 ≡ None
unfolding read_decimal plain digits_of is_digit value_from
over = refl

leading : read_decimal (48 ∷ 55 ∷ []) 0 100 ≡ None
unfolding read_decimal plain digits_of is_digit value_from
leading = refl

lone : read_decimal (61 ∷ 48 ∷ []) 1 0 ≡ some_number 0 2
unfolding read_decimal plain digits_of is_digit value_from
lone = refl

past : read_decimal (49 ∷ []) 2 100 ≡ None
unfolding read_decimal plain digits_of is_digit value_from
past = refl
