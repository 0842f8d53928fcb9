-- `splitmix_unit`: the number of the start block at an index. Definitions only.
use Rattle.std.specs.Prelude.{ℕ, ◌+◌, ◌*◌, ◌/◌, ◌%◌, ◌^◌, pos, Float}
use Rattle.std.specs.Int.Bits.{bit_xor}
use Rattle.std.specs.Float.{binary64}
use Rattle.std.specs.Float.Ieee.{of_bits, of_int, div, sub}

-- sums and products keep their low 64 bits
unfoldable pub wrap_add : ℕ → ℕ → ℕ
wrap_add a b = (a + b) % 2 ^ 64

unfoldable pub wrap_mul : ℕ → ℕ → ℕ
wrap_mul a b = a * b % 2 ^ 64

-- z xor z >> k
abbrev pub stir : ℕ → ℕ → ℕ
stir z k = bit_xor z (z / 2 ^ k)

-- the 64 bits for an index
unfoldable pub mixed : ℕ → ℕ
mixed i =
    let z₀ = wrap_add i 0x9e37_79b9_7f4a_7c15 in
    let z₁ = wrap_mul (stir z₀ 30) 0xbf58_476d_1ce4_e5b9 in
    let z₂ = wrap_mul (stir z₁ 27) 0x94d0_49bb_1331_11eb in
    stir z₂ 31

-- w / 2^53 - 0.5
unfoldable pub unit_of : ℕ → Float
unit_of w = sub binary64 (div binary64 (of_int binary64 (pos w)) (of_bits binary64 0x4340_0000_0000_0000)) (of_bits binary64 0x3fe0_0000_0000_0000)

unfoldable pub splitmix_unit : ℕ → Float
splitmix_unit i = unit_of (mixed i / 2 ^ 11)
