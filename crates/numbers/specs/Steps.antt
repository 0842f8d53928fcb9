-- What the functions below `root` ensure, at binary64. Assumes nothing.
use Rattle.std.specs.Prelude.{◌≡◌, ℕ, ◌+◌, ◌-◌, ◌*◌, ◌/◌, ◌^◌, ◌<◌, ◌≤◌, false, from_bits}
use Rattle.std.specs.Float.{binary64}
use Rattle.std.specs.Float.Ieee.{low}
use Rattle.std.specs.Float.Ieee.Exact.{HasValue}
use Rattle.definition.specs.Root.{Root}

-- the significand has 53 digits, and e is an exponent of the squares of the smallest value
pub record Normal (sig e : ℕ) : Type 0 where
  pub least : 2 ^ 52 ≤ sig
  pub most : sig < 2 ^ 53
  pub low_end : 1022 ≤ e
  pub high_end : e ≤ 3119

-- the value of the bits is sig * 2 ^ e squares of the smallest value
pub record Split (bits sig e : ℕ) : Type 0 where
  pub normal : Normal sig e
  pub value : HasValue (from_bits binary64 bits) false (sig * 2 ^ e) (2 ^ low binary64 * 2 ^ low binary64)

-- a * 2 ^ 52 and 2 * (e / 2 - 26) are the same number with an even exponent
pub record Radicand (sig e a : ℕ) : Type 0 where
  pub least : 2 ^ 52 ≤ a
  pub most : a + 2 ≤ 2 ^ 54
  pub value : a * 2 ^ 52 * 2 ^ (2 * (e / 2 - 26)) ≡ sig * 2 ^ e

-- q and r are the root of x without its fraction, and what its square leaves
pub record Floored (x q r : ℕ) : Type 0 where
  pub whole : q * q + r ≡ x
  pub rest : r ≤ 2 * q

-- a root s of at most 27 digits, with the rest r, that one division makes longer by the digits of a base: those of s are no fewer
pub record Lengthens (s r base low : ℕ) : Type 0 where
  pub rest : r ≤ 2 * s
  pub few : s < 2 ^ 27
  pub some : 0 < base
  pub most : base ≤ 2 ^ 26
  pub no_more : base ≤ 2 * s
  pub below : low < base * base

-- r is the pattern of the root of the value of the bits
pub record Patterned (bits r : ℕ) : Type 0 where
  pub finite : r < 0x7ff0_0000_0000_0000
  pub root : Root binary64 (from_bits binary64 bits) (from_bits binary64 r)
