-- Laws of `splitmix_unit`: both operations on the upper 53 bits are exact, and the result is from -0.5 up to and below 0.5. Assumes nothing.
use mathlib.Core.Path.{◌≡◌, refl, sym, ap, ◌∙◌, subst}
use mathlib.Core.Bool.{Bool, true, false}
use mathlib.Core.Logic.{inl, inr}
use Prim.Native.Nat.{ℕ, ◌+◌, ◌-◌, ◌*◌, ◌/◌, ◌%◌, ◌^◌, ◌≤◌, ◌<◌}
use native.Mathlib.Nat.{mod-lt, le_of_lt, lt_of_lt_of_le, lt_of_le_of_lt, mul-one, mul_assoc}
use native.Mathlib.Omega.{arith}
use lib.Dec.{T, le→leb, lit≤}
use lib.Pow.{pow-add, pow_pos, pow_mono, shl_lt, shr_lt, shr_le}
use lib.Bits.{bit_xor, xor_lt}
use lib.IntN.{pos}
use lib.Ieee.{Float, binary64, of_bits, in_float, round, of_int, div, sub, le, lt}
use lib.Ieee.Exact.{HasValue, round_exact}
use Rattle.definition.specs.SplitmixUnit.{wrap_add, wrap_mul, stir, mixed, unit_of, splitmix_unit}
use Rattle.definition.proofs.FloatOrder.{values-le, values-lt}
use Rattle.definition.proofs.Tests.{lt_or_ge}
use Rattle.definition.proofs.Exactly.{div-at, sub_less, sub_more}

-- ---- the bits
pub wrap_lt : (a b : ℕ) → wrap_mul a b < 2 ^ 64
unfolding wrap_mul
wrap_lt a b = mod-lt (a * b) (pow_pos 64)

pub stir-lt : (z k : ℕ) → z < 2 ^ 64 → stir z k < 2 ^ 64
stir-lt z k h = xor_lt 64 z (z / 2 ^ k) h (lt_of_le_of_lt (shr_small z k) h)
  where
    shr_small : (a j : ℕ) → a / 2 ^ j ≤ a
    shr_small a j = shr_le a j

pub mixed-lt : (i : ℕ) → mixed i < 2 ^ 64
unfolding mixed
mixed-lt i =
    let z₀ = wrap_add i 0x9e37_79b9_7f4a_7c15 in
    let z₁ = wrap_mul (stir z₀ 30) 0xbf58_476d_1ce4_e5b9 in
    stir-lt (wrap_mul (stir z₁ 27) 0x94d0_49bb_1331_11eb) 31 (wrap_lt (stir z₁ 27) 0x94d0_49bb_1331_11eb)

-- ---- the number
abbrev half : Float
half = of_bits binary64 0x3fe0_0000_0000_0000

abbrev minus_half : Float
minus_half = of_bits binary64 0xbfe0_0000_0000_0000

-- 2 ^ 53
abbrev scale : Float
scale = of_bits binary64 0x4340_0000_0000_0000

-- ---- it is exact
fine : (a j : ℕ) → 53 + j ≤ 1074 + 1024 → a < 2 ^ 53 → a * 2 ^ j < 2 ^ (1074 + 1024)
fine a j l k = lt_of_lt_of_le (shl_lt 53 j k) (pow_mono l)

-- q / 2 ^ 53 is a value of the format
exact : (s : Bool) (q : ℕ) → q < 2 ^ 53 → HasValue (round binary64 s q (2 ^ 53)) s q (2 ^ 53)
exact s q h = round_exact binary64 s q (2 ^ 53) q 1021 (pow_pos 53) h (fine q 1021 (lit≤ tt) h) (ap (λ (z : ℕ). q * z) (pow-add 2 1021 53) ∙ sym (mul_assoc q (2 ^ 1021) (2 ^ 53)))

whole : (w : ℕ) → w < 2 ^ 53 → HasValue (of_int binary64 (pos w)) false w 1
unfolding of_int
whole w h = round_exact binary64 false w 1 w 1074 (pow_pos 0) h (fine w 1074 (lit≤ tt) h) (sym (mul-one (w * 2 ^ 1074)))

quotient : (w : ℕ) → w < 2 ^ 53 → div binary64 (of_int binary64 (pos w)) scale ≡ round binary64 false w (2 ^ 53)
unfolding of_bits
quotient w h =
    div-at binary64 (of_int binary64 (pos w)) scale w 1 (2 ^ 53) 1 (pow_pos 0) (pow_pos 53) (whole w h) (refl, refl)
    ∙ ap (λ (z : ℕ). round binary64 false z (2 ^ 53)) (mul-one w)

pub quotient_exact : (w : ℕ) → w < 2 ^ 53 → HasValue (div binary64 (of_int binary64 (pos w)) scale) false w (2 ^ 53)
quotient_exact w h = subst (λ (z : Float). HasValue z false w (2 ^ 53)) (sym (quotient w h)) (exact false w h)

half-value : HasValue half false (2 ^ 52) (2 ^ 53)
unfolding of_bits
half-value = (refl, refl)

minus_value : HasValue minus_half true (2 ^ 52) (2 ^ 53)
unfolding of_bits
minus_value = (refl, refl)

small : (w : ℕ) → w < 2 ^ 53 → w - 2 ^ 52 < 2 ^ 53
small w h = omega arith

small_too : (w : ℕ) → 2 ^ 52 - w < 2 ^ 53
small_too w = omega arith

-- (2 ^ 52 - w) / 2 ^ 53 below zero, and (w - 2 ^ 52) / 2 ^ 53 from zero on
pub unit_below : (w : ℕ) → w < 2 ^ 52 → HasValue (unit_of w) true (2 ^ 52 - w) (2 ^ 53)
unfolding unit_of
unit_below w h =
    let w' : w < 2 ^ 53 = omega arith in
    subst (λ (z : Float). HasValue z true (2 ^ 52 - w) (2 ^ 53))
    (sym (sub_less binary64 (div binary64 (of_int binary64 (pos w)) scale) half w (2 ^ 52) (2 ^ 53) (pow_pos 53) h (quotient_exact w w') half-value))
    (exact true (2 ^ 52 - w) (small_too w))

pub unit_above : (w : ℕ) → 2 ^ 52 ≤ w → w < 2 ^ 53 → HasValue (unit_of w) false (w - 2 ^ 52) (2 ^ 53)
unfolding unit_of
unit_above w l h =
    subst (λ (z : Float). HasValue z false (w - 2 ^ 52) (2 ^ 53))
    (sym (sub_more binary64 (div binary64 (of_int binary64 (pos w)) scale) half w (2 ^ 52) (2 ^ 53) (pow_pos 53) l (quotient_exact w h) half-value))
    (exact false (w - 2 ^ 52) (small w h))

-- ---- it is from -0.5 up to and below 0.5
pub unit_range : (w : ℕ) → w < 2 ^ 53 → T (le minus_half (unit_of w)) × T (lt (unit_of w) half)
unit_range w h =
    elim (lt_or_ge w (2 ^ 52)) [
      | inr l ↦ (
        values-le minus_half (unit_of w) true false (2 ^ 52) (w - 2 ^ 52) (2 ^ 53) (pow_pos 53) minus_value (unit_above w l h) (omega arith),
        values-lt (unit_of w) half false false (w - 2 ^ 52) (2 ^ 52) (2 ^ 53) (unit_above w l h) half-value (omega arith),
      )
      | inl l ↦ (
        values-le minus_half (unit_of w) true true (2 ^ 52) (2 ^ 52 - w) (2 ^ 53) (pow_pos 53) minus_value (unit_below w l) (omega arith),
        values-lt (unit_of w) half true false (2 ^ 52 - w) (2 ^ 52) (2 ^ 53) (unit_below w l) half-value (omega arith),
      )
    ]

pub high_bits : (z : ℕ) → z < 2 ^ 64 → z / 2 ^ 11 < 2 ^ 53
high_bits z h = shr_lt 53 11 h

pub splitmix_range : (i : ℕ) → T (le minus_half (splitmix_unit i)) × T (lt (splitmix_unit i) half)
unfolding splitmix_unit
splitmix_range i = unit_range (mixed i / 2 ^ 11) (high_bits (mixed i) (mixed-lt i))

-- ---- for the code
pub splitmix_from : (i z₀ z₁ z₂ : ℕ) → z₀ ≡ wrap_add i 0x9e37_79b9_7f4a_7c15 → z₁ ≡ wrap_mul (stir z₀ 30) 0xbf58_476d_1ce4_e5b9 → z₂ ≡ wrap_mul (stir z₁ 27) 0x94d0_49bb_1331_11eb
    → (stir z₂ 31 < 2 ^ 64) × (unit_of (stir z₂ 31 / 2 ^ 11) ≡ splitmix_unit i)
unfolding splitmix_unit mixed
splitmix_from i z₀ z₁ z₂ p q r = (
  stir-lt z₂ 31 (subst (λ (z : ℕ). z < 2 ^ 64) (sym r) (wrap_lt (stir z₁ 27) 0x94d0_49bb_1331_11eb)),
  ap (λ (z : ℕ). unit_of (stir z 31 / 2 ^ 11)) (r ∙ ap (λ (z : ℕ). wrap_mul (stir z 27) 0x94d0_49bb_1331_11eb) (q ∙ ap (λ (z : ℕ). wrap_mul (stir z 30) 0xbf58_476d_1ce4_e5b9) p)),
)

pub castable : (z : ℕ) → z < 2 ^ 64 → T (in_float binary64 (pos (z / 2 ^ 11)))
unfolding in_float
castable z h = le→leb (z / 2 ^ 11) (2 ^ 53) (le_of_lt (high_bits z h))
