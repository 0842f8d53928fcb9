-- Laws of one byte: which numbers are digits, and that a digit and its byte determine each other. Assumes nothing.
use mathlib.Core.Path.{◌≡◌, refl, sym, ap, ◌∙◌}
use mathlib.Core.Logic.{◌⊎◌, inl, inr, ⊎_elim}
use mathlib.Core.Bool.{Bool, true, false, cond, not, ◌&&◌, ◌||◌, false≢true}
use Prim.Native.Nat.{ℕ, ◌+◌, ◌-◌, ◌≤◌, ◌<◌}
use native.Mathlib.Omega.{arith}
use borrow.Author.Tests.{leb-true, le-leb, lt-leb, lt-ltb, le-ltb}
use lib.Dec.{leb, ltb, T, ltb→lt, nltb→le}
use Rattle.digits.specs.Digits.{is_digit, is_hex, hex_digit, hex_value}

-- ---- tests
pub both : (a b : Bool) → a ≡ true → b ≡ true → (a && b) ≡ true
both true b p q = q
both false b p q = absurd (false≢true p)

pub both_of : (a b : Bool) → (a && b) ≡ true → (a ≡ true) × (b ≡ true)
both_of true b h = (refl, h)
both_of false b h = absurd (false≢true h)

pub not_left : (a b : Bool) → a ≡ false → (a && b) ≡ false
not_left true b p = absurd (false≢true (sym p))
not_left false b p = refl

pub not_right : (a b : Bool) → b ≡ false → (a && b) ≡ false
not_right true b p = p
not_right false b p = refl

pub either_of : (a b : Bool) → (a || b) ≡ true → (a ≡ true) ⊎ (b ≡ true)
either_of true b h = inl refl
either_of false b h = inr h

pub left_or : (a b : Bool) → a ≡ true → (a || b) ≡ true
left_or true b h = refl
left_or false b h = absurd (false≢true h)

pub right_or : (a b : Bool) → b ≡ true → (a || b) ≡ true
right_or true b h = refl
right_or false b h = h

pub neither : (a b : Bool) → a ≡ false → b ≡ false → (a || b) ≡ false
neither true b p q = p
neither false b p q = q

-- a test that leads nowhere is false
pub settle : (a : Bool) → (a ≡ true → ⊥) → a ≡ false
settle true h = absurd (h refl)
settle false h = refl

pub true_or_false : (a : Bool) → (a ≡ true) ⊎ (a ≡ false)
true_or_false true = inl refl
true_or_false false = inr refl

pub lt_or_ge : (a b : ℕ) → (a < b) ⊎ (b ≤ a)
lt_or_ge a b = go (ltb a b) (ltb→lt a b) (nltb→le a b)
  where
    go : (v : Bool) → (T v → a < b) → (T (not v) → b ≤ a) → (a < b) ⊎ (b ≤ a)
    go true h k = inl (h tt)
    go false h k = inr (k tt)

-- ---- decimal digits
pub digit_range : (b : ℕ) → is_digit b ≡ true → (48 ≤ b) × (b ≤ 57)
unfolding is_digit
digit_range b h = let g = both_of (leb 48 b) (leb b 57) h in (leb-true 48 b g.0, leb-true b 57 g.1)

pub range_digit : (b : ℕ) → 48 ≤ b → b ≤ 57 → is_digit b ≡ true
unfolding is_digit
range_digit b p q = both (leb 48 b) (leb b 57) (le-leb 48 b p) (le-leb b 57 q)

pub digit_above : (b : ℕ) → 48 ≤ b → is_digit b ≡ leb b 57
unfolding is_digit
digit_above b p = ap (λ (t : Bool). t && leb b 57) (le-leb 48 b p)

pub low-no-digit : (b : ℕ) → b < 48 → is_digit b ≡ false
unfolding is_digit
low-no-digit b p = not_left (leb 48 b) (leb b 57) (lt-leb 48 b p)

pub high-no-digit : (b : ℕ) → 57 < b → is_digit b ≡ false
unfolding is_digit
high-no-digit b p = not_right (leb 48 b) (leb b 57) (lt-leb b 57 p)

-- ---- hex digits
pub hex_range : (b : ℕ) → is_hex b ≡ true → ((48 ≤ b) × (b ≤ 57)) ⊎ ((97 ≤ b) × (b ≤ 102))
unfolding is_hex
hex_range b h =
    ⊎_elim (λ p. inl (digit_range b p))
    (λ p. let g = both_of (leb 97 b) (leb b 102) p in inr (leb-true 97 b g.0, leb-true b 102 g.1))
    (either_of (is_digit b) (leb 97 b && leb b 102) h)

pub digit-hex : (b : ℕ) → is_digit b ≡ true → is_hex b ≡ true
unfolding is_hex
digit-hex b h = left_or (is_digit b) (leb 97 b && leb b 102) h

pub letter_hex : (b : ℕ) → 97 ≤ b → b ≤ 102 → is_hex b ≡ true
unfolding is_hex
letter_hex b p q = right_or (is_digit b) (leb 97 b && leb b 102) (both (leb 97 b) (leb b 102) (le-leb 97 b p) (le-leb b 102 q))

pub not-hex : (b : ℕ) → is_digit b ≡ false → (97 ≤ b → b ≤ 102 → ⊥) → is_hex b ≡ false
unfolding is_hex
not-hex b p q =
    neither (is_digit b) (leb 97 b && leb b 102) p
    (settle (leb 97 b && leb b 102) (λ h. let g = both_of (leb 97 b) (leb b 102) h in q (leb-true 97 b g.0) (leb-true b 102 g.1)))

pub value_of_digit : (b : ℕ) → b ≤ 57 → hex_value b ≡ b - 48
unfolding hex_value
value_of_digit b p = ap (λ (t : Bool). cond t (b - 48) (b - 87)) (le-leb b 57 p)

pub value_of_letter : (b : ℕ) → 57 < b → hex_value b ≡ b - 87
unfolding hex_value
value_of_letter b p = ap (λ (t : Bool). cond t (b - 48) (b - 87)) (lt-leb b 57 p)

pub byte_low : (d : ℕ) → d < 10 → hex_digit d ≡ 48 + d
unfolding hex_digit
byte_low d p = ap (λ (t : Bool). cond t (48 + d) (87 + d)) (lt-ltb d 10 p)

pub byte_high : (d : ℕ) → 10 ≤ d → hex_digit d ≡ 87 + d
unfolding hex_digit
byte_high d p = ap (λ (t : Bool). cond t (48 + d) (87 + d)) (le-ltb d 10 p)

pub value-small : (b : ℕ) → is_hex b ≡ true → hex_value b < 16
value-small b h =
    ⊎_elim (λ r. omega (arith, value_of_digit b r.1))
    (λ r. omega (arith, value_of_letter b (omega arith)))
    (hex_range b h)

-- a digit's byte, and its digit again
pub byte_of_value : (b : ℕ) → is_hex b ≡ true → hex_digit (hex_value b) ≡ b
byte_of_value b h =
    ⊎_elim
    (λ r. let e : hex_value b ≡ b - 48 = value_of_digit b r.1 in byte_low (hex_value b) (omega arith) ∙ omega arith)
    (λ r. let e : hex_value b ≡ b - 87 = value_of_letter b (omega arith) in byte_high (hex_value b) (omega arith) ∙ omega arith)
    (hex_range b h)

pub value_of_byte : (d : ℕ) → d < 16 → hex_value (hex_digit d) ≡ d
value_of_byte d p =
    ⊎_elim
    (λ l. let e : hex_digit d ≡ 48 + d = byte_low d l in value_of_digit (hex_digit d) (omega arith) ∙ omega arith)
    (λ l. let e : hex_digit d ≡ 87 + d = byte_high d l in value_of_letter (hex_digit d) (omega arith) ∙ omega arith)
    (lt_or_ge d 10)

pub byte_hex : (d : ℕ) → d < 16 → is_hex (hex_digit d) ≡ true
byte_hex d p =
    ⊎_elim
    (λ l. let e : hex_digit d ≡ 48 + d = byte_low d l in digit-hex (hex_digit d) (range_digit (hex_digit d) (omega arith) (omega arith)))
    (λ l. let e : hex_digit d ≡ 87 + d = byte_high d l in letter_hex (hex_digit d) (omega arith) (omega arith))
    (lt_or_ge d 10)
