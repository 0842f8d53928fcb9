-- Laws of hex texts: how long, which digits, and that a number and its hex determine each other. Assumes nothing.
use mathlib.Core.Path.{◌≡◌, refl, sym, ap, ◌∙◌}
use mathlib.Core.Bool.{true}
use mathlib.Core.List.{List, [], ◌∷◌, ◌++◌, append_assoc, append-nil}
use Prim.Native.Nat.{ℕ, zero, suc, ◌+◌, ◌*◌, ◌/◌, ◌%◌, ◌^◌, ◌<◌}
use native.Mathlib.Nat.{pow-suc, add-zero}
use native.Mathlib.Omega.{arith}
use lib.ListN.{length, length-append}
use Rattle.digits.specs.Digits.{hex_of, hex, hex_digit, hex_value, hex_from, is_hex, every}
use Rattle.digits.proofs.Bytes.{value-small, byte_of_value, value_of_byte, byte_hex}
use Rattle.digits.proofs.Lists.{every_append, every_one, every_cons}

-- ---- digit by digit
pub hex_nil : (n : ℕ) → hex_of 0 n ≡ []
unfolding hex_of
hex_nil n = refl

pub hex-more : (m n : ℕ) → hex_of (suc m) n ≡ hex_of m (n / 16) ++ (hex_digit (n % 16) ∷ [])
unfolding hex_of
hex-more m n = refl

pub hex-length : (m n : ℕ) → length (hex_of m n) ≡ m
hex-length zero n = ap length (hex_nil n)
hex-length (suc m) n =
    ap length (hex-more m n) ∙ length-append (hex_of m (n / 16)) (hex_digit (n % 16) ∷ []) ∙ omega (arith, hex-length m (n / 16))

pub hex-digits : (m n : ℕ) → every is_hex (hex_of m n) ≡ true
unfolding every
hex-digits zero n = ap (every is_hex) (hex_nil n)
hex-digits (suc m) n =
    ap (every is_hex) (hex-more m n)
    ∙ every_append is_hex (hex_of m (n / 16)) (hex_digit (n % 16) ∷ []) (hex-digits m (n / 16))
    (every_one is_hex (hex_digit (n % 16)) (byte_hex (n % 16) (omega arith)))

-- ---- the number again
pub from_nil : (v : ℕ) → hex_from v [] ≡ v
unfolding hex_from
from_nil v = refl

pub from_cons : (v b : ℕ) (bs : List ℕ) → hex_from v (b ∷ bs) ≡ hex_from (v * 16 + hex_value b) bs
unfolding hex_from
from_cons v b bs = refl

from_append : (v : ℕ) (xs ys : List ℕ) → hex_from v (xs ++ ys) ≡ hex_from (hex_from v xs) ys
unfolding hex_from
from_append v [] ys = refl
from_append v (x ∷ xs) ys = from_append (v * 16 + hex_value x) xs ys

pub value-hex : (m n : ℕ) → n < 16 ^ m → hex_from 0 (hex_of m n) ≡ n
value-hex zero n p = ap (hex_from 0) (hex_nil n) ∙ from_nil 0 ∙ omega arith
value-hex (suc m) n p =
    let q : n / 16 < 16 ^ m = omega (arith, pow-suc 16 m) in
    ap (hex_from 0) (hex-more m n) ∙ from_append 0 (hex_of m (n / 16)) (hex_digit (n % 16) ∷ [])
    ∙ from_cons (hex_from 0 (hex_of m (n / 16))) (hex_digit (n % 16)) [] ∙ from_nil (hex_from 0 (hex_of m (n / 16)) * 16 + hex_value (hex_digit (n % 16)))
    ∙ omega (arith, value-hex m (n / 16) q, value_of_byte (n % 16) (omega arith))

pub hex_injective : (m n : ℕ) → m < 2 ^ 64 → n < 2 ^ 64 → hex m ≡ hex n → m ≡ n
hex_injective m n p q e = sym (value-hex 16 m p) ∙ ap (hex_from 0) e ∙ value-hex 16 n q

-- one digit more, and how large the number is
pub room-more : (v d m : ℕ) → v < 16 ^ m → d < 16 → v * 16 + d < 16 ^ (m + 1)
room-more v d m p q = let k : 16 ^ (m + 1) ≡ 16 ^ m * 16 = ap (λ (j : ℕ). 16 ^ j) (omega arith) ∙ pow-suc 16 m in omega arith

pub from-below : (v m : ℕ) (ds : List ℕ) → v < 16 ^ m → every is_hex ds ≡ true → hex_from v ds < 16 ^ (m + length ds)
from-below v m [] p h =
    let k : 16 ^ (m + length {A = ℕ} []) ≡ 16 ^ m = ap (λ (j : ℕ). 16 ^ j) (add-zero m) in
    omega (arith, from_nil v)
from-below v m (d ∷ ds) p h =
    let g = every_cons is_hex d ds h in
    let k : 16 ^ (m + length (d ∷ ds)) ≡ 16 ^ ((m + 1) + length ds) = ap (λ (j : ℕ). 16 ^ j) (omega arith) in
    omega (arith, from_cons v d ds, from-below (v * 16 + hex_value d) (m + 1) ds (room-more v (hex_value d) m p (value-small d g.0)) g.1)

-- ---- and the text again
follow : (m v : ℕ) (ds : List ℕ) → every is_hex ds ≡ true → hex_of (m + length ds) (hex_from v ds) ≡ hex_of m v ++ ds
follow m v [] h = ap (λ (j : ℕ). hex_of j (hex_from v [])) (add-zero m) ∙ ap (hex_of m) (from_nil v) ∙ sym (append-nil (hex_of m v))
follow m v (d ∷ ds) h =
    let g = every_cons is_hex d ds h in
    let s = value-small d g.0 in
    let w = v * 16 + hex_value d in
    let k : m + length (d ∷ ds) ≡ suc m + length ds = omega arith in
    let a : w / 16 ≡ v = omega arith in
    let b : w % 16 ≡ hex_value d = omega arith in
    ap (λ (j : ℕ). hex_of j (hex_from v (d ∷ ds))) k ∙ ap (hex_of (suc m + length ds)) (from_cons v d ds)
    ∙ follow (suc m) w ds g.1
    ∙ ap (λ (l : List ℕ). l ++ ds) (hex-more m w)
    ∙ append_assoc (hex_of m (w / 16)) (hex_digit (w % 16) ∷ []) ds
    ∙ ap (λ (n : ℕ). hex_of m n ++ (hex_digit (w % 16) ∷ ds)) a
    ∙ ap (λ (n : ℕ). hex_of m v ++ (n ∷ ds)) (ap hex_digit b ∙ byte_of_value d g.0)

pub hex_of_lem : (ds : List ℕ) → length ds ≡ 16 → every is_hex ds ≡ true → hex (hex_from 0 ds) ≡ ds
hex_of_lem ds e h =
    let k : 16 ≡ 0 + length ds = omega arith in
    ap (λ (j : ℕ). hex_of j (hex_from 0 ds)) k ∙ follow 0 0 ds h ∙ ap (λ (l : List ℕ). l ++ ds) (hex_nil 0)
