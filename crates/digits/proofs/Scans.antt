-- Steps of the readers' loops, and which answer each way out gives. Assumes nothing.
use mathlib.Core.Path.{◌≡◌, refl, sym, ap, ap₂, ◌∙◌}
use mathlib.Core.Bool.{Bool, true, false, cond, not, ◌&&◌}
use mathlib.Core.List.{List, [], ◌∷◌}
use Prim.Native.Nat.{ℕ, suc, ◌+◌, ◌-◌, ◌*◌, ◌^◌, ◌≤◌, ◌<◌}
use native.Mathlib.Nat.{pow-le-pow_right}
use native.Mathlib.Omega.{arith}
use borrow.Author.Tests.{le-leb, lt-leb, eq-eqb}
use lib.Dec.{leb}
use lib.ListN.{length, get_or, take, drop, length-drop}
use lib.Seq.{drop-cons}
use Rattle.digits.specs.Digits.{is_hex, every, hex_value, value_from, hex_from}
use Rattle.digits.specs.ReadDecimal.{some_number, plain, up_to, digits_at, read_decimal}
use Rattle.digits.specs.ReadHex.{read_hex}
use Rattle.std.specs.Prelude.{Some, None}
use Rattle.digits.proofs.Bytes.{both, not_left, not_right, digit_range}
use Rattle.digits.proofs.Runs.{run-most, at-digit, at_more}
use Rattle.digits.proofs.Decimals.{value_cons, value_nil, value_grows, plain_of}
use Rattle.digits.proofs.Hexes.{from_cons, from_nil, room-more}

-- ---- the some_number of the digits up to `end`, read as far as i
module _ (bytes : List ℕ) (i end value : ℕ) (left : i + length (digits_at bytes i) ≡ end) (inside : end ≤ length bytes) (more : i < end) where
  pub step-digit : (48 ≤ get_or bytes i 0) × (get_or bytes i 0 ≤ 57)
  step-digit = digit_range (get_or bytes i 0) (at_more bytes i (omega arith) (omega arith))

  step : digits_at bytes i ≡ get_or bytes i 0 ∷ digits_at bytes (i + 1)
  step = at-digit bytes i (omega arith) (at_more bytes i (omega arith) (omega arith))

  pub step_left : (i + 1) + length (digits_at bytes (i + 1)) ≡ end
  step_left = omega (arith, ap length step)

  pub step_value : value_from value (digits_at bytes i) ≡ value_from (value * 10 + (get_or bytes i 0 - 48)) (digits_at bytes (i + 1))
  step_value = ap (value_from value) step ∙ value_cons value (get_or bytes i 0) (digits_at bytes (i + 1))

  -- one digit more is too much
  pub step-over : (ds : List ℕ) (from most : ℕ) → value_from value (digits_at bytes i) ≡ value_from 0 ds
      → most < value * 10 + (get_or bytes i 0 - 48) → None ≡ up_to most ds from
  step-over ds from most e h =
      let g : most < value_from 0 ds =
      omega (arith, e, step_value, value_grows (value * 10 + (get_or bytes i 0 - 48)) (digits_at bytes (i + 1))) in
      sym (ap (λ (t : Bool). cond t (some_number (value_from 0 ds) (from + length ds)) None) (lt-leb (value_from 0 ds) most g))

none_left : (ds : List ℕ) (v : ℕ) → length ds ≡ 0 → value_from v ds ≡ v
none_left [] v e = value_nil v
none_left (d ∷ ds) v e = absurd (omega arith)

-- all are read
pub scan_done : (ds rest : List ℕ) (v from most end : ℕ) → value_from v rest ≡ value_from 0 ds → length rest ≡ 0 → v ≤ most → end ≡ from + length ds
    → some_number v end ≡ up_to most ds from
scan_done ds rest v from most end e z h b =
    let w : v ≡ value_from 0 ds = sym (none_left rest v z) ∙ e in
    ap₂ some_number w b ∙ sym (ap (λ (t : Bool). cond t (some_number (value_from 0 ds) (from + length ds)) None) (le-leb (value_from 0 ds) most (omega arith)))

-- ---- which answer a run gives
not-plain_nil : (ds : List ℕ) → length ds ≡ 0 → plain ds ≡ false
unfolding plain
not-plain_nil [] e = refl
not-plain_nil (d ∷ ds) e = absurd (omega arith)

not-plain-zero : (d : ℕ) (ds : List ℕ) → d ≡ 48 → 1 ≤ length ds → plain (d ∷ ds) ≡ false
unfolding plain
not-plain-zero d [] e k = absurd (omega arith)
not-plain-zero d (f ∷ fs) e k = ap not (eq-eqb d 48 e)

module _ (bytes : List ℕ) (from most end : ℕ) (place : end ≡ from + length (digits_at bytes from)) where
  no_number : plain (digits_at bytes from) ≡ false → None ≡ read_decimal bytes from most
  unfolding read_decimal
  no_number h = sym (ap (λ (t : Bool). cond t (up_to most (digits_at bytes from) from) None) h)

  number : plain (digits_at bytes from) ≡ true → up_to most (digits_at bytes from) from ≡ read_decimal bytes from most
  unfolding read_decimal
  number h = sym (ap (λ (t : Bool). cond t (up_to most (digits_at bytes from) from) None) h)

  pub run_empty : end ≤ from → None ≡ read_decimal bytes from most
  run_empty h = no_number (not-plain_nil (digits_at bytes from) (omega arith))

  module _ (some : from < end) where
    pub run_inside : end ≤ length bytes
    run_inside = omega (arith, run-most (drop from bytes), length-drop from bytes)

    first : digits_at bytes from ≡ get_or bytes from 0 ∷ digits_at bytes (from + 1)
    first = at-digit bytes from (omega (arith, run_inside)) (at_more bytes from (omega (arith, run_inside)) (omega arith))

    pub run_leading : get_or bytes from 0 ≡ 48 → from + 1 < end → None ≡ read_decimal bytes from most
    run_leading z h =
        no_number (ap plain first ∙ not-plain-zero (get_or bytes from 0) (digits_at bytes (from + 1)) z (omega (arith, ap length first)))

    pub run-lone : end ≤ from + 1 → up_to most (digits_at bytes from) from ≡ read_decimal bytes from most
    run-lone h = number (plain_of (digits_at bytes from) (omega arith) (λ e. omega arith))

    pub run-number : (get_or bytes from 0 ≡ 48 → ⊥) → up_to most (digits_at bytes from) from ≡ read_decimal bytes from most
    run-number h =
        number (plain_of (digits_at bytes from) (omega arith) (λ e. absurd (h (sym (ap (λ (l : List ℕ). get_or l 0 0) first) ∙ e))))

-- the same with the answer in front and the run's end written out, as `grind` applies them by name
pub case_empty : (bytes : List ℕ) (from most : ℕ) → length (digits_at bytes from) ≡ 0 → read_decimal bytes from most ≡ None
case_empty bytes from most h = sym (run_empty bytes from most (from + length (digits_at bytes from)) refl (omega arith))

pub case_leading : (bytes : List ℕ) (from most : ℕ) → get_or bytes from 0 ≡ 48 → 1 < length (digits_at bytes from)
    → read_decimal bytes from most ≡ None
case_leading bytes from most z h = sym (run_leading bytes from most (from + length (digits_at bytes from)) refl (omega arith) z (omega arith))

pub case_lone : (bytes : List ℕ) (from most : ℕ) → length (digits_at bytes from) ≡ 1
    → read_decimal bytes from most ≡ up_to most (digits_at bytes from) from
case_lone bytes from most h = sym (run-lone bytes from most (from + length (digits_at bytes from)) refl (omega arith) (omega arith))

pub case_number : (bytes : List ℕ) (from most : ℕ) → (get_or bytes from 0 ≡ 48 → ⊥) → 0 < length (digits_at bytes from)
    → read_decimal bytes from most ≡ up_to most (digits_at bytes from) from
case_number bytes from most z h = sym (run-number bytes from most (from + length (digits_at bytes from)) refl (omega arith) z)

pub case_inside : (bytes : List ℕ) (from : ℕ) → 0 < length (digits_at bytes from) → from + length (digits_at bytes from) ≤ length bytes
case_inside bytes from h = run_inside bytes from 0 (from + length (digits_at bytes from)) refl (omega arith)

pub case_digit : (bytes : List ℕ) (from : ℕ) → 0 < length (digits_at bytes from) → 48 ≤ get_or bytes from 0
case_digit bytes from h = (digit_range (get_or bytes from 0) (at_more bytes from (omega (arith, case_inside bytes from h)) h)).0

-- ---- 16 hex digits, read as far as k
abbrev pub hex_left : List ℕ → ℕ → ℕ → List ℕ
hex_left bytes from k = take (16 - k) (drop (from + k) bytes)

pub hex-start : (bytes : List ℕ) (from : ℕ) → take 16 (drop from bytes) ≡ hex_left bytes from 0
hex-start bytes from = let e : from ≡ from + 0 = omega arith in ap (λ (n : ℕ). take 16 (drop n bytes)) e

module _ (bytes : List ℕ) (from k : ℕ) (inside : from + 16 ≤ length bytes) (more : k < 16) where
  hex-step : hex_left bytes from k ≡ get_or bytes (from + k) 0 ∷ hex_left bytes from (k + 1)
  hex-step =
      let a : 16 - k ≡ suc (16 - (k + 1)) = omega arith in
      let b : suc (from + k) ≡ from + (k + 1) = omega arith in
      ap₂ take a (drop-cons bytes (from + k) 0 (omega arith))
      ∙ ap (λ (n : ℕ). get_or bytes (from + k) 0 ∷ take (16 - (k + 1)) (drop n bytes)) b

  pub hex-step-every : is_hex (get_or bytes (from + k) 0) ≡ true → every is_hex (hex_left bytes from k) ≡ every is_hex (hex_left bytes from (k + 1))
  unfolding every
  hex-step-every h = ap (every is_hex) hex-step ∙ ap (λ (t : Bool). t && every is_hex (hex_left bytes from (k + 1))) h

  pub hex-step-value : (v d : ℕ) → d ≡ hex_value (get_or bytes (from + k) 0)
      → hex_from v (hex_left bytes from k) ≡ hex_from (v * 16 + d) (hex_left bytes from (k + 1))
  hex-step-value v d e =
      ap (hex_from v) hex-step ∙ from_cons v (get_or bytes (from + k) 0) (hex_left bytes from (k + 1))
      ∙ ap (λ (n : ℕ). hex_from (v * 16 + n) (hex_left bytes from (k + 1))) (sym e)

  pub hex-step-wrong : is_hex (get_or bytes (from + k) 0) ≡ false → every is_hex (hex_left bytes from k) ≡ false
  unfolding every
  hex-step-wrong h = ap (every is_hex) hex-step ∙ not_left (is_hex (get_or bytes (from + k) 0)) (every is_hex (hex_left bytes from (k + 1))) h

-- one digit more has room
pub hex-room : (k v d : ℕ) → k < 16 → v < 16 ^ k → d < 16 → v * 16 + d < 2 ^ 64
hex-room k v d more p q =
    let e : 16 ^ (k + 1) ≤ 16 ^ 16 = pow-le-pow_right {n = 16} (omega arith) {i = k + 1} {j = 16} (omega arith) in
    omega (arith, room-more v d k p q)

-- what the code's `hex_value` tells
pub hex_told : (b d : ℕ) → cond (is_hex b) (Some (hex_value b)) None ≡ Some d → (is_hex b ≡ true) × (d ≡ hex_value b)
hex_told b d h = go (is_hex b) h
  where
    go : (t : Bool) → cond t (Some (hex_value b)) None ≡ Some d → (t ≡ true) × (d ≡ hex_value b)
    go true h = (refl, cc)
    go false h = let z : ◌≡◌ {A = ℕ} 0 1 = cc in absurd (omega arith)

pub hex-not_told : (b : ℕ) → cond (is_hex b) (Some (hex_value b)) None ≡ None → is_hex b ≡ false
hex-not_told b h = go (is_hex b) h
  where
    go : (t : Bool) → cond t (Some (hex_value b)) None ≡ None → t ≡ false
    go true h = let z : ◌≡◌ {A = ℕ} 0 1 = cc in absurd (omega arith)
    go false h = refl

-- ---- the two answers for hex
pub hex-wrong : (bytes : List ℕ) (from : ℕ) → every is_hex (take 16 (drop from bytes)) ≡ false → None ≡ read_hex bytes from
unfolding read_hex
hex-wrong bytes from h =
    sym (ap (λ (t : Bool). cond t (some_number (hex_from 0 (take 16 (drop from bytes))) (from + 16)) None)
    (not_right (leb (from + 16) (length bytes)) (every is_hex (take 16 (drop from bytes))) h))

pub hex-short : (bytes : List ℕ) (from : ℕ) → leb (from + 16) (length bytes) ≡ false → None ≡ read_hex bytes from
unfolding read_hex
hex-short bytes from h =
    sym (ap (λ (t : Bool). cond t (some_number (hex_from 0 (take 16 (drop from bytes))) (from + 16)) None)
    (not_left (leb (from + 16) (length bytes)) (every is_hex (take 16 (drop from bytes))) h))

-- all 16 are read
pub hex-done : (bytes : List ℕ) (from k v : ℕ) → from + 16 ≤ length bytes → k ≤ 16 → 16 ≤ k
    → every is_hex (take 16 (drop from bytes)) ≡ every is_hex (hex_left bytes from k)
    → hex_from 0 (take 16 (drop from bytes)) ≡ hex_from v (hex_left bytes from k)
    → some_number v (from + 16) ≡ read_hex bytes from
unfolding read_hex every
hex-done bytes from k v inside p q e f =
    let z : 16 - k ≡ 0 = omega arith in
    let none : hex_left bytes from k ≡ [] = ap (λ (n : ℕ). take n (drop (from + k) bytes)) z in
    let all : every is_hex (take 16 (drop from bytes)) ≡ true = e ∙ ap (every is_hex) none in
    let value : hex_from 0 (take 16 (drop from bytes)) ≡ v = f ∙ ap (hex_from v) none ∙ from_nil v in
    ap (λ (n : ℕ). some_number n (from + 16)) (sym value)
    ∙ sym (ap (λ (t : Bool). cond t (some_number (hex_from 0 (take 16 (drop from bytes))) (from + 16)) None)
    (both (leb (from + 16) (length bytes)) (every is_hex (take 16 (drop from bytes))) (le-leb (from + 16) (length bytes) inside) all))
