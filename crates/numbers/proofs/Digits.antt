-- Roots of whole numbers: the first digits by a loop, as many again by one division, and the rounding. Assumes nothing.
use Rattle.std.proofs.Common.{◌≡◌, ℕ, zero, suc, ◌+◌, ◌-◌, ◌*◌, ◌/◌, ◌%◌, ◌^◌, ◌<◌, ◌≤◌, sym, ap, ◌∙◌, subst, ⊎_elim, lt_of_lt_of_le, lt_of_le_of_lt, add-zero, mul-le-mul_right, mod-lt, mul_assoc, div-lt_iff_lt-mul, add-mul, mul-le-mul, mul-le-mul_left, mul-pos, div-add-mod', mul-one, mul-add, mul_right_comm, add-one, arith, lit<, pow_mono, pow-add}
use native.Mathlib.Nat.{mul-mul-mul_comm}
use Rattle.definition.specs.Root.{Nearest}
use Rattle.definition.proofs.Tests.{lt_or_ge}
use Rattle.definition.proofs.RootLaws.{odd_sq, suc_sq, sq_le, four_pow, near_down, near_up}
use Rattle.numbers.specs.Steps.{Floored, Lengthens}

-- ---- the first digits' loop

-- after i turns q and r are the root and the remainder of the radicand's first 2 * i bits, and b holds those to come
pub record Turn (a b q r i : ℕ) : Type 0 where
  pub turns : i ≤ 7
  pub coming : b < 2 ^ 54
  pub brought : (q * q + r) * 2 ^ 54 + b ≡ a * 2 ^ (2 * i)
  pub rest : r ≤ 2 * q
  pub few : q < 2 ^ i

sq_even : (q : ℕ) → q * 2 * (q * 2) ≡ 4 * (q * q)
sq_even q = omega (arith, mul-mul-mul_comm q 2 q 2)

sq_odd : (q : ℕ) → (q * 2 + 1) * (q * 2 + 1) ≡ 4 * (q * q) + 4 * q + 1
sq_odd q = omega (arith, mul-add (q * 2 + 1) (q * 2) 1, add-mul (q * 2) 1 (q * 2), sq_even q)

sq_plain : (q : ℕ) → (q * 2 + 0) * (q * 2 + 0) ≡ 4 * (q * q)
sq_plain q = ap (λ (x : ℕ). x * x) (add-zero (q * 2)) ∙ sq_even q

four_times : (a i : ℕ) → a * 2 ^ (2 * (i + 1)) ≡ 4 * (a * 2 ^ (2 * i))
four_times a i = ap (λ (j : ℕ). a * 2 ^ (2 * j)) (add-one i) ∙ ap (λ (j : ℕ). a * j) (four_pow i) ∙ omega (arith, mul_assoc a 4 (2 ^ (2 * i)), mul_right_comm a 4 (2 ^ (2 * i)))

twice_pow : (i : ℕ) → 2 ^ (i + 1) ≡ 2 * 2 ^ i
twice_pow i = omega (arith, pow-add 2 i 1)

pub turn_first_lem : (a : ℕ) → a < 2 ^ 54 → Turn a a 0 0 0
turn_first_lem a h = record { turns = omega arith; coming = h; brought = omega (arith, mul-one a); rest = omega arith; few = lit< tt }

module _ (a b q r i : ℕ) (h : Turn a b q r i) (l : i < 7) where
  pub turn_odd : q * 4 + 1 ≤ r * 4 + b / 0x10_0000_0000_0000
      → Turn a (b % 0x10_0000_0000_0000 * 4) (q * 2 + 1) (r * 4 + b / 0x10_0000_0000_0000 - (q * 4 + 1)) (i + 1)
  turn_odd g = record {
    turns = omega arith;
    coming = omega arith;
    brought = omega (arith, sq_odd q, four_times a i, h.brought, h.coming);
    rest = omega (arith, h.rest, h.coming);
    few = omega (arith, twice_pow i, h.few);
  }

  pub turn_even : r * 4 + b / 0x10_0000_0000_0000 < q * 4 + 1
      → Turn a (b % 0x10_0000_0000_0000 * 4) (q * 2 + 0) (r * 4 + b / 0x10_0000_0000_0000 - 0) (i + 1)
  turn_even g = record {
    turns = omega arith;
    coming = omega arith;
    brought = omega (arith, sq_plain q, four_times a i, h.brought, h.coming);
    rest = omega (arith, h.rest, h.coming);
    few = omega (arith, twice_pow i, h.few);
  }

-- the root so far has at most 7 digits
pub turn_small : {a b q r i : ℕ} → Turn a b q r i → q < 2 ^ 7
turn_small h = lt_of_lt_of_le h.few (pow_mono h.turns)

pub turn_last : (a b q r i : ℕ) → Turn a b q r i → 7 ≤ i → Floored (a / 2 ^ 40) q r
turn_last a b q r i h l =
    let e : i ≡ 7 = omega (arith, h.turns) in
    let g : (q * q + r) * 2 ^ 54 + b ≡ a * 2 ^ 14 = h.brought ∙ ap (λ (j : ℕ). a * 2 ^ (2 * j)) e in
    record { whole = omega (arith, h.coming); rest = h.rest }

-- ---- as many digits again by one division

module _ (s r b y : ℕ) (h : Lengthens s r b y) where
  -- what is divided, the quotient, what is left with the lower half brought down, and the root before its correction
  abbrev over : ℕ
  over = r * b + y / b

  abbrev quotient : ℕ
  quotient = over / (s * 2)

  abbrev left : ℕ
  left = over % (s * 2) * b + y % b

  abbrev raw : ℕ
  raw = s * b + quotient

  -- everything fits, and the quotient's square is all that the root's square lacks
  pub record Divided : Type 0 where
    pub some : 0 < s
    pub rest-wide : r * b ≤ 2 ^ 54
    pub low_half : y / b < b
    pub quotient_most : quotient ≤ b
    pub square-most : quotient * quotient ≤ s * b * 2
    pub root-wide : s * b < 2 ^ 53
    pub left_most : left < s * b * 2
    pub part-most : over % (s * 2) * b ≤ left
    pub whole : raw * raw + left ≡ (s * s + r) * (b * b) + y + quotient * quotient

  pub divided : Divided
  divided =
      let n = over in
      let t = quotient in
      let u = over % (s * 2) in
      let some : 0 < s = omega (arith, h.some, h.no_more) in
      let low : y / b < b = (div-lt_iff_lt-mul h.some).1 h.below in
      let wide : r * b ≤ 2 * s * b = mul-le-mul_right b h.rest in
      let root-wide : s * b < 2 ^ 53 = lt_of_le_of_lt (mul-le-mul_left s h.most) (omega (arith, h.few)) in
      let limit : n < suc b * (s * 2) = omega (arith, h.no_more) in
      let twice : 0 < s * 2 = omega arith in
      let most : t < suc b = (div-lt_iff_lt-mul twice).1 limit in
      let t-most : t ≤ b = omega arith in
      let square : t * t ≤ b * b = mul-le-mul t-most t-most in
      let square-two : b * b ≤ 2 * s * b = mul-le-mul_right b h.no_more in
      let u-most : u < s * 2 = mod-lt n twice in
      let u-wide : suc u * b ≤ s * 2 * b = mul-le-mul_right b (omega arith) in
      let y-most : y % b < b = mod-lt y h.some in
      let quotient-sum : t * (s * 2) + u ≡ n = div-add-mod' n (s * 2) in
      let low_sum : y / b * b + y % b ≡ y = div-add-mod' y b in
      let sum : (t * (s * 2) + u) * b ≡ n * b = ap (λ (i : ℕ). i * b) quotient-sum in
      record {
        some = some;
        rest-wide = omega arith;
        low_half = low;
        quotient_most = t-most;
        square-most = omega arith;
        root-wide = root-wide;
        left_most = omega arith;
        part-most = omega arith;
        whole = omega arith;
      }

  -- the root lowered by `less` and what is left raised by `more`
  pub record Ended (less more : ℕ) : Type 0 where
    pub lowered : less ≤ raw
    pub narrow : left + more < 2 ^ 64
    pub enough : quotient * quotient ≤ left + more
    pub root : Floored ((s * s + r) * (b * b) + y) (raw - less) (left + more - quotient * quotient)

  pub exact : quotient * quotient ≤ left → Ended 0 0
  exact g =
      let d = divided in
      let w = d.whole in
      let e : raw - 0 ≡ raw = omega arith in
      record {
        lowered = omega arith;
        narrow = omega arith;
        enough = omega arith;
        root = record { whole = ap (λ (q : ℕ). q * q + (left + 0 - quotient * quotient)) e ∙ omega arith; rest = omega (arith, d.left_most) };
      }

  pub corrected : left < quotient * quotient → Ended 1 (raw * 2 - 1)
  corrected g =
      let d = divided in
      let w = d.whole in
      let positive : 0 < quotient = some-square quotient (omega arith) in
      let p = raw - 1 in
      let e : raw ≡ suc p = omega arith in
      let f : raw * raw ≡ p * p + 2 * p + 1 = ap (λ (q : ℕ). q * q) e ∙ suc_sq p in
      record {
        lowered = omega arith;
        narrow = omega arith;
        enough = omega arith;
        root = record { whole = omega arith; rest = omega arith };
      }
    where
      some-square : (t : ℕ) → 0 < t * t → 0 < t
      some-square zero h = omega arith
      some-square (suc t) h = omega arith

-- ---- how many digits a root has

pub floor_ge : (x q r p : ℕ) → Floored x q r → p * p ≤ x → p ≤ q
floor_ge x q r p o h =
    ⊎_elim (λ (l : q < p). absurd (contrary l (sq_le l))) (λ (l : p ≤ q). l) (lt_or_ge q p)
  where
    contrary : q < p → suc q * suc q ≤ p * p → ⊥
    contrary l g = omega (arith, o.whole, o.rest, suc_sq q)

pub floor_lt : (x q r p : ℕ) → Floored x q r → x < p * p → q < p
floor_lt x q r p o h =
    ⊎_elim (λ (l : q < p). l) (λ (l : p ≤ q). absurd (contrary (sq_le l))) (lt_or_ge q p)
  where
    contrary : p * p ≤ q * q → ⊥
    contrary g = omega (arith, o.whole)

-- a root of x, no less than `least` and with no more than 27 digits, serves a base that is at most twice `least`
pub lengthens : (x s r least b y : ℕ) → Floored x s r → least * least ≤ x → x < 2 ^ 54 → 0 < b → b ≤ 2 ^ 26 → b ≤ 2 * least → y < b * b → Lengthens s r b y
lengthens x s r least b y o l m p c d z = record {
  rest = o.rest;
  few = floor_lt x s r (2 ^ 27) o m;
  some = p;
  most = c;
  no_more = omega (arith, floor_ge x s r least o l);
  below = z;
}

-- the root of x * b ^ 2 + y, where x and y are a's upper and lower digits
pub joined : (x s r b y z q t : ℕ) → Floored x s r → Floored ((s * s + r) * (b * b) + y) q t → x * (b * b) + y ≡ z → Floored z q t
joined x s r b y z q t o w e = subst (λ (n : ℕ). Floored n q t) (ap (λ (n : ℕ). n * (b * b) + y) o.whole ∙ e) w

-- ---- the rounding

pub rounded_down : (q r : ℕ) → 0 < q → r ≤ q → Nearest (q * q + r) q
rounded_down q r p h = near_down (q * q + r) q (omega (arith, mul-pos p p)) (omega arith) (omega (arith, odd_sq q))

pub rounded_up : (q r : ℕ) → q < r → r ≤ 2 * q → Nearest (q * q + r) (q + 1)
rounded_up q r h g = subst (λ (n : ℕ). Nearest (q * q + r) n) (sym (add-one q)) (near_up (q * q + r) q (omega (arith, suc_sq q)) (omega (arith, odd_sq q)))
