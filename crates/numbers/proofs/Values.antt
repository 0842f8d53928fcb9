-- From a pattern to its value and from the digits of the root to its pattern. Assumes nothing.
use Rattle.std.proofs.Common.{◌≡◌, ℕ, zero, suc, ◌+◌, ◌-◌, ◌*◌, ◌/◌, ◌%◌, ◌^◌, ◌<◌, ◌≤◌, Bool, true, false, cond, not, T, eqb, ltb, sym, refl, ap, ◌∙◌, subst, ap₂, le_trans, le_of_eq, lt_irrefl, mul-le-mul_right, mod-eq_of_lt, mul_assoc, mul-pos, zero-mul, mul-one, mul_right_comm, arith, pow_pos, pow-add, shl_lt, ltb-false, le-ltb, ne_eqb, le-leb}
use mathlib.Core.Bool.{false≢true}
use lib.Count.{count_leading_zeros, leading_top}
use lib.Ieee.{Float, nan, inf, fin, binary64, up, down, odd, of_fields, of_bits, to_bits, is_nan, nan_bits, fits}
use lib.Ieee.Exact.{HasValue, odd_sign}
use lib.Ieee.Fits.{down_pos}
use lib.Ieee.Bits.{is_false, of_bits-to_bits, to_bits-lt, nan_bits_is, nan_bits_above}
use borrow.Author.Tests.{lt-leb}
use Rattle.definition.specs.Root.{Nearest, Root, root_of}
use Rattle.definition.proofs.RootLaws.{near_ge, near-lt, pow_lt_back, root_is_lem}
use Rattle.numbers.specs.Steps.{Normal, Split, Radicand, Floored, Patterned}

-- ---- the radicand

pub radicand_even : (s e : ℕ) → Normal s e → e % 2 ≡ 0 → Radicand s e s
radicand_even s e n h =
    let g = n.low_end in
    let k = 2 * (e / 2 - 26) in
    let b : 52 + k ≡ e = omega arith in
    record {
      least = n.least;
      most = omega (arith, n.most);
      value = mul_assoc s (2 ^ 52) (2 ^ k) ∙ ap (λ (i : ℕ). s * i) (sym (pow-add 2 52 k) ∙ ap (λ (i : ℕ). 2 ^ i) b);
    }

pub radicand_odd : (s e : ℕ) → Normal s e → (e % 2 ≡ 0 → ⊥) → Radicand s e (s * 2)
radicand_odd s e n h =
    let g = n.low_end in
    let k = 2 * (e / 2 - 26) in
    let b : 53 + k ≡ e = omega arith in
    record {
      least = omega (arith, n.least);
      most = omega (arith, n.most);
      value =
          ap (λ (i : ℕ). i * 2 ^ k) (mul_assoc s 2 (2 ^ 52)) ∙ mul_assoc s (2 ^ 53) (2 ^ k) ∙ ap (λ (i : ℕ). s * i) (sym (pow-add 2 53 k) ∙ ap (λ (i : ℕ). 2 ^ i) b);
    }

-- ---- a subnormal's significand

pub record Zeros (t z : ℕ) : Type 0 where
  pub some : 12 ≤ z
  pub not-all : z ≤ 63
  pub least : 2 ^ 52 ≤ t * 2 ^ (z - 11)
  pub most : t * 2 ^ (z - 11) < 2 ^ 53

pub zeros_of : (t : ℕ) → 0 < t → t < 2 ^ 52 → Zeros t (count_leading_zeros 64 t)
zeros_of t p h =
    let z = count_leading_zeros 64 t in
    let u = leading_top 64 t p (omega arith) in
    let j = u.0 in
    let j-few : j < 52 = pow_lt_back j 52 (omega (arith, u.2)) in
    let sum : z + suc j ≡ 64 = u.1 in
    let b : j + (z - 11) ≡ 52 = omega arith in
    let d : suc j + (z - 11) ≡ 53 = omega arith in
    record {
      some = omega arith;
      not-all = omega arith;
      least = subst (λ (i : ℕ). 2 ^ i ≤ t * 2 ^ (z - 11)) b (le_trans (le_of_eq (pow-add 2 j (z - 11))) (mul-le-mul_right (2 ^ (z - 11)) u.2));
      most = subst (λ (i : ℕ). t * 2 ^ (z - 11) < 2 ^ i) d (shl_lt (suc j) (z - 11) u.3);
    }

pub shifted : (t s : ℕ) → s ≤ 1074 → t * 2 ^ s < 2 ^ 64 → t * 2 ^ s % 2 ^ 64 * 2 ^ (1074 - s) ≡ t * 2 ^ 1074
shifted t s h g =
    let b : s + (1074 - s) ≡ 1074 = omega arith in
    ap (λ (i : ℕ). i * 2 ^ (1074 - s)) (mod-eq_of_lt g)
    ∙ mul_assoc t (2 ^ s) (2 ^ (1074 - s))
    ∙ ap (λ (i : ℕ). t * i) (sym (pow-add 2 s (1074 - s)) ∙ ap (λ (i : ℕ). 2 ^ i) b)

-- ---- a pattern's value

fields : (b : ℕ) → b < 2 ^ 63 → of_bits binary64 b ≡ of_fields binary64 false (b / 2 ^ 52) (b % 2 ^ 52)
unfolding of_bits
fields b h =
    ap₂ (λ (s : Bool) (i : ℕ). of_fields binary64 s (i / 2 ^ 52) (b % 2 ^ 52)) (lt-leb (2 ^ 63) b h) (mod-eq_of_lt h)

normal_fields : (x t : ℕ) → suc x < 2047 → of_fields binary64 false (suc x) t ≡ odd 53 false (2 ^ 52 + t) x 1074
unfolding of_fields
normal_fields x t h =
    ap (λ (u : Bool). cond u (cond (eqb t 0) (inf false) nan) (odd 53 false (2 ^ 52 + t) x 1074)) (ne_eqb (suc x) 2047 (omega arith))

small_fields : (t : ℕ) → of_fields binary64 false 0 t ≡ odd 53 false t 0 1074
unfolding of_fields
small_fields t = refl

-- a pattern with the exponent's field x + 1
pub normal_pattern : (b x : ℕ) → b / 2 ^ 52 ≡ suc x → suc x < 2047 → of_bits binary64 b ≡ odd 53 false (2 ^ 52 + b % 2 ^ 52) x 1074
normal_pattern b x e h = fields b (omega arith) ∙ ap (λ (i : ℕ). of_fields binary64 false i (b % 2 ^ 52)) e ∙ normal_fields x (b % 2 ^ 52) h

pub small_pattern : (b : ℕ) → b / 2 ^ 52 ≡ 0 → of_bits binary64 b ≡ odd 53 false (b % 2 ^ 52) 0 1074
small_pattern b e = fields b (omega arith) ∙ ap (λ (i : ℕ). of_fields binary64 false i (b % 2 ^ 52)) e ∙ small_fields (b % 2 ^ 52)

finer : (y : Float) (s : Bool) (a c d : ℕ) → HasValue y s a c → HasValue y s (a * d) (c * d)
finer nan s a c d h = h
finer (inf t) s a c d h = h
finer (fin t m e) s a c d h = (h.0, sym (mul_assoc (m * up e) c d) ∙ ap (λ (i : ℕ). i * d) h.1 ∙ mul_right_comm a (down e) d)

-- what a pattern's value is in squares of the smallest value
pattern_value : (b q k s e : ℕ) → of_bits binary64 b ≡ odd 53 false q k 1074 → q * 2 ^ k * 2 ^ 1074 ≡ s * 2 ^ e
    → HasValue (of_bits binary64 b) false (s * 2 ^ e) (2 ^ 1074 * 2 ^ 1074)
pattern_value b q k s e p h =
    subst (λ (y : Float). HasValue y false (s * 2 ^ e) (2 ^ 1074 * 2 ^ 1074)) (sym p)
    (subst (λ (i : ℕ). HasValue (odd 53 false q k 1074) false i (2 ^ 1074 * 2 ^ 1074)) h
    (finer (odd 53 false q k 1074) false (q * 2 ^ k) (2 ^ 1074) (2 ^ 1074) (odd_sign 53 false q k 1074)))

pub normal-split : (b : ℕ) → b < 0x7ff0_0000_0000_0000 → (b / 2 ^ 52 ≡ 0 → ⊥) → Split b (b % 2 ^ 52 + 2 ^ 52) (b / 2 ^ 52 + 1073)
normal-split b h g =
    let x = b / 2 ^ 52 - 1 in
    let t = b % 2 ^ 52 in
    let q : 2 ^ 52 + t ≡ t + 2 ^ 52 = omega arith in
    let e : x + 1074 ≡ b / 2 ^ 52 + 1073 = omega arith in
    record {
      normal = record { least = omega arith; most = omega arith; low_end = omega arith; high_end = omega arith };
      value =
          pattern_value b (2 ^ 52 + t) x (t + 2 ^ 52) (b / 2 ^ 52 + 1073) (normal_pattern b x (omega arith) (omega arith))
          (mul_assoc (2 ^ 52 + t) (2 ^ x) (2 ^ 1074) ∙ ap₂ (λ (i j : ℕ). i * j) q (sym (pow-add 2 x 1074) ∙ ap (λ (i : ℕ). 2 ^ i) e));
    }

pub small-split : (b s e : ℕ) → b / 2 ^ 52 ≡ 0 → Normal s e → s * 2 ^ e ≡ b % 2 ^ 52 * 2 ^ 1074 → Split b s e
small-split b s e h n v = record {
  normal = n;
  value = pattern_value b (b % 2 ^ 52) 0 s e (small_pattern b h) (ap (λ (i : ℕ). i * 2 ^ 1074) (mul-one (b % 2 ^ 52)) ∙ sym v);
}

-- ---- the result's pattern

assembled : (n k : ℕ) → 2 ^ 52 ≤ n → n < 2 ^ 53 → suc k < 2047 → of_bits binary64 (k * 2 ^ 52 + n) ≡ odd 53 false n k 1074
assembled n k a b h =
    let e : 2 ^ 52 + (k * 2 ^ 52 + n) % 2 ^ 52 ≡ n = omega arith in
    normal_pattern (k * 2 ^ 52 + n) k (omega arith) h ∙ ap (λ (i : ℕ). odd 53 false i k 1074) e

module _ (bits s e a q r n : ℕ) (p : Split bits s e) (d : Radicand s e a) (o : Floored (a * 2 ^ 52) q r) where
  pub pattern_root : Nearest (q * q + r) n → Patterned bits ((e / 2 - 26) * 2 ^ 52 + n)
  pattern_root w =
      let k = e / 2 - 26 in
      let x = a * 2 ^ 52 in
      let m : Nearest x n = subst (λ (i : ℕ). Nearest i n) o.whole w in
      let least : 2 ^ 52 ≤ n = near_ge x n (2 ^ 52) m (omega (arith, d.least)) in
      let most : n < 2 ^ 53 = near-lt x n (2 ^ 53) m (omega (arith, d.most)) in
      let l = p.normal.low_end in
      let g = p.normal.high_end in
      record {
        finite = omega arith;
        root = record {
          square = x;
          half = k;
          near = n;
          scaled = subst (λ (i : ℕ). HasValue (of_bits binary64 bits) false i (2 ^ 1074 * 2 ^ 1074)) (sym d.value) p.value;
          least = omega (arith, d.least);
          most = omega (arith, d.most);
          nearest = m;
          value = assembled n k least most (omega arith);
        };
      }

-- ---- the cases of `root`

pub nan-root : (x : Float) → is_nan x ≡ true → x ≡ root_of binary64 x
unfolding root_of is_nan
nan-root nan h = refl
nan-root (inf s) h = absurd (false≢true h)
nan-root (fin s m e) h = absurd (false≢true h)

module _ (x : Float) (f : T (fits binary64 x)) where
  back : of_bits binary64 (to_bits binary64 x) ≡ x
  back = of_bits-to_bits binary64 x f

  own_root : (b : ℕ) → to_bits binary64 x ≡ b → of_bits binary64 b ≡ root_of binary64 (of_bits binary64 b) → x ≡ root_of binary64 x
  own_root b e h = subst (λ (y : Float). y ≡ root_of binary64 y) (ap (λ (i : ℕ). of_bits binary64 i) (sym e) ∙ back) h

  pub infinity_root : to_bits binary64 x ≡ 0x7ff0_0000_0000_0000 → x ≡ root_of binary64 x
  unfolding root_of of_bits
  infinity_root e = own_root 0x7ff0_0000_0000_0000 e refl

  pub zero-root : to_bits binary64 x ≡ 0 → x ≡ root_of binary64 x
  unfolding root_of of_bits
  zero-root e = own_root 0 e refl

  pub minus_zero-root : to_bits binary64 x ≡ 0x8000_0000_0000_0000 → x ≡ root_of binary64 x
  unfolding root_of of_bits
  minus_zero-root e = own_root 0x8000_0000_0000_0000 e refl

  pub finite-bits : T (not (is_nan x)) → to_bits binary64 x < 2 ^ 63 → to_bits binary64 x ≤ 0x7ff0_0000_0000_0000
  finite-bits n h =
      let b = to_bits binary64 x in
      let e : ltb 0x7ff0_0000_0000_0000 b ≡ false =
      ap (λ (i : ℕ). ltb 0x7ff0_0000_0000_0000 i) (sym (mod-eq_of_lt h))
      ∙ sym (nan_bits_above binary64 b)
      ∙ nan_bits_is binary64 b
      ∙ ap is_nan back
      ∙ is_false (is_nan x) n in
      omega (arith, ltb-false 0x7ff0_0000_0000_0000 b e)

  pub bits-root : (r : ℕ) → Patterned (to_bits binary64 x) r → of_bits binary64 r ≡ root_of binary64 x
  bits-root r p = root_is_lem binary64 x (of_bits binary64 r) f (subst (λ (y : Float). Root binary64 y (of_bits binary64 r)) back p.root)

pub finite_pattern : (r : ℕ) → r < 0x7ff0_0000_0000_0000 → T (not (nan_bits binary64 r))
finite_pattern r h =
    let l : r < 2 ^ 63 = omega arith in
    subst (λ (b : Bool). T (not b))
    (sym (nan_bits_above binary64 r ∙ ap (λ (i : ℕ). ltb 0x7ff0_0000_0000_0000 i) (mod-eq_of_lt l) ∙ le-ltb 0x7ff0_0000_0000_0000 r (omega arith))) tt

-- ---- below zero

minus_root : (y : Float) (a c : ℕ) → 0 < a → HasValue y true a c → root_of binary64 y ≡ nan
unfolding root_of
minus_root nan a c h v = refl
minus_root (inf s) a c h v = absurd v
minus_root (fin false m e) a c h v = absurd (false≢true v.0)
minus_root (fin true zero e) a c h v =
    let z : 0 ≡ a * down e = sym (ap (λ (i : ℕ). i * c) (zero-mul (up e)) ∙ zero-mul c) ∙ v.1 in
    absurd (lt_irrefl 0 (subst (λ (i : ℕ). 0 < i) (sym z) (mul-pos h (down_pos e))))
minus_root (fin true (suc m) e) a c h v = refl

minus_odd : (q k : ℕ) → 0 < q → root_of binary64 (odd 53 true q k 1074) ≡ nan
minus_odd q k h = minus_root (odd 53 true q k 1074) (q * 2 ^ k) (2 ^ 1074) (mul-pos h (pow_pos k)) (odd_sign 53 true q k 1074)

minus_fields : (x t : ℕ) → 0 < x + t → root_of binary64 (of_fields binary64 true x t) ≡ nan
unfolding of_fields root_of
minus_fields zero t h = minus_odd t 0 (omega arith)
minus_fields (suc x) t h = go (eqb (suc x) 2047) (eqb t 0)
  where
    go : (u v : Bool) → root_of binary64 (cond u (cond v (inf true) nan) (odd 53 true (2 ^ 52 + t) x 1074)) ≡ nan
    go true true = refl
    go true false = refl
    go false v = minus_odd (2 ^ 52 + t) x (omega arith)

pub minus_bits : (x : Float) → T (fits binary64 x) → 0x8000_0000_0000_0000 < to_bits binary64 x → nan ≡ root_of binary64 x
unfolding of_bits
minus_bits x f h =
    let b = to_bits binary64 x in
    let l : b < 2 ^ 64 = to_bits-lt binary64 x f in
    let e : of_bits binary64 b ≡ of_fields binary64 true (b % 2 ^ 63 / 2 ^ 52) (b % 2 ^ 52) =
    ap (λ (s : Bool). of_fields binary64 s (b % 2 ^ 63 / 2 ^ 52) (b % 2 ^ 52)) (le-leb (2 ^ 63) b (omega arith)) in
    sym (ap (λ (y : Float). root_of binary64 y) (sym (of_bits-to_bits binary64 x f) ∙ e) ∙ minus_fields (b % 2 ^ 63 / 2 ^ 52) (b % 2 ^ 52) (omega arith))
