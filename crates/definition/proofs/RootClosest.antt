-- The root is the closest value of the format: of any other value z that the format holds, the root of x lies on y's side of the middle of y
-- and z, by the middle's square. This says nothing of digits or of how the root is found, and one value of the format at most is so.
-- Assumes nothing.
use mathlib.Core.Path.{◌≡◌, sym, ap, ap₂, ◌∙◌, subst}
use mathlib.Core.Bool.{Bool, true, false, not, cond}
use Prim.Native.Nat.{ℕ, zero, suc, ◌+◌, ◌-◌, ◌*◌, ◌/◌, ◌^◌, ◌≤◌, ◌<◌}
use native.Mathlib.Nat.{le_antisymm, add_comm, le_trans, le_of_eq, le_of_lt, lt_of_lt_of_le, lt_of_le_of_lt, lt_irrefl, mul-le-mul_right, mul-lt-mul_of_pos_right, lt_of_mul-lt-mul_right, eq_of_mul-eq-mul_right, mul-mul-mul_comm, mul_assoc, mul-one, zero-mul, add-mul, sub-add_cancel, mul-div_cancel}
use native.Mathlib.Omega.{arith}
use lib.IntN.{ℤ, pos, negsuc}
use lib.Dec.{T, leb, ltb, leb→le, nleb→lt, ltb→lt, nltb→le}
use lib.Pow.{pow-add, pow_pos, pow_mono}
use lib.Ieee.{Float, nan, inf, fin, Format, prec, low, top, hid, up, down, size, fits, of_bits, to_bits}
use lib.Ieee.Exact.{HasValue, odd_sign}
use lib.Ieee.Fits.{two, down_pos}
use lib.Ieee.Bits.{of_bits-to_bits}
use Rattle.definition.specs.Root.{Root, root_of}
use Rattle.definition.proofs.RootLaws.{held, sq_le, dbl_sq, suc_sq, square_pow, near_ge, pow_le_back, value-once, root-near}

-- x is `square` squares of the smallest value and y is `units` smallest values. z is w of them.
pub record Closest (f : Format) (x y : Float) : Type 0 where
  pub square : ℕ
  pub units : ℕ
  pub x_value : HasValue x false square (2 ^ low f * 2 ^ low f)
  pub y_value : HasValue y false units (2 ^ low f)
  pub above : (z : Float) (w : ℕ) → T (fits f z) → HasValue z false w (2 ^ low f) → units < w → 4 * square < (units + w) * (units + w)
  pub below : (z : Float) (w : ℕ) → T (fits f z) → HasValue z false w (2 ^ low f) → w < units → (units + w) * (units + w) < 4 * square

-- ---- a value of the format is a number of at most prec digits, moved up

record Digits (f : Format) (w : ℕ) : Type 0 where
  m : ℕ
  j : ℕ
  few : m < 2 ^ prec f
  is : w ≡ m * 2 ^ j

digits_of_lem : (f : Format) (z : Float) (w : ℕ) → T (fits f z) → HasValue z false w (2 ^ low f) → Digits f w
digits_of_lem f nan w t v = absurd v
digits_of_lem f (inf s) w t v = absurd v
digits_of_lem f (fin s zero e) w t v = record {
  m = 0;
  j = 0;
  few = pow_pos (prec f);
  is =
      eq_of_mul-eq-mul_right (down e) (down_pos e) w 0
      (sym v.1 ∙ ap (λ (i : ℕ). i * 2 ^ low f) (zero-mul (up e)) ∙ zero-mul (2 ^ low f) ∙ sym (zero-mul (down e)));
}
digits_of_lem f (fin s (suc m) (pos i)) w t v = record {
  m = suc m;
  j = i + low f;
  few = (held f s m (pos i) t).small;
  is = sym (mul-one w) ∙ sym v.1 ∙ mul_assoc (suc m) (2 ^ i) (2 ^ low f) ∙ ap (λ (k : ℕ). suc m * k) (sym (pow-add 2 i (low f)));
}
digits_of_lem f (fin s (suc m) (negsuc i)) w t v =
    let h = held f s m (negsuc i) t in
    let g : suc i ≤ low f = pow_le_back (suc i) (low f) h.fine in
    record {
      m = suc m;
      j = low f - suc i;
      few = h.small;
      is =
          eq_of_mul-eq-mul_right (2 ^ suc i) (pow_pos (suc i)) w (suc m * 2 ^ (low f - suc i))
          (sym v.1
          ∙ ap (λ (k : ℕ). k * 2 ^ low f) (mul-one (suc m))
          ∙ ap (λ (k : ℕ). suc m * k) (ap (λ (k : ℕ). 2 ^ k) (sym (sub-add_cancel g)) ∙ pow-add 2 (low f - suc i) (suc i))
          ∙ sym (mul_assoc (suc m) (2 ^ (low f - suc i)) (2 ^ suc i)));
    }

sq_lt : {a b : ℕ} → a < b → a * a < b * b
sq_lt {a} h = lt_of_lt_of_le (omega (arith, suc_sq a)) (sq_le h)

-- ---- on the grid of 2 ^ k: a value of the format is a multiple of it, or is below 2 ^ (prec - 1) of it

data Grid (f : Format) (k w : ℕ) : Type 0 where
  on : (c : ℕ) → w ≡ c * 2 ^ k → Grid f k w
  under : w < 2 ^ (prec f - 1) * 2 ^ k → Grid f k w

grid : (f : Format) (k w : ℕ) → Digits f w → Grid f k w
grid f k w d = go (leb k d.j) (leb→le k d.j) (nleb→lt k d.j)
  where
    go : (b : Bool) → (T b → k ≤ d.j) → (T (not b) → d.j < k) → Grid f k w
    go true l g =
        on (d.m * 2 ^ (d.j - k))
        (d.is
        ∙ ap (λ (i : ℕ). d.m * 2 ^ i) (sym (sub-add_cancel (l tt)))
        ∙ ap (λ (i : ℕ). d.m * i) (pow-add 2 (d.j - k) k)
        ∙ sym (mul_assoc d.m (2 ^ (d.j - k)) (2 ^ k)))
    go false l g =
        let h = g tt in
        let p = prec f in
        let e : p + d.j ≤ p - 1 + k = omega (arith, two f) in
        under
        (lt_of_lt_of_le (subst (λ (i : ℕ). i < 2 ^ p * 2 ^ d.j) (sym d.is) (mul-lt-mul_of_pos_right d.few (pow_pos d.j)))
        (le_trans (le_of_eq (sym (pow-add 2 p d.j))) (le_trans (pow_mono e) (le_of_eq (pow-add 2 (p - 1) k)))))

module _ (f : Format) (x y : Float) (r : Root f x y) where
  abbrev n : ℕ
  n = r.near

  abbrev k : ℕ
  k = r.half

  abbrev v : ℕ
  v = n * 2 ^ k

  -- 2 ^ (prec - 1), the least root
  abbrev p : ℕ
  p = 2 ^ (prec f - 1)

  p_square : p * p ≤ r.square
  p_square =
      let e : 2 * (prec f - 1) ≡ 2 * prec f - 2 = omega arith in
      subst (λ (i : ℕ). i ≤ r.square) (sym (ap (λ (i : ℕ). 2 ^ i) e) ∙ square_pow (prec f - 1)) r.least

  p_near : p ≤ n
  p_near = near_ge r.square n p r.nearest p_square

  -- a square on the grid
  grid_square : (a : ℕ) → a * 2 ^ k * (a * 2 ^ k) ≡ a * a * 2 ^ (2 * k)
  grid_square a = mul-mul-mul_comm a (2 ^ k) a (2 ^ k) ∙ ap (λ (i : ℕ). a * a * i) (sym (square_pow k))

  four_square : 4 * (r.square * 2 ^ (2 * k)) ≡ 4 * r.square * 2 ^ (2 * k)
  four_square = sym (mul_assoc 4 r.square (2 ^ (2 * k)))

  grid_pos : 0 < 2 ^ (2 * k)
  grid_pos = pow_pos (2 * k)

  -- beyond the half-way points
  over-half : (s : ℕ) → (2 * n + 1) * 2 ^ k ≤ s → 4 * (r.square * 2 ^ (2 * k)) < s * s
  over-half s h =
      lt_of_lt_of_le
      (subst (λ (i : ℕ). i < (2 * n + 1) * (2 * n + 1) * 2 ^ (2 * k)) (sym four_square) (mul-lt-mul_of_pos_right r.nearest.under grid_pos))
      (subst (λ (i : ℕ). i ≤ s * s) (grid_square (2 * n + 1)) (sq_le h))

  under-half : (s : ℕ) → s ≤ (2 * n - 1) * 2 ^ k → s * s < 4 * (r.square * 2 ^ (2 * k))
  under-half s h =
      lt_of_le_of_lt (subst (λ (i : ℕ). s * s ≤ i) (grid_square (2 * n - 1)) (sq_le h))
      (subst (λ (i : ℕ). (2 * n - 1) * (2 * n - 1) * 2 ^ (2 * k) < i) (sym four_square) (mul-lt-mul_of_pos_right r.nearest.over grid_pos))

  closest_above : (w : ℕ) → Grid f k w → v < w → 4 * (r.square * 2 ^ (2 * k)) < (v + w) * (v + w)
  closest_above w (on c e) h =
      let l : n < c = lt_of_mul-lt-mul_right (2 ^ k) (subst (λ (i : ℕ). v < i) e h) in
      over-half (v + w)
      (subst (λ (i : ℕ). (2 * n + 1) * 2 ^ k ≤ v + i) (sym e) (le_trans (mul-le-mul_right (2 ^ k) (omega arith)) (le_of_eq (add-mul n c (2 ^ k)))))
  closest_above w (under g) h = absurd (lt_irrefl v (lt_of_lt_of_le h (le_trans (le_of_lt g) (mul-le-mul_right (2 ^ k) p_near))))

  closest_below : (w : ℕ) → Grid f k w → w < v → (v + w) * (v + w) < 4 * (r.square * 2 ^ (2 * k))
  closest_below w (on c e) h =
      let l : c < n = lt_of_mul-lt-mul_right (2 ^ k) (subst (λ (i : ℕ). i < v) e h) in
      under-half (v + w)
      (subst (λ (i : ℕ). v + i ≤ (2 * n - 1) * 2 ^ k) (sym e) (le_trans (le_of_eq (sym (add-mul n c (2 ^ k)))) (mul-le-mul_right (2 ^ k) (omega arith))))
  closest_below w (under g) h = go (ltb p n) (ltb→lt p n) (nltb→le p n)
    where
      go : (b : Bool) → (T b → p < n) → (T (not b) → n ≤ p) → (v + w) * (v + w) < 4 * (r.square * 2 ^ (2 * k))
      go true l q =
          let a = l tt in
          let b : w ≤ (n - 1) * 2 ^ k = le_trans (le_of_lt g) (mul-le-mul_right (2 ^ k) (omega arith)) in
          under-half (v + w)
          (le_trans (omega arith) (le_trans (le_of_eq (sym (add-mul n (n - 1) (2 ^ k)))) (mul-le-mul_right (2 ^ k) (omega arith))))
      go false l q =
          let a = q tt in
          let b : v ≤ p * 2 ^ k = mul-le-mul_right (2 ^ k) a in
          let d : v + w < 2 * p * 2 ^ k = omega (arith, mul_assoc 2 p (2 ^ k)) in
          let e : (v + w) * (v + w) < 2 * p * 2 ^ k * (2 * p * 2 ^ k) = sq_lt d in
          lt_of_lt_of_le e
          (le_trans (le_of_eq (grid_square (2 * p)))
          (le_trans (mul-le-mul_right (2 ^ (2 * k)) (omega (arith, dbl_sq p, p_square))) (le_of_eq (sym four_square))))

  pub root_closest : Closest f x y
  root_closest = record {
    square = r.square * 2 ^ (2 * k);
    units = v;
    x_value = r.scaled;
    y_value = subst (λ (i : Float). HasValue i false v (2 ^ low f)) (sym r.value) (odd_sign (prec f) false n k (low f));
    above = λ z w t h. closest_above w (grid f k w (digits_of_lem f z w t h));
    below = λ z w t h. closest_below w (grid f k w (digits_of_lem f z w t h));
  }

-- ---- one value at most is closest

-- the pattern is the number's alone
pattern : (f : Format) (y z : Float) (w : ℕ) → HasValue y false w (2 ^ low f) → HasValue z false w (2 ^ low f) → to_bits f y ≡ to_bits f z
unfolding to_bits
pattern f nan z w a b = absurd a
pattern f (inf s) z w a b = absurd a
pattern f (fin s m e) nan w a b = absurd b
pattern f (fin s m e) (inf t) w a b = absurd b
pattern f (fin s m e) (fin t i d) w a b =
    let bits : Bool → ℕ → ℕ = λ u n. cond u (top f) 0 + (size n - prec f) * hid f + n / 2 ^ (size n - prec f) in
    ap₂ (λ (u : Bool) (n : ℕ). bits u (n / down e)) a.0 a.1
    ∙ ap (λ (n : ℕ). bits false n) (mul-div_cancel w (down_pos e) ∙ sym (mul-div_cancel w (down_pos d)))
    ∙ sym (ap₂ (λ (u : Bool) (n : ℕ). bits u (n / down d)) b.0 b.1)

same-value : (f : Format) (y z : Float) (w : ℕ) → T (fits f y) → T (fits f z) → HasValue y false w (2 ^ low f) → HasValue z false w (2 ^ low f) → y ≡ z
same-value f y z w t u a b = sym (of_bits-to_bits f y t) ∙ ap (λ (i : ℕ). of_bits f i) (pattern f y z w a b) ∙ of_bits-to_bits f z u

not-below : (f : Format) (x y z : Float) → T (fits f y) → T (fits f z) → (a : Closest f x y) (b : Closest f x z) → a.units ≤ b.units
not-below f x y z t u a b = go (leb a.units b.units) (leb→le a.units b.units) (nleb→lt a.units b.units)
  where
    go : (c : Bool) → (T c → a.units ≤ b.units) → (T (not c) → b.units < a.units) → a.units ≤ b.units
    go true l g = l tt
    go false l g =
        let e : a.square ≡ b.square = value-once x a.square b.square (2 ^ low f * 2 ^ low f) a.x_value b.x_value in
        let p = a.below z b.units u b.y_value (g tt) in
        let q = b.above y a.units t a.y_value (g tt) in
        omega (arith, p, q, e, ap (λ (i : ℕ). i * i) (add_comm a.units b.units))

pub closest_unique : (f : Format) (x y z : Float) → T (fits f y) → T (fits f z) → Closest f x y → Closest f x z → y ≡ z
closest_unique f x y z t u a b =
    let e : a.units ≡ b.units = le_antisymm (not-below f x y z t u a b) (not-below f x z y u t b a) in
    same-value f y z b.units t u (subst (λ (i : ℕ). HasValue y false i (2 ^ low f)) e a.y_value) b.y_value

-- `root_of` of a finite value above zero is that value
pub root_of_closest : (f : Format) (m : ℕ) (e : ℤ) → T (fits f (fin false (suc m) e)) → Closest f (fin false (suc m) e) (root_of f (fin false (suc m) e))
root_of_closest f m e t = root_closest f (fin false (suc m) e) (root_of f (fin false (suc m) e)) (root-near f m e t)
