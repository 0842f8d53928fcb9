-- The root's laws: the definition's result is nearest, by the squares of the half-way points; no other value is; and the format holds it.
-- Assumes nothing.
use mathlib.Core.Path.{◌≡◌, refl, sym, ap, ap₂, ◌∙◌, subst}
use mathlib.Core.Bool.{Bool, true, false, true≢false, not, ◌&&◌, cond}
use Prim.Native.Nat.{ℕ, zero, suc, ◌+◌, ◌-◌, ◌*◌, ◌/◌, ◌%◌, ◌^◌, ◌≤◌, ◌<◌, zero-le}
use native.Mathlib.Nat.{le_trans, le_of_eq, le_of_lt, le_antisymm, lt_of_lt_of_le, lt_of_le_of_lt, lt_irrefl, lt_of_not-le, not-le_of_lt, mul-le-mul, mul-le-mul_left, mul-le-mul_right, mul-lt-mul_of_pos_right, lt_of_mul-lt-mul_right, eq_of_mul-eq-mul_right, mul-mul-mul_comm, mul-add, add-mul, suc-mul, mul-suc, mul_assoc, mul_comm, mul_right_comm, mul-one, zero-mul, mul-pos, two-mul, sub-add_cancel}
use native.Mathlib.Omega.{arith}
use lib.IntN.{ℤ, pos, negsuc}
use lib.Dec.{T, leb, ltb, eqb, leb→le, nleb→lt, ltb→lt, nltb→le, lit≤}
use lib.Pow.{pow-add, pow_pos, pow_mono, pow-lt, shl_lt}
use lib.Ieee.{Float, nan, inf, fin, Format, prec, emax, binary32, binary64, low, up, down, size, odd, fits}
use lib.Ieee.Digits.{size-lt, size_reaches, size-le}
use lib.Ieee.Exact.{HasValue}
use lib.Ieee.Fits.{two, reach, and_l, and_r, down_pos, odd-fits, nan-fits}
use Rattle.definition.specs.Root.{digit, floor_root, nearer, near_root, lift, pairs, rooted, root_of, Nearest, Root}

-- ---- squares

pub dbl_sq : (r : ℕ) → 2 * r * (2 * r) ≡ 4 * (r * r)
dbl_sq r = mul-mul-mul_comm 2 r 2 r

pub odd_sq : (q : ℕ) → (2 * q + 1) * (2 * q + 1) ≡ 4 * (q * q) + 4 * q + 1
odd_sq q = omega (arith, mul-add (2 * q + 1) (2 * q) 1, add-mul (2 * q) 1 (2 * q), dbl_sq q)

pub suc_sq : (q : ℕ) → suc q * suc q ≡ q * q + 2 * q + 1
suc_sq q = omega (arith, suc-mul q (suc q), mul-suc q q)

pub sq_le : {a b : ℕ} → a ≤ b → a * a ≤ b * b
sq_le h = mul-le-mul h h

-- ---- the root without its fraction

abbrev Floor : ℕ → ℕ → Type 0
Floor x q = (q * q ≤ x) × (x < suc q * suc q)

pub four_pow : (d : ℕ) → 2 ^ (2 * suc d) ≡ 4 * 2 ^ (2 * d)
four_pow d = ap (λ (x : ℕ). 2 ^ x) (mul-suc 2 d) ∙ pow-add 2 (2 * d) 2 ∙ mul_comm (2 ^ (2 * d)) 4

digit_floor : (x r : ℕ) → Floor (x / 4) r → Floor x (digit x (2 * r))
digit_floor x r h = go (leb (suc (2 * r) * suc (2 * r)) x) (leb→le (suc (2 * r) * suc (2 * r)) x) (nleb→lt (suc (2 * r) * suc (2 * r)) x)
  where
    go : (b : Bool) → (T b → suc (2 * r) * suc (2 * r) ≤ x) → (T (not b) → x < suc (2 * r) * suc (2 * r)) → Floor x (cond b (suc (2 * r)) (2 * r))
    go true l g = (l tt, omega (arith, suc_sq (suc (2 * r)), suc_sq (2 * r), dbl_sq r, suc_sq r, h.1))
    go false l g = (omega (arith, dbl_sq r, h.0), g tt)

pub floor_root_lem : (d x : ℕ) → x < 2 ^ (2 * d) → Floor x (floor_root d x)
unfolding floor_root
floor_root_lem zero x h = (zero-le, h)
floor_root_lem (suc d) x h = digit_floor x (floor_root d (x / 4)) (floor_root_lem d (x / 4) (omega (arith, four_pow d)))

-- ---- the nearest whole number

below_half : (x q : ℕ) → 0 < x → q * q ≤ x → (2 * q - 1) * (2 * q - 1) < 4 * x
below_half x zero p g = omega arith
below_half x (suc r) p g =
    let s : (2 * suc r - 1) * (2 * suc r - 1) ≤ (2 * r + 1) * (2 * r + 1) = sq_le (omega arith) in
    omega (arith, odd_sq r, suc_sq r)

pub near_down : (x q : ℕ) → 0 < x → q * q ≤ x → 4 * x < (2 * q + 1) * (2 * q + 1) → Nearest x q
near_down x q p g h = record { over = below_half x q p g; under = h }

pub near_up : (x q : ℕ) → x < suc q * suc q → (2 * q + 1) * (2 * q + 1) ≤ 4 * x → Nearest x (suc q)
near_up x q g h =
    let s : (2 * suc q - 1) * (2 * suc q - 1) ≤ (2 * q + 1) * (2 * q + 1) = sq_le (omega arith) in
    record { over = omega (arith, odd_sq q); under = omega (arith, odd_sq (suc q), suc_sq q) }

nearer-near : (x q : ℕ) → 0 < x → Floor x q → Nearest x (nearer x q)
nearer-near x q p h =
    go (ltb (4 * x) ((2 * q + 1) * (2 * q + 1))) (ltb→lt (4 * x) ((2 * q + 1) * (2 * q + 1))) (nltb→le (4 * x) ((2 * q + 1) * (2 * q + 1)))
  where
    go : (b : Bool) → (T b → 4 * x < (2 * q + 1) * (2 * q + 1)) → (T (not b) → (2 * q + 1) * (2 * q + 1) ≤ 4 * x) → Nearest x (cond b q (suc q))
    go true l g = near_down x q p h.0 (l tt)
    go false l g = near_up x q h.1 (g tt)

pub near-root : (d x : ℕ) → 0 < x → x < 2 ^ (2 * d) → Nearest x (near_root d x)
unfolding near_root
near-root d x p h = nearer-near x (floor_root d x) p (floor_root_lem d x h)

near_le : (x n m : ℕ) → Nearest x n → Nearest x m → n ≤ m
near_le x n m a b = go (leb n m) (leb→le n m) (nleb→lt n m)
  where
    go : (t : Bool) → (T t → n ≤ m) → (T (not t) → m < n) → n ≤ m
    go true l g = l tt
    go false l g =
        let h = g tt in
        let s : (2 * m + 1) * (2 * m + 1) ≤ (2 * n - 1) * (2 * n - 1) = sq_le (omega arith) in
        omega (arith, s, a.over, b.under)

pub near_unique : (x n m : ℕ) → Nearest x n → Nearest x m → n ≡ m
near_unique x n m a b = le_antisymm (near_le x n m a b) (near_le x m n b a)

pub near_ge : (x n p : ℕ) → Nearest x n → p * p ≤ x → p ≤ n
near_ge x n p a h = go (leb p n) (leb→le p n) (nleb→lt p n)
  where
    go : (t : Bool) → (T t → p ≤ n) → (T (not t) → n < p) → p ≤ n
    go true l g = l tt
    go false l g =
        let h2 = g tt in
        let s : (2 * n + 1) * (2 * n + 1) ≤ 2 * p * (2 * p) = sq_le (omega arith) in
        omega (arith, s, dbl_sq p, a.under)

pub near-lt : (x n p : ℕ) → Nearest x n → x + p ≤ p * p → n < p
near-lt x n zero a h = omega (arith, a.over)
near-lt x n (suc p) a h = go (leb (suc p) n) (leb→le (suc p) n) (nleb→lt (suc p) n)
  where
    go : (t : Bool) → (T t → suc p ≤ n) → (T (not t) → n < suc p) → n < suc p
    go true l g =
        let h2 = l tt in
        let s : (2 * p + 1) * (2 * p + 1) ≤ (2 * n - 1) * (2 * n - 1) = sq_le (omega arith) in
        omega (arith, s, odd_sq p, suc_sq p, a.over)
    go false l g = g tt

-- a number of at most p digits, moved up, that is below 2 ^ p * 2 ^ p stays 2 ^ p below it
pub below_top : (p m j : ℕ) → m < 2 ^ p → m * 2 ^ j < 2 ^ p * 2 ^ p → m * 2 ^ j + 2 ^ p ≤ 2 ^ p * 2 ^ p
below_top p m j h g = go (leb p j) (leb→le p j) (nleb→lt p j)
  where
    go : (t : Bool) → (T t → p ≤ j) → (T (not t) → j < p) → m * 2 ^ j + 2 ^ p ≤ 2 ^ p * 2 ^ p
    go true l k =
        let e : m * 2 ^ j ≡ m * 2 ^ (j - p) * 2 ^ p =
        ap (λ (x : ℕ). m * 2 ^ x) (sym (sub-add_cancel (l tt))) ∙ ap (λ (x : ℕ). m * x) (pow-add 2 (j - p) p) ∙ sym (mul_assoc m (2 ^ (j - p)) (2 ^ p)) in
        let c : m * 2 ^ (j - p) < 2 ^ p = lt_of_mul-lt-mul_right (2 ^ p) (subst (λ (x : ℕ). x < 2 ^ p * 2 ^ p) e g) in
        omega (arith, e, suc-mul (m * 2 ^ (j - p)) (2 ^ p), mul-le-mul_right (2 ^ p) c)
    go false l k =
        let e : m * 2 ^ j ≤ m * 2 ^ p = mul-le-mul_left m (pow_mono (le_of_lt (k tt))) in
        omega (arith, e, suc-mul m (2 ^ p), mul-le-mul_right (2 ^ p) h)

-- ---- powers of two in order

pub pow_lt_back : (i j : ℕ) → 2 ^ i < 2 ^ j → i < j
pow_lt_back i j h = lt_of_not-le (λ (g : j ≤ i). not-le_of_lt h (pow_mono g))

pub pow_le_back : (i j : ℕ) → 2 ^ i ≤ 2 ^ j → i ≤ j
pow_le_back i j h = go (leb i j) (leb→le i j) (nleb→lt i j)
  where
    go : (t : Bool) → (T t → i ≤ j) → (T (not t) → j < i) → i ≤ j
    go true l g = l tt
    go false l g = absurd (not-le_of_lt (pow-lt (g tt)) h)

pub square_pow : (p : ℕ) → 2 ^ (2 * p) ≡ 2 ^ p * 2 ^ p
square_pow p = ap (λ (x : ℕ). 2 ^ x) (two-mul p) ∙ pow-add 2 p p

-- ---- what a finite value above zero is in squares of the smallest value

roomy : (f : Format) → 2 * prec f ≤ low f + 2
roomy binary32 = lit≤ tt
roomy binary64 = lit≤ tt

pub record Held (f : Format) (m : ℕ) (e : ℤ) : Type 0 where
  pub small : suc m < 2 ^ prec f
  pub fine : down e ≤ 2 ^ low f
  pub bounded : suc m * up e < 2 ^ suc (emax f) * down e

pub held : (f : Format) (s : Bool) (m : ℕ) (e : ℤ) → T (fits f (fin s (suc m) e)) → Held f m e
unfolding fits
held f s m e t =
    let a = eqb (suc m % 2) 1 in
    let b = ltb (suc m) (2 ^ prec f) in
    let c = leb (down e) (2 ^ low f) in
    let d = ltb (suc m * up e) (2 ^ suc (emax f) * down e) in
    let abc = and_l (a && b && c) d t in
    record {
      small = ltb→lt (suc m) (2 ^ prec f) (and_r a b (and_l (a && b) c abc));
      fine = leb→le (down e) (2 ^ low f) (and_r (a && b) c abc);
      bounded = ltb→lt (suc m * up e) (2 ^ suc (emax f) * down e) (and_r (a && b && c) d t);
    }

lift-low : (f : Format) (e : ℤ) → down e ≤ 2 ^ low f → low f ≤ lift f e
lift-low f (pos j) h = omega arith
lift-low f (negsuc j) h = let g : suc j ≤ low f = pow_le_back (suc j) (low f) h in omega arith

pub lift-value : (f : Format) (m : ℕ) (e : ℤ) → down e ≤ 2 ^ low f → m * up e * (2 ^ low f * 2 ^ low f) ≡ m * 2 ^ lift f e * down e
lift-value f m (pos j) h =
    let l = low f in
    mul_assoc m (2 ^ j) (2 ^ l * 2 ^ l)
    ∙ ap (λ (x : ℕ). m * x) (mul_comm (2 ^ j) (2 ^ l * 2 ^ l) ∙ ap (λ (x : ℕ). x * 2 ^ j) (sym (pow-add 2 l l)) ∙ sym (pow-add 2 (l + l) j))
    ∙ sym (mul-one (m * 2 ^ (l + l + j)))
lift-value f m (negsuc j) h =
    let l = low f in
    let g : suc j ≤ l = pow_le_back (suc j) l h in
    let b : l + l - suc j + suc j ≡ l + l = omega arith in
    ap (λ (x : ℕ). x * (2 ^ l * 2 ^ l)) (mul-one m)
    ∙ ap (λ (x : ℕ). m * x) (sym (pow-add 2 l l) ∙ ap (λ (x : ℕ). 2 ^ x) (sym b) ∙ pow-add 2 (l + l - suc j) (suc j))
    ∙ sym (mul_assoc m (2 ^ (l + l - suc j)) (2 ^ suc j))

-- ---- the definition's numbers: z digits, moved up by a, of which k pairs are taken off

module _ (f : Format) (m : ℕ) (e : ℤ) (h : Held f m e) where
  digits-some : 1 ≤ size (suc m)
  digits-some = pow_lt_back 0 (size (suc m)) (lt_of_le_of_lt (omega arith) (size-lt (suc m)))

  digits-few : size (suc m) ≤ prec f
  digits-few = size-le (suc m) (prec f) h.small

  digits-reach : 2 ^ (size (suc m) - 1) ≤ suc m
  digits-reach = let g = digits-some in size_reaches (suc m) (size (suc m) - 1) (omega arith)

  shift_even : 2 * pairs f (size (suc m) + lift f e) ≤ lift f e
  shift_even = omega (arith, digits-some, digits-few, lift-low f e h.fine, roomy f, two f)

  shift_most : size (suc m) + (lift f e - 2 * pairs f (size (suc m) + lift f e)) ≤ 2 * prec f
  shift_most = omega (arith, digits-some, digits-few, lift-low f e h.fine, roomy f, two f)

  shift_least : 2 * prec f - 2 ≤ size (suc m) - 1 + (lift f e - 2 * pairs f (size (suc m) + lift f e))
  shift_least = omega (arith, digits-some, digits-few, lift-low f e h.fine, roomy f, two f)

  -- the numbers of `root_of`: k pairs, and X
  abbrev taken : ℕ
  taken = pairs f (size (suc m) + lift f e)

  abbrev left : ℕ
  left = lift f e - 2 * taken

  abbrev whole : ℕ
  whole = suc m * 2 ^ left

  whole-most : whole < 2 ^ (2 * prec f)
  whole-most = lt_of_lt_of_le (shl_lt (size (suc m)) left (size-lt (suc m))) (pow_mono shift_most)

  whole-least : 2 ^ (2 * prec f - 2) ≤ whole
  whole-least = le_trans (pow_mono shift_least) (le_trans (le_of_eq (pow-add 2 (size (suc m) - 1) left)) (mul-le-mul_right (2 ^ left) digits-reach))

  whole_scaled : whole * 2 ^ (2 * taken) ≡ suc m * 2 ^ lift f e
  whole_scaled =
      mul_assoc (suc m) (2 ^ left) (2 ^ (2 * taken))
      ∙ ap (λ (x : ℕ). suc m * x) (sym (pow-add 2 left (2 * taken)) ∙ ap (λ (x : ℕ). 2 ^ x) (sub-add_cancel shift_even))

  whole-near : Nearest whole (near_root (prec f) whole)
  whole-near = near-root (prec f) whole (lt_of_lt_of_le (pow_pos (2 * prec f - 2)) whole-least) whole-most

  near-most : near_root (prec f) whole < 2 ^ prec f
  near-most =
      near-lt whole (near_root (prec f) whole) (2 ^ prec f) whole-near
      (below_top (prec f) (suc m) left h.small (subst (λ (x : ℕ). whole < x) (square_pow (prec f)) whole-most))

  finite-near : Root f (fin false (suc m) e) (root_of f (fin false (suc m) e))
  unfolding root_of rooted
  finite-near = record {
    square = whole;
    half = taken;
    near = near_root (prec f) whole;
    scaled = (refl, lift-value f (suc m) e h.fine ∙ ap (λ (x : ℕ). x * down e) (sym whole_scaled));
    least = whole-least;
    most = whole-most;
    nearest = whole-near;
    value = refl;
  }

  -- the result is below the format's largest
  reaches : size (suc m) - 1 + lift f e < suc (emax f) + (low f + low f)
  reaches =
      let l = low f in
      let a : suc m * 2 ^ lift f e * down e < 2 ^ suc (emax f) * (2 ^ l * 2 ^ l) * down e =
      subst (λ (x : ℕ). x < 2 ^ suc (emax f) * (2 ^ l * 2 ^ l) * down e) (lift-value f (suc m) e h.fine)
      (subst (λ (x : ℕ). suc m * up e * (2 ^ l * 2 ^ l) < x) (mul_right_comm (2 ^ suc (emax f)) (down e) (2 ^ l * 2 ^ l))
      (mul-lt-mul_of_pos_right h.bounded (mul-pos (pow_pos l) (pow_pos l)))) in
      let b : suc m * 2 ^ lift f e < 2 ^ (suc (emax f) + (l + l)) =
      subst (λ (x : ℕ). suc m * 2 ^ lift f e < x) (ap (λ (x : ℕ). 2 ^ suc (emax f) * x) (sym (pow-add 2 l l)) ∙ sym (pow-add 2 (suc (emax f)) (l + l)))
      (lt_of_mul-lt-mul_right (down e) a) in
      pow_lt_back (size (suc m) - 1 + lift f e) (suc (emax f) + (l + l))
      (lt_of_le_of_lt (le_trans (le_of_eq (pow-add 2 (size (suc m) - 1) (lift f e))) (mul-le-mul_right (2 ^ lift f e) digits-reach)) b)

  taken-most : prec f + taken ≤ low f + suc (emax f)
  taken-most = omega (arith, reaches, digits-some, reach f)

  finite-fits : T (fits f (root_of f (fin false (suc m) e)))
  unfolding root_of rooted
  finite-fits =
      odd-fits f (prec f) false (near_root (prec f) whole) taken near-most (le_of_lt near-most)
      (lt_of_lt_of_le (shl_lt (prec f) taken near-most) (pow_mono taken-most))

-- ---- the theorems

-- the result is nearest: x lies strictly between the squares of the half-way points on either side
pub root-near : (f : Format) (m : ℕ) (e : ℤ) → T (fits f (fin false (suc m) e)) → Root f (fin false (suc m) e) (root_of f (fin false (suc m) e))
root-near f m e t = finite-near f m e (held f false m e t)

-- the format holds it
pub root-fits : (f : Format) (x : Float) → T (fits f x) → T (fits f (root_of f x))
unfolding root_of
root-fits f nan t = nan-fits f
root-fits f (inf true) t = nan-fits f
root-fits f (inf false) t = t
root-fits f (fin s zero e) t = t
root-fits f (fin true (suc m) e) t = nan-fits f
root-fits f (fin false (suc m) e) t = finite-fits f m e (held f false m e t)

-- no other value is nearest
pub value-once : (x : Float) (a b c : ℕ) → HasValue x false a c → HasValue x false b c → a ≡ b
value-once nan a b c p q = absurd p
value-once (inf t) a b c p q = absurd p
value-once (fin t m e) a b c p q = eq_of_mul-eq-mul_right (down e) (down_pos e) a b (sym p.1 ∙ q.1)

half_le : (p x k y j : ℕ) → 1 ≤ p → x < 2 ^ (2 * p) → 2 ^ (2 * p - 2) ≤ y → x * 2 ^ (2 * k) ≡ y * 2 ^ (2 * j) → j ≤ k
half_le p x k y j o h g e =
    let a : x * 2 ^ (2 * k) < 2 ^ (2 * p + 2 * k) = shl_lt (2 * p) (2 * k) h in
    let b : 2 ^ (2 * p - 2 + 2 * j) ≤ y * 2 ^ (2 * j) = le_trans (le_of_eq (pow-add 2 (2 * p - 2) (2 * j))) (mul-le-mul_right (2 ^ (2 * j)) g) in
    let c : 2 * p - 2 + 2 * j < 2 * p + 2 * k = pow_lt_back (2 * p - 2 + 2 * j) (2 * p + 2 * k) (omega arith) in
    omega arith

pub root_unique : (f : Format) (x y z : Float) → Root f x y → Root f x z → y ≡ z
root_unique f x y z a b =
    let p = prec f in
    let c = 2 ^ low f * 2 ^ low f in
    let o : 1 ≤ p = omega (arith, two f) in
    let e : a.square * 2 ^ (2 * a.half) ≡ b.square * 2 ^ (2 * b.half) =
    value-once x (a.square * 2 ^ (2 * a.half)) (b.square * 2 ^ (2 * b.half)) c a.scaled b.scaled in
    let k : a.half ≡ b.half =
    le_antisymm (half_le p b.square b.half a.square a.half o b.most a.least (sym e))
    (half_le p a.square a.half b.square b.half o a.most b.least e) in
    let s : a.square ≡ b.square =
    eq_of_mul-eq-mul_right (2 ^ (2 * a.half)) (pow_pos (2 * a.half)) a.square b.square (e ∙ ap (λ (i : ℕ). b.square * 2 ^ (2 * i)) (sym k)) in
    let n : a.near ≡ b.near = near_unique a.square a.near b.near a.nearest (subst (λ (i : ℕ). Nearest i b.near) (sym s) b.nearest) in
    a.value ∙ ap₂ (λ (i j : ℕ). odd p false i j (low f)) n k ∙ sym b.value

-- so whatever is nearest is the definition's result
pub root_is_lem : (f : Format) (x y : Float) → T (fits f x) → Root f x y → y ≡ root_of f x
root_is_lem f nan y t r = absurd r.scaled
root_is_lem f (inf s) y t r = absurd r.scaled
root_is_lem f (fin true m e) y t r = absurd (true≢false r.scaled.0)
root_is_lem f (fin false zero e) y t r =
    let c = 2 ^ low f * 2 ^ low f in
    let z : 0 ≡ r.square * 2 ^ (2 * r.half) * down e = sym (ap (λ (i : ℕ). i * c) (zero-mul (up e)) ∙ zero-mul c) ∙ r.scaled.1 in
    let p : 0 < r.square = lt_of_lt_of_le (pow_pos (2 * prec f - 2)) r.least in
    let q : 0 < r.square * 2 ^ (2 * r.half) * down e = mul-pos (mul-pos p (pow_pos (2 * r.half))) (down_pos e) in
    absurd (lt_irrefl 0 (subst (λ (i : ℕ). 0 < i) (sym z) q))
root_is_lem f (fin false (suc m) e) y t r = root_unique f (fin false (suc m) e) y (root_of f (fin false (suc m) e)) r (root-near f m e t)
