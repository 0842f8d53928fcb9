-- Quotients and differences of values that are finite and above zero: x / y grows with x and shrinks as y grows, and x - y grows with x. Assumes nothing.
use mathlib.Core.Path.{◌≡◌, sym, ◌∙◌, subst}
use Prim.Native.Nat.{ℕ, ◌-◌, ◌*◌, ◌≤◌, ◌<◌}
use native.Mathlib.Nat.{le_trans, le_of_eq, mul_comm, mul_assoc, mul_left_comm, mul-le-mul, mul-le-mul_right, mul-pos, mul-sub}
use native.Mathlib.Omega.{arith}
use mathlib.Core.Bool.{true, false, cond}
use lib.Dec.{T, eqb, ltb→lt}
use lib.Ieee.{Float, nan, inf, fin, Format, up, down, round, div, sub, le}
use lib.Ieee.Fits.{up_pos}
use lib.Ieee.Order.{round_mono}
use lib.Ieee.Positive.{num, den, positive, den_pos, le→cross, le_trans_positive}
use Rattle.definition.proofs.Exactly.{pick-div, opened, pick_more}

num_above : (x : Float) → T (positive x) → 0 < num x
num_above nan p = absurd p
num_above (inf s) p = absurd p
num_above (fin true m e) p = absurd p
num_above (fin false m e) p = mul-pos (ltb→lt 0 m p) (up_pos e)

pub div_is : (f : Format) (x y : Float) → T (positive x) → T (positive y) → div f x y ≡ round f false (num x * den y) (num y * den x)
unfolding div
div_is f nan y p q = absurd p
div_is f (inf s) y p q = absurd p
div_is f (fin true m e) y p q = absurd p
div_is f (fin false m e) nan p q = absurd q
div_is f (fin false m e) (inf t) p q = absurd q
div_is f (fin false m e) (fin true n d) p q = absurd q
div_is f (fin false m e) (fin false n d) p q =
    pick-div n (cond (eqb m 0) nan (inf false)) (round f false (m * up e * down d) (n * up d * down e)) (ltb→lt 0 n q)

-- x / y ≤ x' / y' for x ≤ x' and y' ≤ y
pub div_mono : (f : Format) (x x' y y' : Float) → T (positive x) → T (positive x') → T (positive y) → T (positive y') → T (le x x') → T (le y' y) → T (le (div f x y) (div f x' y'))
div_mono f x x' y y' p p' q q' h k =
    subst (λ (z : Float). T (le z (div f x' y'))) (sym (div_is f x y p q))
    (subst (λ (z : Float). T (le (round f false (num x * den y) (num y * den x)) z)) (sym (div_is f x' y' p' q'))
    (round_mono f (num x * den y) (num y * den x) (num x' * den y') (num y' * den x') (mul-pos (num_above y q) (den_pos x)) (mul-pos (num_above y' q') (den_pos x'))
    (cross (num x) (den x) (num x') (den x') (num y) (den y) (num y') (den y') (le→cross x x' p p' h) (le→cross y' y q' q k))))
  where
    cross : (a b a' b' c d c' d' : ℕ) → a * b' ≤ a' * b → c' * d ≤ c * d' → a * d * (c' * b') ≤ a' * d' * (c * b)
    cross a b a' b' c d c' d' u v =
        let l : a * b' * (c' * d) ≤ a' * b * (c * d') = mul-le-mul u v in
        simp (mul_assoc, mul_comm, mul_left_comm) (simp (mul_assoc, mul_comm, mul_left_comm) at l)

-- ---- differences
pub sub_is : (f : Format) (x y : Float) → T (positive x) → T (positive y) → T (le y x) → sub f x y ≡ round f false (num x * den y - num y * den x) (den x * den y)
sub_is f nan y p q h = absurd p
sub_is f (inf s) y p q h = absurd p
sub_is f (fin true m e) y p q h = absurd p
sub_is f (fin false m e) nan p q h = absurd q
sub_is f (fin false m e) (inf t) p q h = absurd q
sub_is f (fin false m e) (fin true n d) p q h = absurd q
sub_is f (fin false m e) (fin false n d) p q h = opened f m e n d ∙ pick_more f (m * up e * down d) (n * up d * down e) (down e * down d) (le→cross (fin false n d) (fin false m e) q p h)

less : (p q r s : ℕ) → p ≤ r → q ≡ s → p - q ≤ r - s
less p q r s e h = omega arith

-- X / dx - Y / dy ≤ Z / dz - Y / dy for X / dx ≤ Z / dz
grow : (X dx Z dz Y dy : ℕ) → X * dz ≤ Z * dx → (X * dy - Y * dx) * (dz * dy) ≤ (Z * dy - Y * dz) * (dx * dy)
grow X dx Z dz Y dy h =
    let a : dz * dy * (X * dy) ≤ dx * dy * (Z * dy) = simp (mul_assoc, mul_comm, mul_left_comm) (simp (mul_assoc, mul_comm, mul_left_comm) at (mul-le-mul_right (dy * dy) h)) in
    let b : dz * dy * (Y * dx) ≡ dx * dy * (Y * dz) = simp (mul_assoc, mul_comm, mul_left_comm) in
    le_trans (le_of_eq (mul_comm (X * dy - Y * dx) (dz * dy) ∙ mul-sub (dz * dy) (X * dy) (Y * dx)))
    (le_trans (less (dz * dy * (X * dy)) (dz * dy * (Y * dx)) (dx * dy * (Z * dy)) (dx * dy * (Y * dz)) a b)
    (le_of_eq (sym (mul_comm (Z * dy - Y * dz) (dx * dy) ∙ mul-sub (dx * dy) (Z * dy) (Y * dz)))))

pub sub_mono : (f : Format) (x x' y : Float) → T (positive x) → T (positive x') → T (positive y) → T (le x x') → T (le y x) → T (le (sub f x y) (sub f x' y))
sub_mono f x x' y p p' q h k =
    subst (λ (z : Float). T (le z (sub f x' y))) (sym (sub_is f x y p q k))
    (subst (λ (z : Float). T (le (round f false (num x * den y - num y * den x) (den x * den y)) z)) (sym (sub_is f x' y p' q (le_trans_positive y x x' q p p' k h)))
    (round_mono f (num x * den y - num y * den x) (den x * den y) (num x' * den y - num y * den x') (den x' * den y) (mul-pos (den_pos x) (den_pos y)) (mul-pos (den_pos x') (den_pos y))
    (grow (num x) (den x) (num x') (den x') (num y) (den y) (le→cross x x' p p' h))))

-- x - y is no more than a larger x' rounded
pub sub-under : (f : Format) (x x' y : Float) → T (positive x) → T (positive x') → T (positive y) → T (le x x') → T (le y x) → T (le (sub f x y) (round f false (num x') (den x')))
sub-under f x x' y p p' q h k =
    subst (λ (z : Float). T (le z (round f false (num x') (den x')))) (sym (sub_is f x y p q k))
    (round_mono f (num x * den y - num y * den x) (den x * den y) (num x') (den x') (mul-pos (den_pos x) (den_pos y)) (den_pos x')
    (le_trans (mul-le-mul_right (den x') (below (num x * den y) (num y * den x))) (cross (num x) (den x) (num x') (den x') (den y) (le→cross x x' p p' h))))
  where
    below : (a b : ℕ) → a - b ≤ a
    below a b = omega arith

    cross : (a b a' b' d : ℕ) → a * b' ≤ a' * b → a * d * b' ≤ a' * (b * d)
    cross a b a' b' d u = simp (mul_assoc, mul_comm, mul_left_comm) (simp (mul_assoc, mul_comm, mul_left_comm) at (mul-le-mul_right d u))
