-- A quotient and a difference of two values that are not negative, by any fractions that they equal. Assumes nothing.
use mathlib.Core.Path.{◌≡◌, refl, sym, ap, ◌∙◌, subst}
use mathlib.Core.Bool.{Bool, true, false, cond}
use Prim.Native.Nat.{ℕ, ◌-◌, ◌*◌, ◌≤◌, ◌<◌}
use native.Mathlib.Nat.{mul-pos, mul_comm, mul_assoc, mul_left_comm, mul-sub, mul-le-mul_right, mul-lt-mul_of_pos_right, le_of_mul-le-mul_right, lt_of_mul-lt-mul_right, not-le_of_lt}
use native.Mathlib.Omega.{arith}
use lib.Dec.{T, eqb, ltb, eqb→eq, ltb→lt, lt→ltb}
use lib.IntN.{ℤ}
use lib.Ieee.{Float, nan, inf, fin, Format, up, down, round, sum, div, sub}
use lib.Ieee.Fits.{up_pos, down_pos}
use lib.Ieee.Exact.{HasValue}
use lib.Ieee.Scale.{round_same}
use lib.Ieee.Positive.{first_pos}
use Rattle.definition.proofs.FloatOrder.{widened, widened'}

sign_false : {A : Type 0} → true ≡ false → A
sign_false p = absurd (subst T p tt)

zero-no : (n : ℕ) → 0 < n → n ≡ 0 → ⊥
zero-no n h e = omega arith

pub pick-div : (n : ℕ) (z x : Float) → 0 < n → cond (eqb n 0) z x ≡ x
pick-div n z x h = go (eqb n 0) (eqb→eq n 0)
  where
    go : (b : Bool) → (T b → n ≡ 0) → cond b z x ≡ x
    go true k = absurd (zero-no n h (k tt))
    go false k = refl

pub div-at : (f : Format) (x y : Float) (a c b d : ℕ) → 0 < c → 0 < b → HasValue x false a c → HasValue y false b d → div f x y ≡ round f false (a * d) (b * c)
unfolding div
div-at f nan y a c b d C B h k = absurd h
div-at f (inf s) y a c b d C B h k = absurd h
div-at f (fin true m e) y a c b d C B h k = sign_false h.0
div-at f (fin false m e) nan a c b d C B h k = absurd k
div-at f (fin false m e) (inf t) a c b d C B h k = absurd k
div-at f (fin false m e) (fin true n i) a c b d C B h k = sign_false k.0
div-at f (fin false m e) (fin false n i) a c b d C B h k =
    let N : 0 < n = first_pos n (up i) (first_pos (n * up i) d (subst (λ (z : ℕ). 0 < z) (sym k.1) (mul-pos B (down_pos i)))) in
    pick-div n (cond (eqb m 0) nan (inf false)) (round f false (m * up e * down i) (n * up i * down e)) N
    ∙ round_same f false (m * up e * down i) (n * up i * down e) (a * d) (b * c) (mul-pos (mul-pos N (up_pos i)) (down_pos e)) (mul-pos B C)
    (cross (m * up e) (down e) (n * up i) (down i) a c b d h.1 k.1)
  where
    cross : (x p y q a c b d : ℕ) → x * c ≡ a * p → y * d ≡ b * q → x * q * (b * c) ≡ a * d * (y * p)
    cross x p y q a c b d u v =
        let l : x * c * (b * q) ≡ a * p * (y * d) = ap (λ (z : ℕ). z * (b * q)) u ∙ ap (λ (z : ℕ). a * p * z) (sym v) in
        simp (mul_assoc, mul_comm, mul_left_comm) (simp (mul_assoc, mul_comm, mul_left_comm) at l)

-- ---- the difference, over one denominator
pub opened : (f : Format) (m : ℕ) (e : ℤ) (n : ℕ) (d : ℤ) → sub f (fin false m e) (fin false n d) ≡ sum f false (m * up e * down d) true (n * up d * down e) (down e * down d)
unfolding sub
opened f m e n d = refl

pick_less : (f : Format) (a b c : ℕ) → a < b → sum f false a true b c ≡ round f true (b - a) c
unfolding sum
pick_less f a b c h = go (ltb a b) (lt→ltb a b h)
  where
    go : (t : Bool) → T t → cond t (round f true (b - a) c) (round f false (a - b) c) ≡ round f true (b - a) c
    go true k = refl
    go false k = absurd k

pub pick_more : (f : Format) (a b c : ℕ) → b ≤ a → sum f false a true b c ≡ round f false (a - b) c
unfolding sum
pick_more f a b c h = go (ltb a b) (ltb→lt a b)
  where
    go : (t : Bool) → (T t → a < b) → cond t (round f true (b - a) c) (round f false (a - b) c) ≡ round f false (a - b) c
    go true k = absurd (not-le_of_lt (k tt) h)
    go false k = refl

-- A / C and B / C are a / c and b / c
gap : (A B C a b c : ℕ) → A * c ≡ a * C → B * c ≡ b * C → (B - A) * c ≡ (b - a) * C
gap A B C a b c p q =
    mul_comm (B - A) c ∙ mul-sub c B A ∙ ap (λ (z : ℕ). z - c * A) (mul_comm c B ∙ q ∙ mul_comm b C) ∙ ap (λ (z : ℕ). C * b - z) (mul_comm c A ∙ p ∙ mul_comm a C) ∙ sym (mul-sub C b a) ∙ mul_comm C (b - a)

keeps_lt : (A B C a b c : ℕ) → 0 < C → A * c ≡ a * C → B * c ≡ b * C → a < b → A < B
keeps_lt A B C a b c P p q h = lt_of_mul-lt-mul_right c (omega (arith, p, q, mul-lt-mul_of_pos_right h P))

keeps_le : (A B C a b c : ℕ) → 0 < c → A * c ≡ a * C → B * c ≡ b * C → b ≤ a → B ≤ A
keeps_le A B C a b c P p q h = le_of_mul-le-mul_right (omega (arith, p, q, mul-le-mul_right C h)) P

pub sub_less : (f : Format) (x y : Float) (a b c : ℕ) → 0 < c → a < b → HasValue x false a c → HasValue y false b c → sub f x y ≡ round f true (b - a) c
sub_less f nan y a b c C l h k = absurd h
sub_less f (inf s) y a b c C l h k = absurd h
sub_less f (fin true m e) y a b c C l h k = sign_false h.0
sub_less f (fin false m e) nan a b c C l h k = absurd k
sub_less f (fin false m e) (inf t) a b c C l h k = absurd k
sub_less f (fin false m e) (fin true n d) a b c C l h k = sign_false k.0
sub_less f (fin false m e) (fin false n d) a b c C l h k =
    let A = m * up e * down d in
    let B = n * up d * down e in
    let D = down e * down d in
    let P : 0 < down e * down d = mul-pos (down_pos e) (down_pos d) in
    let p : m * up e * down d * c ≡ a * (down e * down d) = widened (m * up e) (down e) (down d) a c h.1 in
    let q : n * up d * down e * c ≡ b * (down e * down d) = widened' (n * up d) (down d) (down e) b c k.1 in
    opened f m e n d ∙ pick_less f A B D (keeps_lt A B D a b c P p q l) ∙ round_same f true (B - A) D (b - a) c P C (gap A B D a b c p q)

pub sub_more : (f : Format) (x y : Float) (a b c : ℕ) → 0 < c → b ≤ a → HasValue x false a c → HasValue y false b c → sub f x y ≡ round f false (a - b) c
sub_more f nan y a b c C l h k = absurd h
sub_more f (inf s) y a b c C l h k = absurd h
sub_more f (fin true m e) y a b c C l h k = sign_false h.0
sub_more f (fin false m e) nan a b c C l h k = absurd k
sub_more f (fin false m e) (inf t) a b c C l h k = absurd k
sub_more f (fin false m e) (fin true n d) a b c C l h k = sign_false k.0
sub_more f (fin false m e) (fin false n d) a b c C l h k =
    let A = m * up e * down d in
    let B = n * up d * down e in
    let D = down e * down d in
    let P : 0 < down e * down d = mul-pos (down_pos e) (down_pos d) in
    let p : m * up e * down d * c ≡ a * (down e * down d) = widened (m * up e) (down e) (down d) a c h.1 in
    let q : n * up d * down e * c ≡ b * (down e * down d) = widened' (n * up d) (down d) (down e) b c k.1 in
    opened f m e n d ∙ pick_more f A B D (keeps_le A B D a b c C p q l) ∙ round_same f false (A - B) D (a - b) c P C (gap B A D b a c q p)
