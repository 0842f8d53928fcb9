-- The order of all floats: `le` is transitive, and between two values that are no NaN `lt` is the contrary of `le` the other way. So `lt` is a strict weak order off the NaNs. Assumes nothing.
use mathlib.Core.Path.{◌≡◌, refl, sym, ap, ◌∙◌, subst}
use mathlib.Core.Logic.{◌⊎◌, inl, inr}
use mathlib.Core.Bool.{Bool, true, false, not, ◌||◌}
use Prim.Native.Nat.{ℕ, ◌+◌, ◌*◌, ◌≤◌, ◌<◌}
use native.Mathlib.Nat.{mul-pos, mul-lt-mul_of_pos_right, lt_of_mul-lt-mul_right, mul-le-mul_right, le_of_mul-le-mul_right, mul_assoc, mul_comm, mul_left_comm}
use native.Mathlib.Omega.{arith}
use lib.Dec.{T, eqb, eqb→eq, eqb_refl, ltb→lt, lt→ltb, T_not}
use lib.Ieee.{Float, nan, inf, fin, up, down, below, level, lt, eq, le, is_nan}
use lib.Ieee.Fits.{down_pos}
use lib.Ieee.Exact.{HasValue}
use Rattle.definition.proofs.Tests.{or_split, or_l, and_of, and_fst, and_snd, settle}

-- ---- ±a ≤ ±b, with what is negative brought to the other side
abbrev pub plus : Bool → ℕ → ℕ
plus false a = a
plus true a = 0

abbrev pub less : Bool → ℕ → ℕ
less false a = 0
less true a = a

abbrev pub Le : Bool → ℕ → Bool → ℕ → Type 0
Le s a t b = plus s a + less t b ≤ plus t b + less s a

abbrev pub Lt : Bool → ℕ → Bool → ℕ → Type 0
Lt s a t b = plus s a + less t b < plus t b + less s a

-- three fractions
cross3 : (a a' b b' c c' p q r : ℕ) → 0 < q → a * q + b' * p ≤ b * p + a' * q → b * r + c' * q ≤ c * q + b' * r → a * r + c' * p ≤ c * p + a' * r
cross3 a a' b b' c c' p q r Q h k =
    let x : (a * q + b' * p) * r ≤ (b * p + a' * q) * r = mul-le-mul_right r h in
    let y : (b * r + c' * q) * p ≤ (c * q + b' * r) * p = mul-le-mul_right p k in
    let z : (a * r + c' * p) * q ≤ (c * p + a' * r) * q = omega arith in
    le_of_mul-le-mul_right z Q

le3 : (s t u : Bool) (a b c p q r : ℕ) → 0 < q → Le s (a * q) t (b * p) → Le t (b * r) u (c * q) → Le s (a * r) u (c * p)
le3 false false false a b c p q r Q h k = omega (arith, cross3 a 0 b 0 c 0 p q r Q (omega arith) (omega arith))
le3 false false true a b c p q r Q h k = omega (arith, cross3 a 0 b 0 0 c p q r Q (omega arith) (omega arith))
le3 false true false a b c p q r Q h k = omega (arith, cross3 a 0 0 b c 0 p q r Q (omega arith) (omega arith))
le3 false true true a b c p q r Q h k = omega (arith, cross3 a 0 0 b 0 c p q r Q (omega arith) (omega arith))
le3 true false false a b c p q r Q h k = omega (arith, cross3 0 a b 0 c 0 p q r Q (omega arith) (omega arith))
le3 true false true a b c p q r Q h k = omega (arith, cross3 0 a b 0 0 c p q r Q (omega arith) (omega arith))
le3 true true false a b c p q r Q h k = omega (arith, cross3 0 a 0 b c 0 p q r Q (omega arith) (omega arith))
le3 true true true a b c p q r Q h k = omega (arith, cross3 0 a 0 b 0 c p q r Q (omega arith) (omega arith))

-- ---- the tests, as these
below→Lt : (s : Bool) (a : ℕ) (t : Bool) (b : ℕ) → T (below s a t b) → Lt s a t b
below→Lt false a false b h = omega (arith, ltb→lt a b h)
below→Lt false a true b h = absurd h
below→Lt true a false b h = omega (arith, ltb→lt 0 (a + b) h)
below→Lt true a true b h = omega (arith, ltb→lt b a h)

Lt→below : (s : Bool) (a : ℕ) (t : Bool) (b : ℕ) → Lt s a t b → T (below s a t b)
Lt→below false a false b h = lt→ltb a b (omega arith)
Lt→below false a true b h = absurd (omega arith)
Lt→below true a false b h = lt→ltb 0 (a + b) (omega arith)
Lt→below true a true b h = lt→ltb b a (omega arith)

eqb_of : (a b : ℕ) → a ≡ b → T (eqb a b)
eqb_of a b e = subst (λ (x : ℕ). T (eqb a x)) e (eqb_refl a)

level→Le : (s : Bool) (a : ℕ) (t : Bool) (b : ℕ) → T (level s a t b) → Le s a t b
level→Le false a false b h = omega (arith, eqb→eq a b (and_fst (eqb a b) true h))
level→Le false a true b h = omega (arith, eqb→eq a b (and_fst (eqb a b) (eqb a 0) h), eqb→eq a 0 (and_snd (eqb a b) (eqb a 0) h))
level→Le true a false b h = omega arith
level→Le true a true b h = omega (arith, eqb→eq a b (and_fst (eqb a b) true h))

level_of : (s : Bool) (a : ℕ) (t : Bool) (b : ℕ) → Le s a t b → Le t b s a → T (level s a t b)
level_of false a false b h k = and_of (eqb a b) true (eqb_of a b (omega arith)) tt
level_of false a true b h k = and_of (eqb a b) (eqb a 0) (eqb_of a b (omega arith)) (eqb_of a 0 (omega arith))
level_of true a false b h k = and_of (eqb a b) (eqb a 0) (eqb_of a b (omega arith)) (eqb_of a 0 (omega arith))
level_of true a true b h k = and_of (eqb a b) true (eqb_of a b (omega arith)) tt

weaken : (x y : ℕ) → x < y → x ≤ y
weaken x y h = omega arith

either : (x y : ℕ) → (x < y → ⊥) → y ≤ x
either x y h = omega arith

le→Le : (s : Bool) (a : ℕ) (t : Bool) (b : ℕ) → T (below s a t b || level s a t b) → Le s a t b
le→Le s a t b h =
    elim (or_split (below s a t b) (level s a t b) h) [
      | inl u ↦ weaken (plus s a + less t b) (plus t b + less s a) (below→Lt s a t b u)
      | inr u ↦ level→Le s a t b u
    ]

Le→le : (s : Bool) (a : ℕ) (t : Bool) (b : ℕ) → Le s a t b → T (below s a t b || level s a t b)
Le→le s a t b h = go (below s a t b) refl
  where
    go : (v : Bool) → below s a t b ≡ v → T (v || level s a t b)
    go true e = tt
    go false e = level_of s a t b h (either (plus s a + less t b) (plus t b + less s a) (λ l. subst T e (Lt→below s a t b l)))

-- ---- the floats
pub le_trans_all : (x y z : Float) → T (le x y) → T (le y z) → T (le x z)
unfolding le lt eq
le_trans_all nan y z h k = absurd h
le_trans_all (inf s) nan z h k = absurd h
le_trans_all (inf s) (inf t) nan h k = absurd k
le_trans_all (inf true) (inf t) (inf true) h k = tt
le_trans_all (inf true) (inf t) (inf false) h k = tt
le_trans_all (inf false) (inf true) (inf u) h k = absurd h
le_trans_all (inf false) (inf false) (inf true) h k = absurd k
le_trans_all (inf false) (inf false) (inf false) h k = tt
le_trans_all (inf true) (inf t) (fin u o c) h k = tt
le_trans_all (inf false) (inf true) (fin u o c) h k = absurd h
le_trans_all (inf false) (inf false) (fin u o c) h k = absurd k
le_trans_all (inf true) (fin t n d) nan h k = absurd k
le_trans_all (inf true) (fin t n d) (inf true) h k = tt
le_trans_all (inf true) (fin t n d) (inf false) h k = tt
le_trans_all (inf true) (fin t n d) (fin u o c) h k = tt
le_trans_all (inf false) (fin t n d) z h k = absurd h
le_trans_all (fin s m e) nan z h k = absurd h
le_trans_all (fin s m e) (inf true) z h k = absurd h
le_trans_all (fin s m e) (inf false) nan h k = absurd k
le_trans_all (fin s m e) (inf false) (inf true) h k = absurd k
le_trans_all (fin s m e) (inf false) (inf false) h k = tt
le_trans_all (fin s m e) (inf false) (fin u o c) h k = absurd k
le_trans_all (fin s m e) (fin t n d) nan h k = absurd k
le_trans_all (fin s m e) (fin t n d) (inf true) h k = absurd k
le_trans_all (fin s m e) (fin t n d) (inf false) h k = tt
le_trans_all (fin s m e) (fin t n d) (fin u o c) h k =
    Le→le s (m * up e * down c) u (o * up c * down e)
    (le3 s t u (m * up e) (n * up d) (o * up c) (down e) (down d) (down c) (down_pos d)
    (le→Le s (m * up e * down d) t (n * up d * down e) h)
    (le→Le t (n * up d * down c) u (o * up c * down d) k))

-- x < y and y ≤ x exclude each other
pub lt_not_le : (x y : Float) → T (lt x y) → T (le y x) → ⊥
unfolding le lt eq
lt_not_le nan y h k = h
lt_not_le (inf s) nan h k = h
lt_not_le (inf true) (inf true) h k = h
lt_not_le (inf true) (inf false) h k = k
lt_not_le (inf false) (inf t) h k = h
lt_not_le (inf true) (fin t n d) h k = k
lt_not_le (inf false) (fin t n d) h k = h
lt_not_le (fin s m e) nan h k = h
lt_not_le (fin s m e) (inf true) h k = h
lt_not_le (fin s m e) (inf false) h k = k
lt_not_le (fin s m e) (fin t n d) h k =
    clash s (m * up e * down d) t (n * up d * down e) (below→Lt s (m * up e * down d) t (n * up d * down e) h) (le→Le t (n * up d * down e) s (m * up e * down d) k)
  where
    clash : (s : Bool) (a : ℕ) (t : Bool) (b : ℕ) → Lt s a t b → Le t b s a → ⊥
    clash s a t b p q = omega arith

-- one of them holds where neither is a NaN
pub not-lt-le : (x y : Float) → T (not (is_nan x)) → T (not (is_nan y)) → (T (lt x y) → ⊥) → T (le y x)
unfolding le lt eq is_nan
not-lt-le nan y p q h = absurd p
not-lt-le (inf s) nan p q h = absurd q
not-lt-le (inf true) (inf true) p q h = tt
not-lt-le (inf true) (inf false) p q h = absurd (h tt)
not-lt-le (inf false) (inf true) p q h = tt
not-lt-le (inf false) (inf false) p q h = tt
not-lt-le (inf true) (fin t n d) p q h = absurd (h tt)
not-lt-le (inf false) (fin t n d) p q h = tt
not-lt-le (fin s m e) nan p q h = absurd q
not-lt-le (fin s m e) (inf true) p q h = tt
not-lt-le (fin s m e) (inf false) p q h = absurd (h tt)
not-lt-le (fin s m e) (fin t n d) p q h =
    let a = m * up e * down d in
    let b = n * up d * down e in
    Le→le t b s a (either (plus s a + less t b) (plus t b + less s a) (λ l. h (Lt→below s a t b l)))

pub le_real : (x y : Float) → T (le x y) → T (not (is_nan x)) × T (not (is_nan y))
unfolding le lt eq is_nan
le_real nan y h = absurd h
le_real (inf s) nan h = absurd h
le_real (inf s) (inf t) h = (tt, tt)
le_real (inf s) (fin t n d) h = (tt, tt)
le_real (fin s m e) nan h = absurd h
le_real (fin s m e) (inf t) h = (tt, tt)
le_real (fin s m e) (fin t n d) h = (tt, tt)

pub lt→le : (x y : Float) → T (lt x y) → T (le x y)
unfolding le
lt→le x y h = or_l (lt x y) (eq x y) h

pub le_lt_trans : (x y z : Float) → T (le x y) → T (lt y z) → T (lt x z)
le_lt_trans x y z h k =
    settle (lt x z) (λ c. lt_not_le y z k (le_trans_all z x y (not-lt-le x z (le_real x y h).0 (le_real y z (lt→le y z k)).1 (T_not (lt x z) c)) h))

pub lt-le_trans : (x y z : Float) → T (lt x y) → T (le y z) → T (lt x z)
lt-le_trans x y z h k =
    settle (lt x z) (λ c. lt_not_le x y h (le_trans_all y z x k (not-lt-le x z (le_real x y (lt→le x y h)).0 (le_real y z k).1 (T_not (lt x z) c))))

pub lt_trans : (x y z : Float) → T (lt x y) → T (lt y z) → T (lt x z)
lt_trans x y z h k = lt-le_trans x y z h (lt→le y z k)

pub lt_irrefl : (x : Float) → T (lt x x) → ⊥
lt_irrefl x h = lt_not_le x x h (lt→le x x h)

pub lt_asym : (x y : Float) → T (lt x y) → T (lt y x) → ⊥
lt_asym x y h k = lt_not_le x y h (lt→le y x k)

-- a value that is no NaN lies above the lower or below the higher
pub lt_cotrans : (x y z : Float) → T (not (is_nan y)) → T (lt x z) → T (lt x y) ⊎ T (lt y z)
lt_cotrans x y z r h = go (lt x y) refl
  where
    go : (v : Bool) → lt x y ≡ v → T v ⊎ T (lt y z)
    go true e = inl tt
    go false e = inr (le_lt_trans y x z (not-lt-le x y (le_real x z (lt→le x z h)).0 r (λ t. subst T e t)) h)

-- ---- values that are given as fractions of one denominator, with their signs
scaled : (s t : Bool) (a b a' b' k k' : ℕ) → 0 < k → a * k ≡ a' * k' → b * k ≡ b' * k' → Le s a' t b' → Le s a t b
scaled s t a b a' b' k k' K p q h = le_of_mul-le-mul_right (go s t h) K
  where
    go : (s t : Bool) → Le s a' t b' → (plus s a + less t b) * k ≤ (plus t b + less s a) * k
    go false false h = omega (arith, p, q, mul-le-mul_right k' h)
    go false true h = omega (arith, p, q, mul-le-mul_right k' h)
    go true false h = omega (arith, p, q, mul-le-mul_right k' h)
    go true true h = omega (arith, p, q, mul-le-mul_right k' h)

scaled-lt : (s t : Bool) (a b a' b' k k' : ℕ) → 0 < k' → a * k ≡ a' * k' → b * k ≡ b' * k' → Lt s a' t b' → Lt s a t b
scaled-lt s t a b a' b' k k' K p q h = lt_of_mul-lt-mul_right k (go s t h)
  where
    go : (s t : Bool) → Lt s a' t b' → (plus s a + less t b) * k < (plus t b + less s a) * k
    go false false h = omega (arith, p, q, mul-lt-mul_of_pos_right h K)
    go false true h = omega (arith, p, q, mul-lt-mul_of_pos_right h K)
    go true false h = omega (arith, p, q, mul-lt-mul_of_pos_right h K)
    go true true h = omega (arith, p, q, mul-lt-mul_of_pos_right h K)

-- x over its own denominator p, brought to a / c, and a further factor q
pub widened : (x p q a c : ℕ) → x * c ≡ a * p → x * q * c ≡ a * (p * q)
widened x p q a c e = simp (mul_assoc, mul_comm, mul_left_comm) (simp (mul_assoc, mul_comm, mul_left_comm) at (ap (λ (z : ℕ). z * q) e))

pub widened' : (x p q a c : ℕ) → x * c ≡ a * p → x * q * c ≡ a * (q * p)
widened' x p q a c e = widened x p q a c e ∙ ap (λ (z : ℕ). a * z) (mul_comm p q)

pub values-le : (x y : Float) (s t : Bool) (a b c : ℕ) → 0 < c → HasValue x s a c → HasValue y t b c → Le s a t b → T (le x y)
unfolding le lt eq
values-le nan y s t a b c C h k l = absurd h
values-le (inf s') y s t a b c C h k l = absurd h
values-le (fin s' m e) nan s t a b c C h k l = absurd k
values-le (fin s' m e) (inf t') s t a b c C h k l = absurd k
values-le (fin s' m e) (fin t' n d) s t a b c C h k l =
    subst (λ (z : Bool). T (below z (m * up e * down d) t' (n * up d * down e) || level z (m * up e * down d) t' (n * up d * down e))) (sym h.0)
    (subst (λ (z : Bool). T (below s (m * up e * down d) z (n * up d * down e) || level s (m * up e * down d) z (n * up d * down e))) (sym k.0)
    (Le→le s (m * up e * down d) t (n * up d * down e)
    (scaled s t (m * up e * down d) (n * up d * down e) a b c (down e * down d) C (widened (m * up e) (down e) (down d) a c h.1) (widened' (n * up d) (down d) (down e) b c k.1) l)))

pub values-lt : (x y : Float) (s t : Bool) (a b c : ℕ) → HasValue x s a c → HasValue y t b c → Lt s a t b → T (lt x y)
unfolding lt
values-lt nan y s t a b c h k l = absurd h
values-lt (inf s') y s t a b c h k l = absurd h
values-lt (fin s' m e) nan s t a b c h k l = absurd k
values-lt (fin s' m e) (inf t') s t a b c h k l = absurd k
values-lt (fin s' m e) (fin t' n d) s t a b c h k l =
    subst (λ (z : Bool). T (below z (m * up e * down d) t' (n * up d * down e))) (sym h.0)
    (subst (λ (z : Bool). T (below s (m * up e * down d) z (n * up d * down e))) (sym k.0)
    (Lt→below s (m * up e * down d) t (n * up d * down e)
    (scaled-lt s t (m * up e * down d) (n * up d * down e) a b c (down e * down d) (mul-pos (down_pos e) (down_pos d)) (widened (m * up e) (down e) (down d) a c h.1) (widened' (n * up d) (down d) (down e) b c k.1) l)))
