-- Lists of floats and lists of their bits. Assumes nothing.
use mathlib.Core.Path.{◌≡◌, refl, ap, ap₂}
use mathlib.Core.Bool.{true, not, false≢true}
use mathlib.Core.List.{List, [], ◌∷◌, ◌++◌}
use Prim.Native.Nat.{ℕ, zero, suc, ◌≤◌, ◌<◌}
use native.Mathlib.Omega.{arith}
use lib.Dec.{T}
use lib.Ieee.{Float, nan, inf, fin, binary64, fits, is_nan, lt, of_bits, to_bits}
use lib.Ieee.Bits.{of_bits-to_bits, to_bits-lt, to_bits-of_bits}
use lib.ListN.{length, get_or, take}
use Rattle.definition.specs.Arith.{is_finite}
use Rattle.reading.specs.Grammar.{largest64}
use Rattle.reading.specs.ReadRun.{floats_of}
use Rattle.files.specs.RunText.{bits_of}

-- ---- one float
-- a finite one is no NaN
finite_number : (x : Float) → is_finite x ≡ true → T (not (is_nan x))
unfolding lt is_nan
finite_number nan h = absurd (false≢true h)
finite_number (inf s) h = tt
finite_number (fin s m e) h = tt

-- the bits of a finite one that was read are those that were read
pub bits_again : (v : ℕ) → v ≤ largest64 → is_finite (of_bits binary64 v) ≡ true → to_bits binary64 (of_bits binary64 v) ≡ v
bits_again v l h = to_bits-of_bits binary64 v (omega arith) (finite_number (of_bits binary64 v) h)

-- 16 hex digits hold the bits of a double
pub bits_most : (x : Float) → T (fits binary64 x) → to_bits binary64 x ≤ largest64
bits_most x h = omega (arith, to_bits-lt binary64 x h)

-- ---- lists of them
pub length-bits : (xs : List Float) → length (bits_of xs) ≡ length xs
unfolding bits_of
length-bits [] = refl
length-bits (x ∷ xs) = ap suc (length-bits xs)

pub length_floats : (vs : List ℕ) → length (floats_of vs) ≡ length vs
unfolding floats_of
length_floats [] = refl
length_floats (v ∷ vs) = ap suc (length_floats vs)

-- the floats of a list's front
pub take_floats : (vs zs : List ℕ) → take (length vs) (floats_of (vs ++ zs)) ≡ floats_of vs
unfolding floats_of
take_floats [] zs = refl
take_floats (v ∷ vs) zs = ap (λ (l : List Float). of_bits binary64 v ∷ l) (take_floats vs zs)

pub bits_at : (xs : List Float) (i : ℕ) → i < length xs → get_or (bits_of xs) i 0 ≡ to_bits binary64 (get_or xs i nan)
unfolding bits_of
bits_at [] i h = absurd (omega arith)
bits_at (x ∷ xs) zero h = refl
bits_at (x ∷ xs) (suc i) h = bits_at xs i (omega arith)

-- doubles are the floats of their bits
pub floats_bits : (xs : List Float) → ((e : ℕ) → e < length xs → T (fits binary64 (get_or xs e nan))) → floats_of (bits_of xs) ≡ xs
unfolding floats_of bits_of
floats_bits [] h = refl
floats_bits (x ∷ xs) h =
    ap₂ (λ (y : Float) (ys : List Float). y ∷ ys) (of_bits-to_bits binary64 x (h 0 (omega arith))) (floats_bits xs (λ e q. h (suc e) (omega arith)))

-- and bits are those of their floats, where these are finite
pub bits_floats : (vs : List ℕ) → ((i : ℕ) → i < length vs → get_or vs i 0 ≤ largest64)
    → ((e : ℕ) → e < length vs → is_finite (get_or (floats_of vs) e nan) ≡ true) → bits_of (floats_of vs) ≡ vs
unfolding floats_of bits_of
bits_floats [] l h = refl
bits_floats (v ∷ vs) l h =
    ap₂ (λ (w : ℕ) (ws : List ℕ). w ∷ ws) (bits_again v (l 0 (omega arith)) (h 0 (omega arith)))
    (bits_floats vs (λ i q. l (suc i) (omega arith)) (λ e q. h (suc e) (omega arith)))
