-- The test of a size line, by quotients where a product could overflow. Assumes nothing.
use mathlib.Core.Path.{◌≡◌, refl, sym, ap, ◌∙◌}
use mathlib.Core.Bool.{Bool, true, false, ◌&&◌}
use Prim.Native.Nat.{ℕ, ◌+◌, ◌*◌, ◌/◌, ◌%◌, ◌≤◌, ◌<◌}
use native.Mathlib.Nat.{div-add-mod', mul-le-mul_right, mod-lt, mul_assoc, mul_comm, suc-mul}
use native.Mathlib.Omega.{arith}
use borrow.Author.Tests.{leb-true, leb-false, le-leb, lt-leb, eq-eqb, ne_eqb}
use lib.Dec.{leb, eqb}
use Rattle.definition.proofs.Fill.{same_or}
use Rattle.market.specs.Market.{right_size}

-- ---- a quotient of e and p

module _ (e p q : ℕ) (some : 1 ≤ q) where
  pub quotient_below : e / q < p → true ≡ leb e (p * q)
  quotient_below h = sym (le-leb e (p * q) (omega (arith, div-add-mod' e q, mod-lt e some, mul-suc-le)))
    where
      mul-suc-le : e / q * q + q ≤ p * q
      mul-suc-le = omega (arith, mul-le-mul_right q h, suc-mul (e / q) q)

  pub quotient_above : p < e / q → false ≡ leb e (p * q)
  quotient_above h = sym (lt-leb e (p * q) (omega (arith, div-add-mod' e q, mul-le-mul_right q h, suc-mul p q)))

  pub quotient_same : e / q ≡ p → eqb (e % q) 0 ≡ leb e (p * q)
  quotient_same h =
      same_or (e % q) 0
      (λ z. eq-eqb (e % q) 0 z ∙ sym (le-leb e (p * q) (omega (arith, whole, z))))
      (λ z. ne_eqb (e % q) 0 z ∙ sym (lt-leb e (p * q) (omega (arith, whole, z))))
    where
      whole : p * q + e % q ≡ e
      whole = ap (λ (x : ℕ). x * q + e % q) (sym h) ∙ div-add-mod' e q

-- ---- halves

halved : (m x y : ℕ) → y ≡ 2 * x → leb m x ≡ leb (2 * m) y
halved m x y h = go (leb m x) refl
  where
    go : (b : Bool) → leb m x ≡ b → leb m x ≡ leb (2 * m) y
    go true e = e ∙ sym (le-leb (2 * m) y (omega (arith, leb-true m x e)))
    go false e = e ∙ sym (lt-leb (2 * m) y (omega (arith, leb-false m x e)))

pub size_other : (r c m : ℕ) → (r ≡ c → ⊥) → false ≡ right_size r c m
unfolding right_size
size_other r c m h = ap (λ (b : Bool). b && leb (2 * m) (r * (r + 1))) (sym (ne_eqb r c h))

size_same : (r c m : ℕ) → r ≡ c → leb (2 * m) (r * (r + 1)) ≡ right_size r c m
unfolding right_size
size_same r c m h = ap (λ (b : Bool). b && leb (2 * m) (r * (r + 1))) (sym (eq-eqb r c h))

pub size_even : (r c m : ℕ) → r ≡ c → r % 2 ≡ 0 → leb m (r / 2 * (r + 1)) ≡ right_size r c m
size_even r c m h e = halved m (r / 2 * (r + 1)) (r * (r + 1)) twice ∙ size_same r c m h
  where
    twice : r * (r + 1) ≡ 2 * (r / 2 * (r + 1))
    twice = ap (λ (x : ℕ). x * (r + 1)) (omega arith) ∙ mul_assoc 2 (r / 2) (r + 1)

pub size-odd : (r c m : ℕ) → r ≡ c → (r % 2 ≡ 0 → ⊥) → leb m (r * (r / 2 + 1)) ≡ right_size r c m
size-odd r c m h o = halved m (r * (r / 2 + 1)) (r * (r + 1)) twice ∙ size_same r c m h
  where
    half : r + 1 ≡ 2 * (r / 2 + 1)
    half = omega arith

    twice : r * (r + 1) ≡ 2 * (r * (r / 2 + 1))
    twice = ap (λ (x : ℕ). r * x) half ∙ sym (mul_assoc r 2 (r / 2 + 1)) ∙ ap (λ (x : ℕ). x * (r / 2 + 1)) (mul_comm r 2) ∙ mul_assoc 2 r (r / 2 + 1)
