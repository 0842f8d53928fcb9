-- Laws of `first_from`, over any test f. Assumes nothing.
use mathlib.Core.Path.{◌≡◌, refl, sym, ap, ap₂, ◌∙◌}
use mathlib.Core.Logic.{⊎_elim}
use mathlib.Core.Bool.{Bool, true, false, cond}
use Prim.Native.Nat.{ℕ, zero, suc, ◌+◌, ◌-◌, ◌≤◌, ◌<◌}
use native.Mathlib.Numerals.{add-one}
use native.Mathlib.Omega.{arith}
use lib.Dec.{ltb}
use Rattle.definition.specs.Refusals.{first_from, given, given_first}
use Rattle.definition.proofs.Tests.{lt_or_ge}

-- ---- a scan has come to i, of n places
module _ (f : ℕ → Bool) (n i : ℕ) where
  one_more : i < n → first_from f i (n - i) ≡ cond (f i) i (first_from f (i + 1) (n - (i + 1)))
  unfolding first_from
  one_more h =
      let e : n - i ≡ suc (n - (i + 1)) = omega arith in
      ap (first_from f i) e ∙ ap (λ (j : ℕ). cond (f i) i (first_from f j (n - (i + 1)))) (sym (add-one i))

  -- no fault at i: the first is that of the places after i
  pub first-later : i < n → f i ≡ false → first_from f i (n - i) ≡ first_from f (i + 1) (n - (i + 1))
  first-later h e = one_more h ∙ ap (λ (b : Bool). cond b i (first_from f (i + 1) (n - (i + 1)))) e

  pub first-here : i < n → f i ≡ true → first_from f i (n - i) ≡ i
  first-here h e = one_more h ∙ ap (λ (b : Bool). cond b i (first_from f (i + 1) (n - (i + 1)))) e

  pub first-none : n ≤ i → first_from f i (n - i) ≡ i
  unfolding first_from
  first-none h = let e : n - i ≡ 0 = omega arith in ap (first_from f i) e

-- where a scan from 0 begins
pub first-start : (f : ℕ → Bool) (n : ℕ) → first_from f 0 n ≡ first_from f 0 (n - 0)
first-start f n = let e : n ≡ n - 0 = omega arith in ap (first_from f 0) e

-- the code's verdict on the first fault x, of the places up to e
pub given-first : (f : ℕ → Bool) (a m r : ℕ) {x e : ℕ} → x ≡ first_from f a m → e ≡ a + m → given (ltb x e) r x ≡ given_first f a m r
given-first f a m r p q = ap₂ (λ (y i : ℕ). given (ltb y i) r y) p q

-- ---- where none is found, no place has a fault
next-all : (f : ℕ → Bool) (a m i : ℕ) (b : Bool) → f a ≡ b → a + suc m ≤ cond b a (first_from f (suc a) m) → a ≤ i
    → (suc a + m ≤ first_from f (suc a) m → suc a ≤ i → f i ≡ false) → f i ≡ false
next-all f a m i true e h p later = absurd (omega arith)
next-all f a m i false e h p later =
    ⊎_elim (λ l. later (omega arith) (omega arith)) (λ l. let s : i ≡ a = omega arith in ap f s ∙ e) (lt_or_ge a i)

pub first-all : (f : ℕ → Bool) (a m i : ℕ) → a + m ≤ first_from f a m → a ≤ i → i < a + m → f i ≡ false
unfolding first_from
first-all f a zero i h p q = absurd (omega arith)
first-all f a (suc m) i h p q = next-all f a m i (f a) refl h p (λ g l. first-all f (suc a) m i g l (omega arith))

-- and where no place has a fault, none is found
pub all_first : (f : ℕ → Bool) (a m : ℕ) → ((i : ℕ) → a ≤ i → i < a + m → f i ≡ false) → first_from f a m ≡ a + m
unfolding first_from
all_first f a zero h = omega arith
all_first f a (suc m) h =
    ap (λ (b : Bool). cond b a (first_from f (suc a) m)) (h a (omega arith) (omega arith))
    ∙ all_first f (suc a) m (λ i p q. h i (omega arith) (omega arith)) ∙ omega arith
