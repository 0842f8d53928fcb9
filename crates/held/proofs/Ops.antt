-- Families of updates, one for each chunk: those that are done in any order are those that are done upward. Assumes nothing.
use mathlib.Core.Path.{◌≡◌, refl, sym, ap, ◌∙◌}
use mathlib.Core.Bool.{Bool, true, false, cond}
use Prim.Native.Nat.{ℕ, zero, suc, ◌<◌}
use native.Mathlib.Omega.{arith}
use Rattle.definition.proofs.Fill.{split}
use Rattle.held.specs.Calls.{parts, whole}

module _ {M : Type 0} where
  -- the updates of two chunks can be done in either order
  abbrev pub Apart : (ℕ → M → M) → (ℕ → M → M) → Type 0
  Apart a b = (h k : ℕ) → (h ≡ k → ⊥) → (m : M) → a h (b k m) ≡ b k (a h m)

  pub parts_ext : (op : ℕ → M → M) (d e : ℕ → Bool) (n : ℕ) (m : M) → ((h : ℕ) → h < n → d h ≡ e h) → parts op d n m ≡ parts op e n m
  unfolding parts
  parts_ext op d e zero m q = refl
  parts_ext op d e (suc k) m q =
      ap (λ (b : Bool). cond b (op k (parts op d k m)) (parts op d k m)) (q k (omega arith))
      ∙ ap (λ (x : M). cond (e k) (op k x) x) (parts_ext op d e k m (λ h r. q h (omega arith)))

  pub parts_none : (op : ℕ → M → M) (d : ℕ → Bool) (n : ℕ) (m : M) → ((h : ℕ) → h < n → d h ≡ false) → parts op d n m ≡ m
  unfolding parts
  parts_none op d zero m q = refl
  parts_none op d (suc k) m q =
      ap (λ (b : Bool). cond b (op k (parts op d k m)) (parts op d k m)) (q k (omega arith)) ∙ parts_none op d k m (λ h r. q h (omega arith))

  pub parts_all : (op : ℕ → M → M) (d : ℕ → Bool) (n : ℕ) (m : M) → ((h : ℕ) → h < n → d h ≡ true) → parts op d n m ≡ whole op n m
  unfolding parts whole
  parts_all op d zero m q = refl
  parts_all op d (suc k) m q =
      ap (λ (b : Bool). cond b (op k (parts op d k m)) (parts op d k m)) (q k (omega arith)) ∙ ap (op k) (parts_all op d k m (λ h r. q h (omega arith)))

  -- one chunk more, whichever
  pub parts_add : (op : ℕ → M → M) → Apart op op → (d e : ℕ → Bool) (h n : ℕ) (m : M) → h < n → d h ≡ false → e h ≡ true
      → ((k : ℕ) → k < n → (k ≡ h → ⊥) → e k ≡ d k) → op h (parts op d n m) ≡ parts op e n m
  unfolding parts
  parts_add op a d e h zero m l p q r = absurd (omega arith)
  parts_add op a d e h (suc k) m l p q r =
      split h k
      (λ s. both (d k) (parts_add op a d e h k m s p q (λ j t u. r j (omega arith) u)) (λ z. omega arith)
      ∙ ap (λ (b : Bool). cond b (op k (parts op e k m)) (parts op e k m)) (sym (r k (omega arith) (λ z. omega arith))))
      (λ s. let z : h ≡ k = omega arith in
      ap (λ (b : Bool). op h (cond b (op k (parts op d k m)) (parts op d k m))) (ap d (sym z) ∙ p)
      ∙ ap (op h) (parts_ext op d e k m (λ j t. sym (r j (omega arith) (λ w. omega arith))))
      ∙ ap (λ (i : ℕ). op i (parts op e k m)) z
      ∙ ap (λ (b : Bool). cond b (op k (parts op e k m)) (parts op e k m)) (sym (ap e (sym z) ∙ q)))
    where
      both : (b : Bool) → op h (parts op d k m) ≡ parts op e k m → (h ≡ k → ⊥)
          → op h (cond b (op k (parts op d k m)) (parts op d k m)) ≡ cond b (op k (parts op e k m)) (parts op e k m)
      both true i ne = a h k ne (parts op d k m) ∙ ap (op k) i
      both false i ne = i

  -- ---- what every update keeps, all of them keep, and some of them

  pub whole-holds : (op : ℕ → M → M) (P : M → Type 0) → ((h : ℕ) (m : M) → P m → P (op h m)) → (n : ℕ) (m : M) → P m → P (whole op n m)
  unfolding whole
  whole-holds op P q zero m x = x
  whole-holds op P q (suc k) m x = q k (whole op k m) (whole-holds op P q k m x)

  pub whole_keeps : {X : Type 0} (op : ℕ → M → M) (f : M → X) → ((h : ℕ) (m : M) → f (op h m) ≡ f m) → (n : ℕ) (m : M) → f (whole op n m) ≡ f m
  whole_keeps op f q n m = whole-holds op (λ x. f x ≡ f m) (λ h x e. q h x ∙ e) n m refl

  pub parts-holds : (op : ℕ → M → M) (P : M → Type 0) → ((h : ℕ) (m : M) → P m → P (op h m)) → (d : ℕ → Bool) (n : ℕ) (m : M) → P m → P (parts op d n m)
  unfolding parts
  parts-holds op P q d zero m x = x
  parts-holds op P q d (suc k) m x = go (d k) (parts op d k m) (parts-holds op P q d k m x)
    where
      go : (b : Bool) (y : M) → P y → P (cond b (op k y) y)
      go true y z = q k y z
      go false y z = z

  pub parts_keeps : {X : Type 0} (op : ℕ → M → M) (f : M → X) → ((h : ℕ) (m : M) → f (op h m) ≡ f m) → (d : ℕ → Bool) (n : ℕ) (m : M) → f (parts op d n m) ≡ f m
  parts_keeps op f q d n m = parts-holds op (λ x. f x ≡ f m) (λ h x e. q h x ∙ e) d n m refl

  -- ---- a chunk that updates two lists

  -- what chunk h does to the one and then to the other
  abbrev pub thence : (ℕ → M → M) → (ℕ → M → M) → ℕ → M → M
  thence a b h m = b h (a h m)

  pub apart_thence : (a b : ℕ → M → M) → Apart a a → Apart b b → Apart a b → Apart (thence a b) (thence a b)
  apart_thence a b p q r h k ne m =
      ap (b h) (r h k ne (a k m) ∙ ap (b k) (p h k ne m)) ∙ q h k ne (a k (a h m)) ∙ ap (b k) (sym (r k h (λ z. ne (sym z)) (a h m)))
