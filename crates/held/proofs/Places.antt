-- Laws of `fill_where`: length, inside, outside, another function, another test, disjoint sets of places, a range. Assumes nothing.
use mathlib.Core.Path.{◌≡◌, refl, sym, ap, ◌∙◌}
use mathlib.Core.List.{List}
use mathlib.Core.Bool.{Bool, true, false, cond, ◌&&◌}
use Prim.Native.Nat.{ℕ, ◌<◌}
use native.Mathlib.Nat.{zero-add}
use native.Mathlib.Omega.{arith}
use lib.Dec.{leb, ltb}
use lib.ListN.{length, get_or, get_or-eq_default}
use Rattle.definition.specs.Memory.{pick, fill_range}
use Rattle.definition.proofs.Fill.{split, length-map_from, get_d_map_from, map_from_ext, map_from_twice}
use Rattle.held.specs.Places.{fill_where}

module _ {E : Type 0} where
  pub where_length : (s : ℕ → Bool) (f : ℕ → E) (xs : List E) → length (fill_where s f xs) ≡ length xs
  unfolding fill_where
  where_length s f xs = length-map_from 0 (λ i x. cond (s i) (f i) x) xs

  -- a place of the list
  at : (s : ℕ → Bool) (f : ℕ → E) (xs : List E) (i : ℕ) (d : E) → i < length xs → get_or (fill_where s f xs) i d ≡ cond (s i) (f i) (get_or xs i d)
  unfolding fill_where
  at s f xs i d l = get_d_map_from 0 (λ i x. cond (s i) (f i) x) xs i d l ∙ ap (λ (k : ℕ). cond (s k) (f k) (get_or xs i d)) (zero-add i)

  pub where_in : (s : ℕ → Bool) (f : ℕ → E) (xs : List E) (i : ℕ) (d : E) → s i ≡ true → i < length xs → get_or (fill_where s f xs) i d ≡ f i
  where_in s f xs i d e l = at s f xs i d l ∙ ap (λ (b : Bool). cond b (f i) (get_or xs i d)) e

  -- past the end both are the default
  pub where_out : (s : ℕ → Bool) (f : ℕ → E) (xs : List E) (i : ℕ) (d : E) → s i ≡ false → get_or (fill_where s f xs) i d ≡ get_or xs i d
  where_out s f xs i d e =
      split i (length xs)
      (λ l. at s f xs i d l ∙ ap (λ (b : Bool). cond b (f i) (get_or xs i d)) e)
      (λ l. get_or-eq_default (fill_where s f xs) d (rw where_length l) ∙ sym (get_or-eq_default xs d l))

  -- the two functions agree where they are asked
  pub where_cong : (s : ℕ → Bool) (f g : ℕ → E) (xs : List E) → ((i : ℕ) → s i ≡ true → i < length xs → f i ≡ g i) → fill_where s f xs ≡ fill_where s g xs
  unfolding fill_where
  where_cong s f g xs h =
      map_from_ext 0 (λ i x. cond (s i) (f i) x) (λ i x. cond (s i) (g i) x) xs (λ i x q r. go (s i) (f i) (g i) x (λ e. h i e (omega arith)))
    where
      go : (b : Bool) (u v x : E) → (b ≡ true → u ≡ v) → cond b u x ≡ cond b v x
      go true u v x e = e refl
      go false u v x e = refl

  -- the two tests agree
  pub where_test : (s t : ℕ → Bool) (f : ℕ → E) (xs : List E) → ((i : ℕ) → i < length xs → s i ≡ t i) → fill_where s f xs ≡ fill_where t f xs
  unfolding fill_where
  where_test s t f xs h =
      map_from_ext 0 (λ i x. cond (s i) (f i) x) (λ i x. cond (t i) (f i) x) xs (λ i x q r. ap (λ (b : Bool). cond b (f i) x) (h i (omega arith)))

  -- two sets of places that do not meet are filled in either order
  pub where_comm : (s t : ℕ → Bool) (f g : ℕ → E) (xs : List E) → ((i : ℕ) → s i ≡ true → t i ≡ true → ⊥)
      → fill_where s f (fill_where t g xs) ≡ fill_where t g (fill_where s f xs)
  unfolding fill_where
  where_comm s t f g xs h =
      map_from_twice 0 (λ i x. cond (s i) (f i) x) (λ i x. cond (t i) (g i) x) xs
      ∙ map_from_ext 0 (λ i x. cond (s i) (f i) (cond (t i) (g i) x)) (λ i x. cond (t i) (g i) (cond (s i) (f i) x)) xs
      (λ i x q r. go (s i) (t i) (f i) (g i) x (h i))
      ∙ sym (map_from_twice 0 (λ i x. cond (t i) (g i) x) (λ i x. cond (s i) (f i) x) xs)
    where
      go : (a b : Bool) (u v x : E) → (a ≡ true → b ≡ true → ⊥) → cond a u (cond b v x) ≡ cond b v (cond a u x)
      go true true u v x e = absurd (e refl refl)
      go true false u v x e = refl
      go false b u v x e = refl

  -- a range is such a set
  pub range_where : (a e : ℕ) (f : ℕ → E) (xs : List E) → fill_range a e f xs ≡ fill_where (λ i. leb a i && ltb i e) f xs
  unfolding fill_range fill_where pick
  range_where a e f xs = refl
