-- Laws of `fill_range`: length, inside, below, above, empty, one more place, joined and disjoint ranges, a lent part put back. Assumes nothing.
use mathlib.Core.Path.{◌≡◌, refl, sym, ap, ◌∙◌, subst}
use mathlib.Core.List.{List, [], ◌∷◌, ◌++◌}
use mathlib.Core.Bool.{Bool, true, false, cond, ◌&&◌}
use Prim.Native.Nat.{ℕ, zero, suc, ◌+◌, ◌-◌, ◌≤◌, ◌<◌}
use native.Mathlib.Nat.{add-zero, zero-add, add-suc, suc-add}
use native.Mathlib.Numerals.{add-one}
use native.Mathlib.Omega.{arith}
use borrow.Author.Tests.{ltb-true, ltb-false, lt-ltb, le-ltb, le-leb, lt-leb, eqb-true, eqb-false, eq-eqb, ne_eqb}
use lib.Dec.{leb, ltb, eqb}
use lib.Seq.{ext_get_or}
use Rattle.definition.specs.Memory.{map_from, pick, fill_range}
use lib.ListN.{length, get_or, set, take, drop, length-take, length-drop, take-append-drop, get_or-eq_default}

-- by cases: m below n, or not
pub split {ℓ} : {P : Type ℓ} (m n : ℕ) → (m < n → P) → (n ≤ m → P) → P
split {P = P} m n f g = go (ltb m n) refl
  where
    go : (b : Bool) → ltb m n ≡ b → P
    go true e = f (ltb-true m n e)
    go false e = g (ltb-false m n e)

-- by cases: m is n, or not
pub same_or {ℓ} : {P : Type ℓ} (m n : ℕ) → (m ≡ n → P) → ((m ≡ n → ⊥) → P) → P
same_or {P = P} m n f g = go (eqb m n) refl
  where
    go : (b : Bool) → eqb m n ≡ b → P
    go true e = f (eqb-true m n e)
    go false e = g (eqb-false m n e)

module _ {A : Type 0} where
  -- ---- map_from

  pub length-map_from : (n : ℕ) (g : ℕ → A → A) (xs : List A) → length (map_from n g xs) ≡ length xs
  unfolding map_from
  length-map_from n g [] = refl
  length-map_from n g (x ∷ xs) = ap suc (length-map_from (suc n) g xs)

  pub get_d_map_from : (n : ℕ) (g : ℕ → A → A) (xs : List A) (i : ℕ) (d : A) → i < length xs → get_or (map_from n g xs) i d ≡ g (n + i) (get_or xs i d)
  unfolding map_from
  get_d_map_from n g [] i d h = absurd (omega arith)
  get_d_map_from n g (x ∷ xs) zero d h = ap (λ (k : ℕ). g k x) (sym (add-zero n))
  get_d_map_from n g (x ∷ xs) (suc i) d h =
      get_d_map_from (suc n) g xs i d (omega arith) ∙ ap (λ (k : ℕ). g k (get_or xs i d)) (suc-add n i ∙ sym (add-suc n i))

  pub map_from_ext : (n : ℕ) (g h : ℕ → A → A) (xs : List A)
      → ((i : ℕ) (x : A) → n ≤ i → i < n + length xs → g i x ≡ h i x) → map_from n g xs ≡ map_from n h xs
  unfolding map_from
  map_from_ext n g h [] e = refl
  map_from_ext n g h (x ∷ xs) e =
      ap (λ (y : A). y ∷ map_from (suc n) g xs) (e n x (omega arith) (omega arith))
      ∙ ap (λ (r : List A). h n x ∷ r) (map_from_ext (suc n) g h xs (λ i y p q. e i y (omega arith) (omega arith)))

  pub map_from_id : (n : ℕ) (xs : List A) → map_from n (λ i x. x) xs ≡ xs
  unfolding map_from
  map_from_id n [] = refl
  map_from_id n (x ∷ xs) = ap (λ (r : List A). x ∷ r) (map_from_id (suc n) xs)

  pub map_from_twice : (n : ℕ) (g h : ℕ → A → A) (xs : List A) → map_from n g (map_from n h xs) ≡ map_from n (λ i x. g i (h i x)) xs
  unfolding map_from
  map_from_twice n g h [] = refl
  map_from_twice n g h (x ∷ xs) = ap (λ (r : List A). g n (h n x) ∷ r) (map_from_twice (suc n) g h xs)

  -- a store is such a map
  pub set-map_from : (n : ℕ) (xs : List A) (i : ℕ) (v : A) → set xs i v ≡ map_from n (λ j x. cond (eqb j (n + i)) v x) xs
  unfolding map_from
  set-map_from n [] i v = refl
  set-map_from n (x ∷ xs) zero v =
      ap (λ (r : List A). v ∷ r) (sym (map_from_id (suc n) xs))
      ∙ ap (λ (b : Bool). cond b v x ∷ map_from (suc n) (λ j y. y) xs) (sym (eq-eqb n (n + 0) (omega arith)))
      ∙ ap (λ (r : List A). cond (eqb n (n + 0)) v x ∷ r)
      (map_from_ext (suc n) (λ j y. y) (λ j y. cond (eqb j (n + 0)) v y) xs
      (λ j y p q. ap (λ (b : Bool). cond b v y) (sym (ne_eqb j (n + 0) (omega arith)))))
  set-map_from n (x ∷ xs) (suc i) v =
      ap (λ (r : List A). x ∷ r) (set-map_from (suc n) xs i v)
      ∙ ap (λ (b : Bool). cond b v x ∷ map_from (suc n) (λ j y. cond (eqb j (suc n + i)) v y) xs) (sym (ne_eqb n (n + suc i) (omega arith)))
      ∙ ap (λ (k : ℕ). cond (eqb n (n + suc i)) v x ∷ map_from (suc n) (λ j y. cond (eqb j k) v y) xs) (suc-add n i ∙ sym (add-suc n i))

  -- ---- pick

  pub pick_in : (a e : ℕ) (f : ℕ → A) (i : ℕ) (x : A) → a ≤ i → i < e → pick a e f i x ≡ f i
  unfolding pick
  pick_in a e f i x p q = simp (le-leb a i p, lt-ltb i e q)

  pub pick_low : (a e : ℕ) (f : ℕ → A) (i : ℕ) (x : A) → i < a → pick a e f i x ≡ x
  unfolding pick
  pick_low a e f i x p = simp (lt-leb a i p)

  pub pick-high : (a e : ℕ) (f : ℕ → A) (i : ℕ) (x : A) → e ≤ i → pick a e f i x ≡ x
  unfolding pick
  pick-high a e f i x p = split i a (λ q. pick_low a e f i x q) (λ q. simp (le-leb a i q, le-ltb i e p))

  -- ---- fill_range

  pub fill_length : (a e : ℕ) (f : ℕ → A) (xs : List A) → length (fill_range a e f xs) ≡ length xs
  unfolding fill_range
  fill_length a e f xs = length-map_from 0 (pick a e f) xs

  pub fill_in : (a e : ℕ) (f : ℕ → A) (xs : List A) (i : ℕ) (d : A) → a ≤ i → i < e → i < length xs → get_or (fill_range a e f xs) i d ≡ f i
  unfolding fill_range
  fill_in a e f xs i d p q h = get_d_map_from 0 (pick a e f) xs i d h ∙ ap (λ (k : ℕ). pick a e f k (get_or xs i d)) (zero-add i) ∙ pick_in a e f i (get_or xs i d) p q

  -- past the end both are the default
  pub fill_low : (a e : ℕ) (f : ℕ → A) (xs : List A) (i : ℕ) (d : A) → i < a → get_or (fill_range a e f xs) i d ≡ get_or xs i d
  unfolding fill_range
  fill_low a e f xs i d p =
      split i (length xs)
      (λ h. get_d_map_from 0 (pick a e f) xs i d h ∙ ap (λ (k : ℕ). pick a e f k (get_or xs i d)) (zero-add i) ∙ pick_low a e f i (get_or xs i d) p)
      (λ h. get_or-eq_default (map_from 0 (pick a e f) xs) d (rw length-map_from h) ∙ sym (get_or-eq_default xs d h))

  pub fill_high : (a e : ℕ) (f : ℕ → A) (xs : List A) (i : ℕ) (d : A) → e ≤ i → get_or (fill_range a e f xs) i d ≡ get_or xs i d
  unfolding fill_range
  fill_high a e f xs i d p =
      split i (length xs)
      (λ h. get_d_map_from 0 (pick a e f) xs i d h ∙ ap (λ (k : ℕ). pick a e f k (get_or xs i d)) (zero-add i) ∙ pick-high a e f i (get_or xs i d) p)
      (λ h. get_or-eq_default (map_from 0 (pick a e f) xs) d (rw length-map_from h) ∙ sym (get_or-eq_default xs d h))

  pub fill_empty : (a e : ℕ) (f : ℕ → A) (xs : List A) → e ≤ a → fill_range a e f xs ≡ xs
  unfolding fill_range
  fill_empty a e f xs p =
      map_from_ext 0 (pick a e f) (λ i x. x) xs
      (λ i x q r. split i a (λ s. pick_low a e f i x s) (λ s. pick-high a e f i x (omega arith)))
      ∙ map_from_id 0 xs

  -- the two agree where they are asked
  pub fill_cong : (a e : ℕ) (f g : ℕ → A) (xs : List A) → ((i : ℕ) → a ≤ i → i < e → i < length xs → f i ≡ g i) → fill_range a e f xs ≡ fill_range a e g xs
  unfolding fill_range
  fill_cong a e f g xs h =
      map_from_ext 0 (pick a e f) (pick a e g) xs
      (λ i x q r. split i a
      (λ s. pick_low a e f i x s ∙ sym (pick_low a e g i x s))
      (λ s. split i e
      (λ t. pick_in a e f i x s t ∙ h i s t (omega arith) ∙ sym (pick_in a e g i x s t))
      (λ t. pick-high a e f i x t ∙ sym (pick-high a e g i x t))))

  -- one more place at the end is a store
  pub fill_more : (a i : ℕ) (f : ℕ → A) (xs : List A) → a ≤ i → fill_range a (i + 1) f xs ≡ set (fill_range a i f xs) i (f i)
  unfolding fill_range
  fill_more a i f xs p =
      sym (set-map_from 0 (map_from 0 (pick a i f) xs) i (f i)
      ∙ map_from_twice 0 (λ j x. cond (eqb j (0 + i)) (f i) x) (pick a i f) xs
      ∙ map_from_ext 0 (λ j x. cond (eqb j (0 + i)) (f i) (pick a i f j x)) (pick a (i + 1) f) xs
      (λ j x q r. split j i
      (λ s. ap (λ (b : Bool). cond b (f i) (pick a i f j x)) (ne_eqb j (0 + i) (omega arith))
      ∙ split j a
      (λ t. pick_low a i f j x t ∙ sym (pick_low a (i + 1) f j x t))
      (λ t. pick_in a i f j x t s ∙ sym (pick_in a (i + 1) f j x t (omega arith))))
      (λ s. split i j
      (λ t. ap (λ (b : Bool). cond b (f i) (pick a i f j x)) (ne_eqb j (0 + i) (omega arith))
      ∙ pick-high a i f j x s ∙ sym (pick-high a (i + 1) f j x (omega arith)))
      (λ t. let e : j ≡ i = omega arith in
      ap (λ (b : Bool). cond b (f i) (pick a i f j x)) (eq-eqb j (0 + i) (omega arith))
      ∙ ap f (sym e) ∙ sym (pick_in a (i + 1) f j x (omega arith) (omega arith))))))

  -- two ranges that adjoin are one
  pub fill_join : (a b e : ℕ) (f : ℕ → A) (xs : List A) → a ≤ b → b ≤ e → fill_range b e f (fill_range a b f xs) ≡ fill_range a e f xs
  unfolding fill_range
  fill_join a b e f xs p q =
      map_from_twice 0 (pick b e f) (pick a b f) xs
      ∙ map_from_ext 0 (λ j x. pick b e f j (pick a b f j x)) (pick a e f) xs
      (λ j x u v. split j b
      (λ s. pick_low b e f j (pick a b f j x) s ∙ split j a
      (λ t. pick_low a b f j x t ∙ sym (pick_low a e f j x t))
      (λ t. pick_in a b f j x t s ∙ sym (pick_in a e f j x t (omega arith))))
      (λ s. split j e
      (λ t. pick_in b e f j (pick a b f j x) s t ∙ sym (pick_in a e f j x (omega arith) t))
      (λ t. pick-high b e f j (pick a b f j x) t ∙ pick-high a b f j x s ∙ sym (pick-high a e f j x t))))

  -- two ranges that do not meet are filled in either order
  pub fill_comm : (a b c e : ℕ) (f g : ℕ → A) (xs : List A) → b ≤ c → fill_range a b f (fill_range c e g xs) ≡ fill_range c e g (fill_range a b f xs)
  unfolding fill_range
  fill_comm a b c e f g xs p =
      map_from_twice 0 (pick a b f) (pick c e g) xs
      ∙ map_from_ext 0 (λ j x. pick a b f j (pick c e g j x)) (λ j x. pick c e g j (pick a b f j x)) xs
      (λ j x u v. split j b
      (λ s. ap (pick a b f j) (pick_low c e g j x (omega arith)) ∙ sym (pick_low c e g j (pick a b f j x) (omega arith)))
      (λ s. pick-high a b f j (pick c e g j x) s ∙ ap (pick c e g j) (sym (pick-high a b f j x s))))
      ∙ sym (map_from_twice 0 (pick c e g) (pick a b f) xs)

  -- ---- for loops: the list is filled up to i, and a store at i fills one place more; a range whose end is known by an equation

  pub fill_start : (a : ℕ) (f : ℕ → A) (xs : List A) → xs ≡ fill_range a a f xs
  fill_start a f xs = sym (fill_empty a a f xs (omega arith))

  pub fill_step : (a i : ℕ) (f : ℕ → A) (xs : List A) {l : List A} {v : A} → a ≤ i → l ≡ fill_range a i f xs → v ≡ f i → set l i v ≡ fill_range a (i + 1) f xs
  fill_step a i f xs {l} {v} p e q =
      ap (λ (m : List A). set m i v) e ∙ ap (λ (w : A). set (fill_range a i f xs) i w) q ∙ sym (fill_more a i f xs p)

  pub fill_to : (a : ℕ) {i e : ℕ} (f : ℕ → A) (xs : List A) {l : List A} → l ≡ fill_range a i f xs → i ≡ e → l ≡ fill_range a e f xs
  fill_to a f xs p q = p ∙ ap (λ (k : ℕ). fill_range a k f xs) q

  -- ---- a part of the list, filled whole and put back, as `&mut xs[a..e]` that was lent is

  map_from_append : (n : ℕ) (g : ℕ → A → A) (xs ys : List A) → map_from n g (xs ++ ys) ≡ map_from n g xs ++ map_from (n + length xs) g ys
  unfolding map_from
  map_from_append n g [] ys = ap (λ (k : ℕ). map_from k g ys) (sym (add-zero n))
  map_from_append n g (x ∷ xs) ys =
      ap (λ (r : List A). g n x ∷ r)
      (map_from_append (suc n) g xs ys ∙ ap (λ (k : ℕ). map_from (suc n) g xs ++ map_from k g ys) (suc-add n (length xs) ∙ sym (add-suc n (length xs))))

  map_from_shift : (m n : ℕ) (g : ℕ → A → A) (xs : List A) → map_from (m + n) g xs ≡ map_from n (λ i x. g (m + i) x) xs
  unfolding map_from
  map_from_shift m n g [] = refl
  map_from_shift m n g (x ∷ xs) =
      ap (λ (r : List A). g (m + n) x ∷ r) (ap (λ (k : ℕ). map_from k g xs) (sym (add-suc m n)) ∙ map_from_shift m (suc n) g xs)

  pub fill_part : (a e : ℕ) (f g : ℕ → A) (xs : List A) {ys : List A} → a ≤ e → e ≤ length xs
      → ((i : ℕ) → a + i < e → f i ≡ g (a + i))
      → ys ≡ fill_range 0 (length (take (e - a) (drop a xs))) f (take (e - a) (drop a xs))
      → take a xs ++ (ys ++ drop (e - a) (drop a xs)) ≡ fill_range a e g xs
  unfolding fill_range
  fill_part a e f g xs {ys} p q h eq =
      let mid = take (e - a) (drop a xs) in
      let rest = drop (e - a) (drop a xs) in
      let lt : length (take a xs) ≡ a = length-take a xs ∙ omega arith in
      let lm : length mid ≡ e - a = length-take (e - a) (drop a xs) ∙ omega (arith, length-drop a xs) in
      let whole : take a xs ++ (mid ++ rest) ≡ xs = ap (λ (r : List A). take a xs ++ r) (take-append-drop (e - a) (drop a xs)) ∙ take-append-drop a xs in
      let one : map_from 0 (pick a e g) (take a xs) ≡ take a xs =
      map_from_ext 0 (pick a e g) (λ i x. x) (take a xs) (λ i x u v. pick_low a e g i x (omega arith)) ∙ map_from_id 0 (take a xs) in
      let two : map_from (0 + length (take a xs)) (pick a e g) mid ≡ ys =
      ap (λ (k : ℕ). map_from k (pick a e g) mid) (omega arith)
      ∙ map_from_shift a 0 (pick a e g) mid
      ∙ map_from_ext 0 (λ i x. pick a e g (a + i) x) (pick 0 (length mid) f) mid
      (λ i x u v. pick_in a e g (a + i) x (omega arith) (omega arith) ∙ sym (h i (omega arith)) ∙ sym (pick_in 0 (length mid) f i x (omega arith) (omega arith)))
      ∙ sym eq in
      let three : map_from (0 + length (take a xs) + length mid) (pick a e g) rest ≡ rest =
      map_from_ext (0 + length (take a xs) + length mid) (pick a e g) (λ i x. x) rest (λ i x u v. pick-high a e g i x (omega arith))
      ∙ map_from_id (0 + length (take a xs) + length mid) rest in
      sym (ap (map_from 0 (pick a e g)) (sym whole)
      ∙ map_from_append 0 (pick a e g) (take a xs) (mid ++ rest)
      ∙ ap (λ (r : List A). map_from 0 (pick a e g) (take a xs) ++ r) (map_from_append (0 + length (take a xs)) (pick a e g) mid rest)
      ∙ ap (λ (r : List A). r ++ (map_from (0 + length (take a xs)) (pick a e g) mid ++ map_from (0 + length (take a xs) + length mid) (pick a e g) rest)) one
      ∙ ap (λ (r : List A). take a xs ++ (r ++ map_from (0 + length (take a xs) + length mid) (pick a e g) rest)) two
      ∙ ap (λ (r : List A). take a xs ++ (ys ++ r)) three)

  -- what is not filled yet is as it was
  pub fill_ahead : (a i : ℕ) (f : ℕ → A) (xs : List A) {l : List A} (j : ℕ) (d : A) → l ≡ fill_range a i f xs → i ≤ j → get_or l j d ≡ get_or xs j d
  fill_ahead a i f xs j d e p = ap (λ (m : List A). get_or m j d) e ∙ fill_high a i f xs j d p

  -- a list that has the values already
  pub fill_same : (a e : ℕ) (f : ℕ → A) (xs : List A) (d : A) → ((i : ℕ) → a ≤ i → i < e → i < length xs → get_or xs i d ≡ f i) → xs ≡ fill_range a e f xs
  fill_same a e f xs d h =
      ext_get_or d xs (fill_range a e f xs) (sym (fill_length a e f xs))
      (λ i p. split i a
      (λ s. sym (fill_low a e f xs i d s))
      (λ s. split i e
      (λ t. h i s t p ∙ sym (fill_in a e f xs i d s t p))
      (λ t. sym (fill_high a e f xs i d t))))

  -- a range filled twice holds what was filled last
  pub fill_over : (a e : ℕ) (f g : ℕ → A) (xs : List A) → fill_range a e f (fill_range a e g xs) ≡ fill_range a e f xs
  unfolding fill_range
  fill_over a e f g xs =
      map_from_twice 0 (pick a e f) (pick a e g) xs
      ∙ map_from_ext 0 (λ j x. pick a e f j (pick a e g j x)) (pick a e f) xs
      (λ j x u v. split j a
      (λ s. pick_low a e f j (pick a e g j x) s ∙ pick_low a e g j x s ∙ sym (pick_low a e f j x s))
      (λ s. split j e
      (λ t. pick_in a e f j (pick a e g j x) s t ∙ sym (pick_in a e f j x s t))
      (λ t. pick-high a e f j (pick a e g j x) t ∙ pick-high a e g j x t ∙ sym (pick-high a e f j x t))))

  -- a turn that fills the whole range anew, each place from what it held: g before, h after
  pub fill_again : (a e : ℕ) (f g h : ℕ → A) (xs : List A) {l m : List A} (d : A) → l ≡ fill_range a e g xs → m ≡ fill_range a e f l
      → ((i : ℕ) → a ≤ i → i < e → get_or l i d ≡ g i → f i ≡ h i) → m ≡ fill_range a e h xs
  fill_again a e f g h xs {l} {m} d p q r =
      q ∙ ap (fill_range a e f) p ∙ fill_over a e f g xs
      ∙ fill_cong a e f h xs (λ i s t u. r i s t (ap (λ (z : List A). get_or z i d) p ∙ fill_in a e g xs i d s t u))

  -- a call that fills the next range
  pub fill_next : (a b e : ℕ) (f g : ℕ → A) (xs : List A) {l m : List A} → a ≤ b → b ≤ e → l ≡ fill_range a b g xs → m ≡ fill_range b e f l
      → ((i : ℕ) → b ≤ i → i < e → f i ≡ g i) → m ≡ fill_range a e g xs
  fill_next a b e f g xs {l} p q s t h = t ∙ fill_cong b e f g l (λ i u v w. h i u v) ∙ ap (fill_range b e g) s ∙ fill_join a b e g xs p q
