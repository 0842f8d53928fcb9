-- Laws of a list that holds a k by k matrix in its first places: what it holds, held again, stores, and the places that are done so far. Assumes nothing.
use mathlib.Core.Path.{◌≡◌, refl, sym, ap, ◌∙◌}
use mathlib.Core.Logic.{◌⊎◌, inl, inr}
use mathlib.Core.Bool.{Bool, cond, ◌&&◌}
use mathlib.Core.List.{List}
use Prim.Native.Nat.{ℕ, ◌+◌, ◌*◌, ◌≤◌, ◌<◌, min, max}
use native.Mathlib.Nat.{div-add-mod', div-lt_iff_lt-mul, mod-lt, mul-le-mul_right}
use native.Mathlib.Omega.{arith}
use borrow.Author.Tests.{lt-ltb, le-ltb, eq-eqb, ne_eqb}
use lib.Dec.{eqb, ltb}
use lib.ListN.{length, get_or, set, get_or-eq_default}
use Rattle.definition.specs.Memory.{place, row_at, column_at, block_of, number_at, pick, fill_range}
use Rattle.definition.specs.Requirements.{Width}
use Rattle.definition.proofs.Agree.{Agree}
use Rattle.definition.proofs.Places.{row_below, square-most, place-below, number-at}
use Rattle.definition.proofs.Fill.{split, same_or, map_from_ext, map_from_twice, set-map_from, pick_in, pick-high, fill_length, fill_in, fill_cong, fill_same, fill_over}

module _ {E : Type 0} where
  -- b with x in row i, column c
  unfoldable pub put : (ℕ → ℕ → E) → ℕ → ℕ → E → ℕ → ℕ → E
  put b i c x r d = cond (eqb r i && eqb d c) x (b r d)

  -- z where it is stored, and z elsewhere
  pub put-cases : (b : ℕ → ℕ → E) (i c : ℕ) (x : E) (r s : ℕ) {z : E} → (r ≡ i → s ≡ c → x ≡ z) → ((r ≡ i → s ≡ c → ⊥) → b r s ≡ z) → put b i c x r s ≡ z
  unfolding put
  put-cases b i c x r s f g =
      same_or r i
      (λ p. same_or s c
      (λ q. ap (λ (t : Bool). cond (t && eqb s c) x (b r s)) (eq-eqb r i p) ∙ ap (λ (t : Bool). cond t x (b r s)) (eq-eqb s c q) ∙ f p q)
      (λ q. ap (λ (t : Bool). cond (t && eqb s c) x (b r s)) (eq-eqb r i p) ∙ ap (λ (t : Bool). cond t x (b r s)) (ne_eqb s c q) ∙ g (λ u v. q v)))
      (λ p. ap (λ (t : Bool). cond (t && eqb s c) x (b r s)) (ne_eqb r i p) ∙ g (λ u v. p u))

  -- the rank of a place says when it is done: below n it holds d, then b
  unfoldable pub so_far : (ℕ → ℕ → ℕ) → ℕ → (ℕ → ℕ → E) → (ℕ → ℕ → E) → ℕ → ℕ → E
  so_far rank n b d i c = cond (ltb (rank i c) n) (d i c) (b i c)

  module _ (rank : ℕ → ℕ → ℕ) (n : ℕ) (b d : ℕ → ℕ → E) where
    pub far_done : (i c : ℕ) → rank i c < n → so_far rank n b d i c ≡ d i c
    unfolding so_far
    far_done i c p = simp (lt-ltb (rank i c) n p)

    pub far_left : (i c : ℕ) → n ≤ rank i c → so_far rank n b d i c ≡ b i c
    unfolding so_far
    far_left i c p = simp (le-ltb (rank i c) n p)

    -- a place whose number stays is done at any time
    pub far_same : (i c : ℕ) → b i c ≡ d i c → so_far rank n b d i c ≡ d i c
    far_same i c e = split (rank i c) n (λ p. far_done i c p) (λ p. far_left i c p ∙ e)

  module _ (rank : ℕ → ℕ → ℕ) (n : ℕ) (b d : ℕ → ℕ → E) where
    -- two places of rank n stored: then those below n + 1 are done, if no other place of rank n changes
    pub far_more : (k i c i' c' : ℕ) → rank i c ≡ n → rank i' c' ≡ n
        → ((r s : ℕ) → r < k → s < k → rank r s ≡ n → ((r ≡ i) × (s ≡ c)) ⊎ (((r ≡ i') × (s ≡ c')) ⊎ (b r s ≡ d r s)))
        → Agree k (put (put (so_far rank n b d) i c (d i c)) i' c' (d i' c')) (so_far rank (n + 1) b d)
    far_more k i c i' c' e e' only r s u v =
        put-cases (put (so_far rank n b d) i c (d i c)) i' c' (d i' c') r s (hit i' c' e')
        (λ f. put-cases (so_far rank n b d) i c (d i c) r s (hit i c e)
        (λ g. split (rank r s) n
        (λ l. far_done rank n b d r s l ∙ sym (far_done rank (n + 1) b d r s (omega arith)))
        (λ l. split n (rank r s)
        (λ m. far_left rank n b d r s (omega arith) ∙ sym (far_left rank (n + 1) b d r s (omega arith)))
        (λ m. let h : b r s ≡ d r s = stays g f (only r s u v (omega arith)) in far_same rank n b d r s h ∙ sym (far_same rank (n + 1) b d r s h)))))
      where
        hit : (i c : ℕ) → rank i c ≡ n → r ≡ i → s ≡ c → d i c ≡ so_far rank (n + 1) b d r s
        hit i c e p q =
            let h : rank r s ≡ n = cc in
            let w : d i c ≡ d r s = cc in
            w ∙ sym (far_done rank (n + 1) b d r s (omega arith))

        stays : (r ≡ i → s ≡ c → ⊥) → (r ≡ i' → s ≡ c' → ⊥) → ((r ≡ i) × (s ≡ c)) ⊎ (((r ≡ i') × (s ≡ c')) ⊎ (b r s ≡ d r s)) → b r s ≡ d r s
        stays g f w = elim w [ inl p ↦ absurd (g p.0 p.1) | inr v ↦ elim v [ inl p ↦ absurd (f p.0 p.1) | inr h ↦ h ] ]

-- ---- the widths
pub place-most : (k i c : ℕ) → Width k → i < k → c < k → i * k + c < 225
place-most k i c w p q = omega (arith, row_below i k c k p q, square-most k w.most)

-- ranks
abbrev pub by_row : ℕ → ℕ → ℕ
by_row i c = i

abbrev pub by_column : ℕ → ℕ → ℕ
by_column i c = c

abbrev pub by_lower : ℕ → ℕ → ℕ
by_lower i c = min i c

abbrev pub by_higher : ℕ → ℕ → ℕ
by_higher i c = max i c

-- ---- rows and columns of places
module _ (k i : ℕ) (h : i < k * k) where
  positive : 0 < k
  positive = split 0 k (λ p. p) (λ p. absurd (omega (arith, mul-le-mul_right {m = k} {n = 0} k p)))

  row_in : row_at k k i < k
  unfolding row_at
  row_in = (div-lt_iff_lt-mul positive).1 h

  column_in_lem : column_at k k i < k
  unfolding column_at
  column_in_lem = mod-lt i positive

  place_back : place k k (row_at k k i) (column_at k k i) ≡ i
  unfolding place row_at column_at
  place_back = div-add-mod' i k

module _ {E : Type 0} (none : E) (k : ℕ) where
  abbrev held : (ℕ → ℕ → E) → List E → List E
  held b l = fill_range 0 (k * k) (number_at k k b) l

  pub held_cong : (b d : ℕ → ℕ → E) (l : List E) → Agree k b d → held b l ≡ held d l
  unfolding number_at
  held_cong b d l h = fill_cong 0 (k * k) (number_at k k b) (number_at k k d) l (λ i p q r. h _ _ (row_in k i q) (column_in_lem k i q))

  -- the number that the code reads
  pub read_at : (l : List E) (i c : ℕ) {a : ℕ} → a ≡ place k k i c → get_or l a none ≡ block_of none k k l i c
  unfolding block_of
  read_at l i c e = ap (λ (j : ℕ). get_or l j none) e

  -- what the list holds, if the matrix has none at the places behind the list's end
  pub held-within : (b : ℕ → ℕ → E) (l : List E) → ((i c : ℕ) → i < k → c < k → length l ≤ place k k i c → b i c ≡ none) → Agree k (block_of none k k (held b l)) b
  unfolding block_of
  held-within b l h i c p q =
      let u : place k k i c < k * k = place-below k k i c p q in
      split (place k k i c) (length l)
      (λ v. fill_in 0 (k * k) (number_at k k b) l (place k k i c) none (omega arith) u v ∙ number-at k k b i c q)
      (λ v. get_or-eq_default (held b l) none (omega (arith, fill_length 0 (k * k) (number_at k k b) l)) ∙ sym (h i c p q v))

  pub held_at : (b : ℕ → ℕ → E) (l : List E) → k * k ≤ length l → Agree k (block_of none k k (held b l)) b
  held_at b l h = held-within b l (λ i c p q v. absurd (omega (arith, place-below k k i c p q)))

  -- a list holds its own matrix
  pub held_self : (l : List E) → held (block_of none k k l) l ≡ l
  unfolding number_at block_of
  held_self l = sym (fill_same 0 (k * k) (number_at k k (block_of none k k l)) l none (λ i p q r. ap (λ (j : ℕ). get_or l j none) (sym (place_back k i q))))

  pub held-over : (b d : ℕ → ℕ → E) (l : List E) → held b (held d l) ≡ held b l
  held-over b d l = fill_over 0 (k * k) (number_at k k b) (number_at k k d) l

  elsewhere : (b : ℕ → ℕ → E) (i c : ℕ) (x : E) (j : ℕ) → j < k * k → (j ≡ 0 + place k k i c → ⊥) → number_at k k b j ≡ number_at k k (put b i c x) j
  unfolding number_at
  elsewhere b i c x j u e =
      sym (put-cases b i c x (row_at k k j) (column_at k k j)
      (λ p q. let h : place k k (row_at k k j) (column_at k k j) ≡ place k k i c = cc in absurd (e (omega (arith, place_back k j u))))
      (λ f. refl))

  -- F of a matrix, where the list holds the matrix b by now
  pub held_then : (F : (ℕ → ℕ → E) → ℕ → ℕ → E) (b : ℕ → ℕ → E) (l : List E) {m : List E} → Agree k (block_of none k k (held b l)) b
      → ((x y : ℕ → ℕ → E) → Agree k x y → Agree k (F x) (F y)) → m ≡ held b l → held (F (block_of none k k m)) m ≡ held (F b) l
  held_then F b l h g e =
      ap (λ (z : List E). held (F (block_of none k k z)) z) e
      ∙ held-over (F (block_of none k k (held b l))) b l
      ∙ held_cong (F (block_of none k k (held b l))) (F b) l (g (block_of none k k (held b l)) b h)

  -- a store
  pub held-set : (b : ℕ → ℕ → E) (l : List E) (i c : ℕ) (x : E) → i < k → c < k → set (held b l) (place k k i c) x ≡ held (put b i c x) l
  unfolding fill_range
  held-set b l i c x p q =
      set-map_from 0 (held b l) (place k k i c) x
      ∙ map_from_twice 0 _ (pick 0 (k * k) (number_at k k b)) l
      ∙ map_from_ext 0 _ (pick 0 (k * k) (number_at k k (put b i c x))) l (λ j y u v. one j y)
    where
      one : (j : ℕ) (y : E) → cond (eqb j (0 + place k k i c)) x (pick 0 (k * k) (number_at k k b) j y) ≡ pick 0 (k * k) (number_at k k (put b i c x)) j y
      one j y =
          same_or j (0 + place k k i c)
          (λ e. let h : j ≡ place k k i c = omega arith in
          let u : j < k * k = omega (arith, place-below k k i c p q) in
          ap (λ (t : Bool). cond t x (pick 0 (k * k) (number_at k k b) j y)) (eq-eqb j (0 + place k k i c) e)
          ∙ sym (pick_in 0 (k * k) (number_at k k (put b i c x)) j y (omega arith) u
          ∙ ap (number_at k k (put b i c x)) h ∙ number-at k k (put b i c x) i c q ∙ put-cases b i c x i c (λ a z. refl) (λ f. absurd (f refl refl))))
          (λ e. ap (λ (t : Bool). cond t x (pick 0 (k * k) (number_at k k b) j y)) (ne_eqb j (0 + place k k i c) e)
          ∙ split j (k * k)
          (λ u. pick_in 0 (k * k) (number_at k k b) j y (omega arith) u ∙ elsewhere b i c x j u e ∙ sym (pick_in 0 (k * k) (number_at k k (put b i c x)) j y (omega arith) u))
          (λ u. pick-high 0 (k * k) (number_at k k b) j y u ∙ sym (pick-high 0 (k * k) (number_at k k (put b i c x)) j y u)))

  -- ---- a loop over the places by their rank: as it begins, a number that is not done yet, two numbers stored, and at the end
  module _ (rank : ℕ → ℕ → ℕ) (d : ℕ → ℕ → E) (l : List E) where
    abbrev so : ℕ → List E
    so n = held (so_far rank n (block_of none k k l) d) l

    pub loop_first : (n : ℕ) → ((i c : ℕ) → i < k → c < k → rank i c < n → block_of none k k l i c ≡ d i c) → l ≡ so n
    loop_first n h =
        sym (held_cong (so_far rank n (block_of none k k l) d) (block_of none k k l) l
        (λ i c u v. split (rank i c) n
        (λ p. far_done rank n (block_of none k k l) d i c p ∙ sym (h i c u v p))
        (λ p. far_left rank n (block_of none k k l) d i c p))
        ∙ held_self l)

    -- past the end there is nothing, before and after
    pub loop_read : (n : ℕ) {m : List E} → m ≡ so n → (i c : ℕ) → i < k → c < k → n ≤ rank i c → block_of none k k m i c ≡ block_of none k k l i c
    unfolding block_of
    loop_read n {m} e i c u v p =
        let f = number_at k k (so_far rank n (block_of none k k l) d) in
        ap (λ (z : List E). get_or z (place k k i c) none) e
        ∙ split (place k k i c) (length l)
        (λ h. fill_in 0 (k * k) f l (place k k i c) none (omega arith) (place-below k k i c u v) h
        ∙ number-at k k (so_far rank n (block_of none k k l) d) i c v
        ∙ far_left rank n (block_of none k k l) d i c p)
        (λ h. get_or-eq_default (fill_range 0 (k * k) f l) none (rw fill_length h) ∙ sym (get_or-eq_default l none h))

    pub loop_store : (n : ℕ) {m : List E} → m ≡ so n → (i c i' c' : ℕ) → i < k → c < k → i' < k → c' < k → rank i c ≡ n → rank i' c' ≡ n
        → ((r s : ℕ) → r < k → s < k → rank r s ≡ n → ((r ≡ i) × (s ≡ c)) ⊎ (((r ≡ i') × (s ≡ c')) ⊎ (block_of none k k l r s ≡ d r s)))
        → {x y : E} → x ≡ d i c → y ≡ d i' c' → set (set m (place k k i c) x) (place k k i' c') y ≡ so (n + 1)
    loop_store n {m} e i c i' c' a a' g g' h h' only {x} {y} p q =
        let b = so_far rank n (block_of none k k l) d in
        ap (λ (z : List E). set (set z (place k k i c) x) (place k k i' c') y) e
        ∙ ap (λ (z : List E). set z (place k k i' c') y) (held-set b l i c x a a')
        ∙ held-set (put b i c x) l i' c' y g g'
        ∙ ap (λ (z : E). held (put (put b i c z) i' c' y) l) p
        ∙ ap (λ (z : E). held (put (put b i c (d i c)) i' c' z) l) q
        ∙ held_cong _ (so_far rank (n + 1) (block_of none k k l) d) l (far_more rank n (block_of none k k l) d k i c i' c' h h' only)

    pub loop_last : (n : ℕ) {m : List E} → m ≡ so n → ((i c : ℕ) → i < k → c < k → rank i c < n) → m ≡ held d l
    loop_last n e h = e ∙ held_cong (so_far rank n (block_of none k k l) d) d l (λ i c u v. far_done rank n (block_of none k k l) d i c (h i c u v))
