-- A stage whose chunk h fills the places of one list that are its own, by a function of the memory that is local: what it reads, what it writes, and what all chunks come to. Assumes nothing.
use mathlib.Core.Path.{◌≡◌, refl, sym, ap, ◌∙◌}
use mathlib.Core.List.{List}
use mathlib.Core.Bool.{Bool, true, false}
use Prim.Native.Nat.{ℕ, zero, suc, ◌<◌}
use native.Mathlib.Omega.{arith}
use lib.ListN.{length, get_or, get_or-eq_default}
use Rattle.definition.proofs.Fill.{split}
use Rattle.held.specs.Places.{fill_where}
use Rattle.held.specs.Calls.{whole}
use Rattle.held.proofs.Places.{where_length, where_in, where_out, where_cong, where_comm}
use Rattle.held.proofs.Ops.{Apart, whole_keeps}

-- one list of the memory
pub record Lens (M A : Type 0) : Type 0 where
  pub get : M → List A
  pub put : List A → M → M
  pub get_put : (l : List A) (m : M) → get (put l m) ≡ l
  pub put-put : (k l : List A) (m : M) → put k (put l m) ≡ put k m
  pub put_get : (m : M) → put (get m) m ≡ m

module _ {M A : Type 0} (L : Lens M A) (own : ℕ → ℕ → Bool) (d : A) where
  -- chunk h fills its own places of the list
  unfoldable pub fill_op : (ℕ → M → ℕ → A) → ℕ → M → M
  fill_op val h m = L.put (fill_where (own h) (val h m) (L.get m)) m

  -- the list l has what the memory has at the places of chunk h
  abbrev pub Same : ℕ → List A → M → Type 0
  Same h l m = (j : ℕ) → own h j ≡ true → get_or l j d ≡ get_or (L.get m) j d

  -- the values of chunk h depend on the list that is written at the places of chunk h alone
  abbrev pub Local : (ℕ → M → ℕ → A) → Type 0
  Local val = (h : ℕ) (l : List A) (m : M) → length l ≡ length (L.get m) → Same h l m → (i : ℕ) → own h i ≡ true → i < length l → val h (L.put l m) i ≡ val h m i

  -- no place is two chunks' own
  abbrev pub Disjoint : Type 0
  Disjoint = (h k p : ℕ) → own h p ≡ true → own k p ≡ true → h ≡ k

  -- ---- one chunk

  written : (val : ℕ → M → ℕ → A) (h : ℕ) (m : M) → L.get (fill_op val h m) ≡ fill_where (own h) (val h m) (L.get m)
  unfolding fill_op
  written val h m = L.get_put (fill_where (own h) (val h m) (L.get m)) m

  one-length : (val : ℕ → M → ℕ → A) (h : ℕ) (m : M) → length (L.get (fill_op val h m)) ≡ length (L.get m)
  one-length val h m = ap length (written val h m) ∙ where_length (own h) (val h m) (L.get m)

  one_at : (val : ℕ → M → ℕ → A) (h : ℕ) (m : M) (j : ℕ) → own h j ≡ true → j < length (L.get m) → get_or (L.get (fill_op val h m)) j d ≡ val h m j
  one_at val h m j o l = ap (λ (z : List A). get_or z j d) (written val h m) ∙ where_in (own h) (val h m) (L.get m) j d o l

  -- it writes its own places of the one list alone
  pub writes_own : (val : ℕ → M → ℕ → A) (h : ℕ) (m : M) (j : ℕ) → own h j ≡ false → get_or (L.get (fill_op val h m)) j d ≡ get_or (L.get m) j d
  writes_own val h m j o = ap (λ (z : List A). get_or z j d) (written val h m) ∙ where_out (own h) (val h m) (L.get m) j d o

  pub writes_only : (val : ℕ → M → ℕ → A) (h : ℕ) (m : M) (l : List A) → L.put l (fill_op val h m) ≡ L.put l m
  unfolding fill_op
  writes_only val h m l = L.put-put l (fill_where (own h) (val h m) (L.get m)) m

  -- a chunk after another list l was put
  after : (val : ℕ → M → ℕ → A) → Local val → (h : ℕ) (l : List A) (m : M) → length l ≡ length (L.get m) → Same h l m
      → fill_op val h (L.put l m) ≡ L.put (fill_where (own h) (val h m) l) m
  unfolding fill_op
  after val loc h l m e s =
      L.put-put (fill_where (own h) (val h (L.put l m)) (L.get (L.put l m))) l m
      ∙ ap (λ (z : List A). L.put (fill_where (own h) (val h (L.put l m)) z) m) (L.get_put l m)
      ∙ ap (λ (z : List A). L.put z m) (where_cong (own h) (val h (L.put l m)) (val h m) l (λ i o r. loc h l m e s i o r))

  -- it reads nothing that another chunk writes: whatever stands at the places of the others, it leaves the same at its own
  pub reads_own : (val : ℕ → M → ℕ → A) → Local val → (h : ℕ) (l : List A) (m : M) → length l ≡ length (L.get m) → Same h l m
      → (j : ℕ) → own h j ≡ true → get_or (L.get (fill_op val h (L.put l m))) j d ≡ get_or (L.get (fill_op val h m)) j d
  reads_own val loc h l m e s j o =
      let k : length (L.get (L.put l m)) ≡ length (L.get m) = ap length (L.get_put l m) ∙ e in
      split j (length (L.get m))
      (λ r. one_at val h (L.put l m) j o (omega arith) ∙ loc h l m e s j o (omega arith) ∙ sym (one_at val h m j o r))
      (λ r. get_or-eq_default (L.get (fill_op val h (L.put l m))) d (omega (arith, one-length val h (L.put l m)))
      ∙ sym (get_or-eq_default (L.get (fill_op val h m)) d (omega (arith, one-length val h m))))

  -- ---- two chunks

  not_own : Disjoint → (h k p : ℕ) → own h p ≡ true → (h ≡ k → ⊥) → own k p ≡ false
  not_own D h k p o ne = go (own k p) refl
    where
      go : (b : Bool) → own k p ≡ b → b ≡ false
      go true e = absurd (ne (D h k p o e))
      go false e = refl

  pub fill_apart : Disjoint → (val : ℕ → M → ℕ → A) → Local val → Apart (fill_op val) (fill_op val)
  unfolding fill_op
  fill_apart D val loc h k ne m =
      after val loc h (fill_where (own k) (val k m) (L.get m)) m (where_length (own k) (val k m) (L.get m))
      (λ j o. where_out (own k) (val k m) (L.get m) j d (not_own D h k j o ne))
      ∙ ap (λ (z : List A). L.put z m) (where_comm (own h) (own k) (val h m) (val k m) (L.get m) (λ i o q. ne (D h k i o q)))
      ∙ sym (after val loc k (fill_where (own h) (val h m) (L.get m)) m (where_length (own h) (val h m) (L.get m))
      (λ j o. where_out (own h) (val h m) (L.get m) j d (not_own D k h j o (λ z. ne (sym z)))))

  -- ---- all chunks

  pub whole_length : (val : ℕ → M → ℕ → A) (n : ℕ) (m : M) → length (L.get (whole (fill_op val) n m)) ≡ length (L.get m)
  whole_length val n m = whole_keeps (fill_op val) (λ x. length (L.get x)) (one-length val) n m

  -- the memory beside the list is as it was: whatever the list is put to, the rest is m's
  pub whole-rest : (val : ℕ → M → ℕ → A) (n : ℕ) (m : M) (l : List A) → L.put l (whole (fill_op val) n m) ≡ L.put l m
  whole-rest val n m l = whole_keeps (fill_op val) (L.put l) (λ h x. writes_only val h x l) n m

  pub whole_is : (val : ℕ → M → ℕ → A) (n : ℕ) (m : M) → whole (fill_op val) n m ≡ L.put (L.get (whole (fill_op val) n m)) m
  whole_is val n m = sym (L.put_get (whole (fill_op val) n m)) ∙ whole-rest val n m (L.get (whole (fill_op val) n m))

  pub whole_else : (val : ℕ → M → ℕ → A) (n : ℕ) (m : M) (p : ℕ) → ((h : ℕ) → h < n → own h p ≡ false)
      → get_or (L.get (whole (fill_op val) n m)) p d ≡ get_or (L.get m) p d
  unfolding whole
  whole_else val zero m p q = refl
  whole_else val (suc k) m p q = writes_own val k (whole (fill_op val) k m) p (q k (omega arith)) ∙ whole_else val k m p (λ h l. q h (omega arith))

  pub whole-at : Disjoint → (val : ℕ → M → ℕ → A) → Local val → (n : ℕ) (m : M) (h p : ℕ) → h < n → own h p ≡ true → p < length (L.get m)
      → get_or (L.get (whole (fill_op val) n m)) p d ≡ val h m p
  unfolding whole
  whole-at D val loc zero m h p q o l = absurd (omega arith)
  whole-at D val loc (suc k) m h p q o l =
      let w = whole (fill_op val) k m in
      split h k
      (λ t. writes_own val k w p (not_own D h k p o (λ z. omega arith)) ∙ whole-at D val loc k m h p t o l)
      (λ t. let z : h ≡ k = omega arith in
      let ok : own k p ≡ true = ap (λ (x : ℕ). own x p) (sym z) ∙ o in
      one_at val k w p ok (omega (arith, whole_length val k m))
      ∙ ap (λ (x : M). val k x p) (whole_is val k m)
      ∙ loc k (L.get w) m (whole_length val k m) (λ j r. whole_else val k m j (λ i u. not_own D k i j r (λ y. omega arith))) p ok (omega (arith, whole_length val k m))
      ∙ ap (λ (x : ℕ). val x m p) (sym z))

-- ---- two lists of the memory

-- each can be put beside the other
pub record Beside {M A B : Type 0} (L : Lens M A) (N : Lens M B) : Type 0 where
  pub puts : (k : List A) (l : List B) (m : M) → L.put k (N.put l m) ≡ N.put l (L.put k m)
  pub first : (l : List B) (m : M) → L.get (N.put l m) ≡ L.get m
  pub second : (k : List A) (m : M) → N.get (L.put k m) ≡ N.get m

module _ {M A B : Type 0} (L : Lens M A) (own : ℕ → ℕ → Bool) (d : A) (N : Lens M B) (own' : ℕ → ℕ → Bool) (e : B) (T : Beside L N) where
  -- neither reads the other's list
  pub fill_beside : (f : ℕ → M → ℕ → A) (g : ℕ → M → ℕ → B)
      → ((h : ℕ) (l : List B) (m : M) (i : ℕ) → f h (N.put l m) i ≡ f h m i)
      → ((h : ℕ) (l : List A) (m : M) (i : ℕ) → g h (L.put l m) i ≡ g h m i)
      → (h k : ℕ) (m : M) → fill_op L own d f h (fill_op N own' e g k m) ≡ fill_op N own' e g k (fill_op L own d f h m)
  unfolding fill_op
  fill_beside f g p q h k m =
      let lb = fill_where (own' k) (g k m) (N.get m) in
      let la = fill_where (own h) (f h m) (L.get m) in
      ap (λ (z : List A). L.put (fill_where (own h) (f h (N.put lb m)) z) (N.put lb m)) (T.first lb m)
      ∙ ap (λ (z : List A). L.put z (N.put lb m)) (where_cong (own h) (f h (N.put lb m)) (f h m) (L.get m) (λ i r s. p h lb m i))
      ∙ T.puts la lb m
      ∙ sym (ap (λ (z : List B). N.put (fill_where (own' k) (g k (L.put la m)) z) (L.put la m)) (T.second la m)
      ∙ ap (λ (z : List B). N.put z (L.put la m)) (where_cong (own' k) (g k (L.put la m)) (g k m) (N.get m) (λ i r s. q k la m i)))
