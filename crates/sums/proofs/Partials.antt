-- The laws of the accumulators, once over the term: they start, they take a row more, they are copied out. Assumes nothing.
use mathlib.Core.Path.{◌≡◌, sym, ap, ◌∙◌}
use mathlib.Core.List.{List}
use Prim.Native.Nat.{ℕ, ◌+◌, ◌-◌, ◌*◌, ◌/◌, ◌%◌, ◌≤◌, ◌<◌}
use native.Mathlib.Nat.{le_refl}
use native.Mathlib.Omega.{arith}
use lib.Seq.{ext_get_or}
use lib.ListN.{length, get_or, set, replicate, get_or-replicate, length-replicate}
use Rattle.definition.specs.Arith.{Arith}
use Rattle.definition.specs.ChunkedColumnReduce.{sum_up}
use Rattle.definition.specs.Memory.{fill_range, row_at, column_at}
use Rattle.definition.proofs.Places.{row_of, column_of}
use Rattle.definition.proofs.Sums.{sum-none, sum_more}
use Rattle.definition.proofs.Fill.{fill_length, fill_empty, fill_same, fill_again, fill_next, fill_cong, fill_in, fill_step, fill_ahead}
use Rattle.sums.specs.Accumulators.{accumulators, raised, summed, with_partial}

-- a list as long as xs is xs filled with its numbers
pub copied : {E : Type 0} (d : E) (xs ys : List E) → length ys ≡ length xs → ys ≡ fill_range 0 (length xs) (λ i. get_or ys i d) xs
copied d xs ys h =
    ext_get_or d ys (fill_range 0 (length xs) (λ i. get_or ys i d) xs) (h ∙ sym (fill_length 0 (length xs) (λ i. get_or ys i d) xs))
    (λ i p. sym (fill_in 0 (length xs) (λ j. get_or ys j d) xs i d (omega arith) (omega arith) (omega arith)))

-- ---- places

-- the places from p * k on, k of them, are row p, and their columns count from there
pub row_in : (k p q : ℕ) → p * k ≤ q → q < p * k + k → row_at k k q ≡ p
unfolding row_at
row_in k p q u v = let e : p * k + (q - p * k) ≡ q = omega arith in ap (λ (x : ℕ). x / k) (sym e) ∙ row_of p k (q - p * k) (omega arith)

pub column_in_lem : (k p q : ℕ) → p * k ≤ q → q < p * k + k → column_at k k q ≡ q - p * k
unfolding column_at
column_in_lem k p q u v = let e : p * k + (q - p * k) ≡ q = omega arith in ap (λ (x : ℕ). x % k) (sym e) ∙ column_of p k (q - p * k) (omega arith)

module _ (A : Arith) where
  -- ---- while a row is added: no place yet, one place more, the end known by an equation

  pub raised-none : (a e : ℕ) (f : ℕ → A.F) (xs : List A.F) → e ≤ a → xs ≡ raised A a e f xs
  unfolding raised
  raised-none a e f xs p = sym (fill_empty a e _ xs p)

  pub raised-more : (a i : ℕ) (f : ℕ → A.F) (xs : List A.F) {l : List A.F} {x : A.F} → a ≤ i
      → l ≡ raised A a i f xs → x ≡ A.add (get_or l i A.none) (f i) → set l i x ≡ raised A a (i + 1) f xs
  unfolding raised
  raised-more a i f xs p e q =
      fill_step a i _ xs p e (q ∙ ap (λ (z : A.F). A.add z (f i)) (fill_ahead a i _ xs i A.none e (le_refl i)))

  pub raised_to : (a : ℕ) {i e : ℕ} (f : ℕ → A.F) (xs : List A.F) {l : List A.F} → l ≡ raised A a i f xs → i ≡ e → l ≡ raised A a e f xs
  raised_to a f xs p q = p ∙ ap (λ (j : ℕ). raised A a j f xs) q

  -- a call adds the places from b up to e, with a term g that is f there
  pub raised-next : (a b e : ℕ) (f g : ℕ → A.F) (xs : List A.F) {l m : List A.F} → a ≤ b → b ≤ e
      → l ≡ raised A a b f xs → m ≡ raised A b e g l → ((q : ℕ) → b ≤ q → q < e → g q ≡ f q) → m ≡ raised A a e f xs
  unfolding raised
  raised-next a b e f g xs {l} p q s t h =
      fill_next a b e _ _ xs p q s t
      (λ j u v. ap (λ (z : A.F). A.add z (g j)) (fill_ahead a b _ xs j A.none s u) ∙ ap (A.add (get_or xs j A.none)) (h j u v))

  -- ---- row by row: no row yet, a row more, the end known by an equation

  pub summed-none : (width : ℕ) (f : ℕ → ℕ → A.F) (first : ℕ) → replicate accumulators A.zero ≡ summed A width f first first
  unfolding summed
  summed-none width f first =
      fill_same _ _ _ _ A.none (λ q l u s. get_or-replicate accumulators q _ _ s ∙ sym (sum-none A (f q) first))

  pub summed-more : (width : ℕ) (f : ℕ → ℕ → A.F) (first i : ℕ) {l m : List A.F} → first ≤ i
      → l ≡ summed A width f first i → m ≡ raised A 0 width (λ q. f q i) l → m ≡ summed A width f first (i + 1)
  unfolding summed raised
  summed-more width f first i p e r =
      fill_again 0 width _ _ _ _ A.none e r (λ q l u h. rw h (sym (sum_more A (f q) first i p)))

  pub summed_to : (width : ℕ) (f : ℕ → ℕ → A.F) (first : ℕ) {i end : ℕ} {l : List A.F} → l ≡ summed A width f first i → i ≡ end
      → l ≡ summed A width f first end
  summed_to width f first p q = p ∙ ap (summed A width f first) q

  -- ---- the sums copied to `base`

  pub summed-put : (width : ℕ) (f : ℕ → ℕ → A.F) (first end base : ℕ) (xs : List A.F) {l m : List A.F} → width ≤ accumulators
      → l ≡ summed A width f first end → m ≡ fill_range base (base + width) (λ p. get_or l (p - base) A.none) xs
      → m ≡ with_partial A base width f first end xs
  unfolding summed
  summed-put width f first end base xs b e r =
      r ∙ fill_cong base (base + width) _ _ xs
      (λ p l u s. ap (λ (z : List A.F). get_or z (p - base) A.none) e
      ∙ fill_in 0 width _ _ (p - base) A.none (omega arith) (omega arith) (omega (arith, length-replicate accumulators A.zero)))

  -- and what a place of the partial then holds
  pub partial_at : (width : ℕ) (f : ℕ → ℕ → A.F) (first end base : ℕ) (xs : List A.F) {l : List A.F} (p : ℕ)
      → l ≡ with_partial A base width f first end xs → base + width ≤ length xs → p < width
      → get_or l (base + p) A.none ≡ sum_up A (f p) first end
  partial_at width f first end base xs p e b u =
      let back : base + p - base ≡ p = omega arith in
      ap (λ (z : List A.F). get_or z (base + p) A.none) e
      ∙ fill_in base (base + width) _ xs (base + p) A.none (omega arith) (omega arith) (omega arith)
      ∙ ap (λ (q : ℕ). sum_up A (f q) first end) back
