-- Items by commas, one behind another; and a row's numbers as such. Assumes nothing.
use mathlib.Core.Path.{◌≡◌, refl, sym, ap, ap₂, ◌∙◌}
use mathlib.Core.List.{List, [], ◌∷◌, ◌++◌, append_assoc}
use Prim.Native.Nat.{ℕ, zero, suc, ◌+◌, ◌-◌, ◌≤◌, ◌<◌}
use native.Mathlib.Numerals.{add-one}
use native.Mathlib.Omega.{arith}
use lib.Ieee.{Float, nan}
use lib.ListN.{length, get_or, take, drop, length-append}
use lib.Seq.{take-suc, take_all, length-take-le}
use Rattle.definition.proofs.Parts.{part_length, part_at}
use Rattle.printing.specs.Items.{item_text, joined_by}
use Rattle.printing.specs.Printed.{bits_text, number_text, numbers_text}
use Rattle.printing.proofs.Texts.{numbers-none, numbers_more}

-- ---- one item
pub item_first : (text : List ℕ) → text ≡ item_text 0 text
unfolding item_text
item_first text = refl

pub item_later : (i : ℕ) (text : List ℕ) → (i ≡ 0 → ⊥) → (44 ∷ []) ++ text ≡ item_text i text
unfolding item_text
item_later zero text h = absurd (h refl)
item_later (suc i) text h = refl

-- ---- one more
module _ {A : Type 0} (f : A → List ℕ) where
  joined-behind : (xs : List A) (y : A) → joined_by f (xs ++ (y ∷ [])) ≡ joined_by f xs ++ item_text (length xs) (f y)
  unfolding joined_by item_text
  joined-behind [] y = refl
  joined-behind (x ∷ []) y = refl
  joined-behind (x ∷ u ∷ xs) y =
      ap (λ (t : List ℕ). f x ++ (44 ∷ t)) (joined-behind (u ∷ xs) y)
      ∙ sym (append_assoc (f x) (44 ∷ joined_by f (u ∷ xs)) (item_text (length (u ∷ xs)) (f y)))

  pub joined-none : (xs : List A) → joined_by f (take 0 xs) ≡ []
  unfolding joined_by
  joined-none xs = refl

  joined-more : (xs : List A) (i : ℕ) (d : A) → i < length xs
      → joined_by f (take i xs) ++ item_text i (f (get_or xs i d)) ≡ joined_by f (take (i + 1) xs)
  joined-more xs i d h =
      ap (λ (n : ℕ). joined_by f (take i xs) ++ item_text n (f (get_or xs i d))) (sym (length-take-le i xs (omega arith)))
      ∙ sym (joined-behind (take i xs) (get_or xs i d)) ∙ ap (joined_by f) (sym (take-suc xs i d h)) ∙ ap (λ (n : ℕ). joined_by f (take n xs)) (sym (add-one i))

  -- the first i items are no longer than all
  part-most : (xs : List A) (d : A) (k i : ℕ) → i + k ≡ length xs → length (joined_by f (take i xs)) ≤ length (joined_by f xs)
  part-most xs d zero i e = omega (arith, ap (λ (us : List A). length (joined_by f us)) (take_all i xs (omega arith)))
  part-most xs d (suc k) i e =
      omega (arith, part-most xs d k (i + 1) (omega arith), ap length (joined-more xs i d (omega arith)), length-append (joined_by f (take i xs)) (item_text i (f (get_or xs i d))))

  joined-room : (xs : List A) (i : ℕ) (d : A) → i < length xs
      → length (joined_by f (take i xs)) + length (item_text i (f (get_or xs i d))) ≤ length (joined_by f xs)
  joined-room xs i d h =
      omega (
        arith,
        ap length (joined-more xs i d h),
        length-append (joined_by f (take i xs)) (item_text i (f (get_or xs i d))),
        part-most xs d (length xs - (i + 1)) (i + 1) (omega arith),
      )

  -- the same for the element x that stands at i
  pub more-at : (xs : List A) (i : ℕ) (x : A) → i < length xs → x ≡ get_or xs i x
      → joined_by f (take i xs) ++ item_text i (f x) ≡ joined_by f (take (i + 1) xs)
  more-at xs i x h e = ap (λ (y : A). joined_by f (take i xs) ++ item_text i (f y)) e ∙ joined-more xs i x h

  pub room-at : (xs : List A) (i : ℕ) (x : A) → i < length xs → x ≡ get_or xs i x
      → length (joined_by f (take i xs)) + length (item_text i (f x)) ≤ length (joined_by f xs)
  room-at xs i x h e = omega (arith, ap (λ (y : A). length (item_text i (f y))) e, joined-room xs i x h)

-- ---- a row's numbers
number-item : (c : ℕ) (x : Float) → item_text c (bits_text x) ≡ number_text c x
unfolding item_text number_text
number-item zero x = refl
number-item (suc c) x = refl

module _ (row : ℕ → Float) (xs : List Float) (alike : (c : ℕ) → c < length xs → get_or xs c nan ≡ row c) where
  front-numbers : (m : ℕ) → m ≤ length xs → joined_by bits_text (take m xs) ≡ numbers_text row m
  front-numbers zero h = joined-none bits_text xs ∙ sym (numbers-none row)
  front-numbers (suc m) h =
      ap (λ (n : ℕ). joined_by bits_text (take n xs)) (sym (add-one m))
      ∙ sym (joined-more bits_text xs m nan (omega arith))
      ∙ ap₂ (λ (a b : List ℕ). a ++ b) (front-numbers m (omega arith))
      (ap (λ (x : Float). item_text m (bits_text x)) (alike m (omega arith)) ∙ number-item m (row m))
      ∙ numbers_more row m ∙ ap (numbers_text row) (add-one m)

  row-numbers : (d : ℕ) → length xs ≡ d → joined_by bits_text xs ≡ numbers_text row d
  row-numbers d e = ap (joined_by bits_text) (sym (take_all d xs (omega arith))) ∙ front-numbers d (omega arith)

-- the numbers that stand from a place on, as `&xs[from..from + d]` lends them
pub part-numbers : (xs : List Float) (from d : ℕ) → from + d ≤ length xs
    → joined_by bits_text (take ((from + d) - from) (drop from xs)) ≡ numbers_text (λ c. get_or xs (from + c) nan) d
part-numbers xs from d h =
    let part : List Float = take ((from + d) - from) (drop from xs) in
    let n : length part ≡ d = part_length from (from + d) xs h ∙ omega arith in
    row-numbers (λ c. get_or xs (from + c) nan) part (λ c l. part_at from (from + d) xs c nan (omega (arith, n))) d n
