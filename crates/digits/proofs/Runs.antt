-- Laws of the longest run of digits at the front. Assumes nothing.
use mathlib.Core.Path.{◌≡◌, refl, sym, ap, ◌∙◌}
use mathlib.Core.Bool.{Bool, true, false, cond}
use mathlib.Core.List.{List, [], ◌∷◌, ◌++◌}
use Prim.Native.Nat.{ℕ, suc, ◌+◌, ◌≤◌, ◌<◌}
use native.Mathlib.Numerals.{add-one}
use native.Mathlib.Omega.{arith}
use lib.ListN.{length, length-append, get_or, drop, drop_of_length-le}
use lib.Seq.{drop-cons}
use Rattle.digits.specs.Digits.{is_digit, every, digits_of}
use Rattle.digits.specs.ReadDecimal.{digits_at}
use Rattle.digits.proofs.Bytes.{both, low-no-digit, true_or_false}
use Rattle.digits.proofs.Lists.{every_cons}
use mathlib.Core.Logic.{⊎_elim}

pub run-digit : (b : ℕ) (bs : List ℕ) → is_digit b ≡ true → digits_of (b ∷ bs) ≡ b ∷ digits_of bs
unfolding digits_of
run-digit b bs h = ap (λ (t : Bool). cond t (b ∷ digits_of bs) []) h

pub run_other : (b : ℕ) (bs : List ℕ) → is_digit b ≡ false → digits_of (b ∷ bs) ≡ []
unfolding digits_of
run_other b bs h = ap (λ (t : Bool). cond t (b ∷ digits_of bs) []) h

pub run_nil : digits_of [] ≡ []
unfolding digits_of
run_nil = refl

-- ---- what the run is: digits, in front of what is no digit
pub run-every : (bs : List ℕ) → every is_digit (digits_of bs) ≡ true
unfolding every digits_of
run-every [] = refl
run-every (b ∷ bs) = go (is_digit b) refl (run-every bs)
  where
    go : (t : Bool) → is_digit b ≡ t → every is_digit (digits_of bs) ≡ true → every is_digit (cond t (b ∷ digits_of bs) []) ≡ true
    go true e h = both (is_digit b) (every is_digit (digits_of bs)) e h
    go false e h = refl

pub run-front : (bs : List ℕ) → bs ≡ digits_of bs ++ drop (length (digits_of bs)) bs
unfolding digits_of
run-front [] = refl
run-front (b ∷ bs) = go (is_digit b) (run-front bs)
  where
    go : (t : Bool) → bs ≡ digits_of bs ++ drop (length (digits_of bs)) bs → b ∷ bs ≡ cond t (b ∷ digits_of bs) [] ++ drop (length (cond t (b ∷ digits_of bs) [])) (b ∷ bs)
    go true h = ap (λ (l : List ℕ). b ∷ l) h
    go false h = refl

pub run-most : (bs : List ℕ) → length (digits_of bs) ≤ length bs
run-most bs = omega (arith, ap length (run-front bs) ∙ length-append (digits_of bs) (drop (length (digits_of bs)) bs))

pub run_ends : (bs : List ℕ) → is_digit (get_or bs (length (digits_of bs)) 0) ≡ false
unfolding digits_of
run_ends [] = low-no-digit 0 (omega arith)
run_ends (b ∷ bs) = go (is_digit b) refl (run_ends bs)
  where
    go : (t : Bool) → is_digit b ≡ t → is_digit (get_or bs (length (digits_of bs)) 0) ≡ false → is_digit (get_or (b ∷ bs) (length (cond t (b ∷ digits_of bs) [])) 0) ≡ false
    go true e h = h
    go false e h = e

-- ---- and it is the only such
pub run_of : (ds rest : List ℕ) → every is_digit ds ≡ true → is_digit (get_or rest 0 0) ≡ false → digits_of (ds ++ rest) ≡ ds
run_of [] [] p q = run_nil
run_of [] (r ∷ rest) p q = run_other r rest q
run_of (d ∷ ds) rest p q =
    let g = every_cons is_digit d ds p in
    run-digit d (ds ++ rest) g.0 ∙ ap (λ (l : List ℕ). d ∷ l) (run_of ds rest g.1 q)

-- ---- a scan has come to i
module _ (bytes : List ℕ) (i : ℕ) where
  pub at-digit : i < length bytes → is_digit (get_or bytes i 0) ≡ true → digits_at bytes i ≡ get_or bytes i 0 ∷ digits_at bytes (i + 1)
  at-digit h e =
      ap digits_of (drop-cons bytes i 0 h) ∙ run-digit (get_or bytes i 0) (drop (suc i) bytes) e
      ∙ ap (λ (n : ℕ). get_or bytes i 0 ∷ digits_at bytes n) (sym (add-one i))

  pub at_other : i < length bytes → is_digit (get_or bytes i 0) ≡ false → digits_at bytes i ≡ []
  at_other h e = ap digits_of (drop-cons bytes i 0 h) ∙ run_other (get_or bytes i 0) (drop (suc i) bytes) e

  pub at_end : length bytes ≤ i → digits_at bytes i ≡ []
  at_end h = ap digits_of (drop_of_length-le bytes h) ∙ run_nil

  -- where digits are left, the next byte is one
  pub at_more : i < length bytes → 1 ≤ length (digits_at bytes i) → is_digit (get_or bytes i 0) ≡ true
  at_more h k =
      ⊎_elim (λ e. e) (λ e. absurd (omega (arith, ap length (at_other h e)))) (true_or_false (is_digit (get_or bytes i 0)))
