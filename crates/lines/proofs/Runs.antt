-- Laws of runs: the bytes at the front, up to where what is left does not go on. Assumes nothing.
use mathlib.Core.Path.{◌≡◌, refl, sym, ap, ◌∙◌}
use mathlib.Core.Bool.{Bool, true, false, cond}
use mathlib.Core.List.{List, [], ◌∷◌}
use Prim.Native.Nat.{ℕ, ◌+◌, ◌-◌, ◌≤◌, ◌<◌}
use native.Mathlib.Numerals.{add-one}
use native.Mathlib.Omega.{arith}
use lib.ListN.{length, get_or, take, drop, length-drop, drop_of_length-le}
use lib.Seq.{drop-cons, drop-drop}
use Rattle.lines.specs.Parts.{run}

-- what is left at a place before the end
pub here : (xs : List ℕ) (i : ℕ) → i < length xs → drop i xs ≡ get_or xs i 0 ∷ drop (i + 1) xs
here xs i h = drop-cons xs i 0 h ∙ ap (λ (n : ℕ). get_or xs i 0 ∷ drop n xs) (sym (add-one i))

module _ (on : List ℕ → Bool) where
  pub run_on : (b : ℕ) (bs : List ℕ) → on (b ∷ bs) ≡ true → run on (b ∷ bs) ≡ b ∷ run on bs
  unfolding run
  run_on b bs h = ap (λ (t : Bool). cond t (b ∷ run on bs) []) h

  pub run_off : (xs : List ℕ) → on xs ≡ false → run on xs ≡ []
  unfolding run
  run_off [] h = refl
  run_off (b ∷ bs) h = ap (λ (t : Bool). cond t (b ∷ run on bs) []) h

  pub run-most : (xs : List ℕ) → length (run on xs) ≤ length xs
  unfolding run
  run-most [] = omega arith
  run-most (b ∷ bs) = go (on (b ∷ bs)) (run-most bs)
    where
      go : (t : Bool) → length (run on bs) ≤ length bs → length (cond t (b ∷ run on bs) []) ≤ length (b ∷ bs)
      go true h = omega arith
      go false h = omega arith

  pub run-front : (xs : List ℕ) → take (length (run on xs)) xs ≡ run on xs
  unfolding run
  run-front [] = refl
  run-front (b ∷ bs) = go (on (b ∷ bs)) (run-front bs)
    where
      go : (t : Bool) → take (length (run on bs)) bs ≡ run on bs → take (length (cond t (b ∷ run on bs) [])) (b ∷ bs) ≡ cond t (b ∷ run on bs) []
      go true h = ap (λ (l : List ℕ). b ∷ l) h
      go false h = refl

  run_end : (xs : List ℕ) → on [] ≡ false → on (drop (length (run on xs)) xs) ≡ false
  unfolding run
  run_end [] z = z
  run_end (b ∷ bs) z = go (on (b ∷ bs)) refl (run_end bs z)
    where
      go : (t : Bool) → on (b ∷ bs) ≡ t → on (drop (length (run on bs)) bs) ≡ false → on (drop (length (cond t (b ∷ run on bs) [])) (b ∷ bs)) ≡ false
      go true e h = h
      go false e h = e

  -- ---- the run that begins at a place
  module _ (xs : List ℕ) (at : ℕ) where
    pub at_on : at < length xs → on (drop at xs) ≡ true → run on (drop at xs) ≡ get_or xs at 0 ∷ run on (drop (at + 1) xs)
    at_on h e = ap (run on) (here xs at h) ∙ run_on (get_or xs at 0) (drop (at + 1) xs) (sym (ap on (here xs at h)) ∙ e)

    pub at_nil : on [] ≡ false → length xs ≤ at → run on (drop at xs) ≡ []
    at_nil z h = run_off (drop at xs) (ap on (drop_of_length-le xs h) ∙ z)

    pub at_most : at ≤ length xs → at + length (run on (drop at xs)) ≤ length xs
    at_most h = omega (arith, run-most (drop at xs), length-drop at xs)

    module _ (end : ℕ) (place : end ≡ at + length (run on (drop at xs))) where
      pub at_front : take (end - at) (drop at xs) ≡ run on (drop at xs)
      at_front =
          let k : end - at ≡ length (run on (drop at xs)) = omega arith in
          ap (λ (n : ℕ). take n (drop at xs)) k ∙ run-front (drop at xs)

      pub at_rest : drop end xs ≡ drop (length (run on (drop at xs))) (drop at xs)
      at_rest = ap (λ (n : ℕ). drop n xs) place ∙ sym (drop-drop (length (run on (drop at xs))) at xs)

      pub at_end : on [] ≡ false → on (drop end xs) ≡ false
      at_end z = ap on at_rest ∙ run_end (drop at xs) z
