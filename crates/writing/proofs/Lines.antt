-- The lines of numbers and of floats. Assumes nothing.
use mathlib.Core.Path.{◌≡◌, refl, sym, ap, ap₂, ◌∙◌}
use mathlib.Core.Bool.{Bool, true, false, cond}
use mathlib.Core.List.{List, [], ◌∷◌, ◌++◌}
use Prim.Native.Nat.{ℕ, ◌+◌}
use lib.Ieee.{Float, binary64, to_bits}
use lib.ListN.{length, length-append}
use Rattle.digits.specs.Digits.{decimal, hex}
use Rattle.printing.specs.Printed.{bits_text}
use Rattle.printing.specs.Items.{joined_by}
use Rattle.reading.specs.Grammar.{Line, joined, line_text}
use Rattle.files.specs.RunText.{bits_of}
use Rattle.writing.specs.Putting.{line_by}

-- ---- a line
module _ {A : Type 0} (f : A → List ℕ) where
  pub line-length : (name : List ℕ) (xs : List A) → length (line_by f name xs) ≡ length name + (length (joined_by f xs) + 1)
  line-length name xs =
      length-append name (joined_by f xs ++ (10 ∷ []))
      ∙ ap (λ (n : ℕ). length name + n) (length-append (joined_by f xs) (10 ∷ []))

-- ---- the lines of a run file: of numbers, and of floats
joined-decimal : (l : Line) → l.in_hex ≡ false → (vs : List ℕ) → joined_by decimal vs ≡ joined l vs
unfolding joined joined_by
joined-decimal l e [] = refl
joined-decimal l e (v ∷ []) = sym (ap (λ (b : Bool). cond b (hex v) (decimal v)) e)
joined-decimal l e (v ∷ w ∷ vs) =
    ap₂ (λ (t u : List ℕ). t ++ (44 ∷ u)) (sym (ap (λ (b : Bool). cond b (hex v) (decimal v)) e)) (joined-decimal l e (w ∷ vs))

joined-bits : (l : Line) → l.in_hex ≡ true → (xs : List Float) → joined_by bits_text xs ≡ joined l (bits_of xs)
unfolding joined joined_by bits_of
joined-bits l e [] = refl
joined-bits l e (x ∷ []) = sym (ap (λ (b : Bool). cond b (bits_text x) (decimal (to_bits binary64 x))) e)
joined-bits l e (x ∷ y ∷ xs) = ap₂ (λ (t u : List ℕ). t ++ (44 ∷ u)) (sym (ap (λ (b : Bool). cond b (bits_text x) (decimal (to_bits binary64 x))) e)) (joined-bits l e (y ∷ xs))

pub line-decimal : (l : Line) → l.in_hex ≡ false → (vs : List ℕ) → line_by decimal l.name vs ≡ line_text l vs
line-decimal l e vs = ap (λ (t : List ℕ). l.name ++ (t ++ (10 ∷ []))) (joined-decimal l e vs)

pub line-bits : (l : Line) → l.in_hex ≡ true → (xs : List Float) → line_by bits_text l.name xs ≡ line_text l (bits_of xs)
line-bits l e xs = ap (λ (t : List ℕ). l.name ++ (t ++ (10 ∷ []))) (joined-bits l e xs)
