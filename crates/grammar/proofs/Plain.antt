-- Lines and texts: a line holds no newline, and lines that hold none are the lines of a text. Assumes nothing.
use mathlib.Core.Path.{◌≡◌, refl, ap, ap₂, ◌∙◌}
use mathlib.Core.Bool.{Bool, true, false, cond, ◌&&◌}
use mathlib.Core.List.{List, [], ◌∷◌, ◌++◌}
use Prim.Native.Nat.{ℕ, zero, suc}
use lib.Dec.{eqb}
use lib.ListN.{take}
use Rattle.digits.proofs.Bytes.{not_right, neither}
use Rattle.lines.specs.Lines.{begins, holds, on_first, lines_of}
use Rattle.grammar.proofs.Entries.{or_neither}

unfoldable pub Plain : List (List ℕ) → Type 0
Plain [] = Unit
Plain (l ∷ ls) = (holds 10 l ≡ false) × Plain ls

pub plain_append : (xs ys : List (List ℕ)) → Plain xs → Plain ys → Plain (xs ++ ys)
unfolding Plain
plain_append [] ys p q = q
plain_append (x ∷ xs) ys p q = (p.0, plain_append xs ys p.1 q)

pub plain-take : (i : ℕ) (ls : List (List ℕ)) → Plain ls → Plain (take i ls)
unfolding Plain
plain-take zero ls p = tt
plain-take (suc i) [] p = tt
plain-take (suc i) (l ∷ ls) p = (p.0, plain-take i ls p.1)

-- two parts of a line
pub plain-join : (xs ys : List ℕ) → holds 10 xs ≡ false → holds 10 ys ≡ false → holds 10 (xs ++ ys) ≡ false
unfolding holds
plain-join [] ys p q = q
plain-join (x ∷ xs) ys p q =
    let g = or_neither (eqb x 10) (holds 10 xs) p in neither (eqb x 10) (holds 10 (xs ++ ys)) g.0 (plain-join xs ys g.1 q)

-- ---- the lines of a text are so

plain-first : (b : ℕ) (ls : List (List ℕ)) → eqb b 10 ≡ false → Plain ls → Plain (on_first b ls)
unfolding Plain on_first holds
plain-first b [] e p = (neither (eqb b 10) false e refl, tt)
plain-first b (l ∷ ls) e p = (neither (eqb b 10) (holds 10 l) e p.0, p.1)

pub plain_lines : (text : List ℕ) → Plain (lines_of text)
unfolding lines_of Plain holds
plain_lines [] = tt
plain_lines (b ∷ bs) = go (eqb b 10) refl (eqb b 13 && begins 10 bs) (plain_lines bs)
  where
    go : (s : Bool) → eqb b 10 ≡ s → (t : Bool) → Plain (lines_of bs) → Plain (cond s ([] ∷ lines_of bs) (cond t (lines_of bs) (on_first b (lines_of bs))))
    go true e t p = (refl, p)
    go false e true p = p
    go false e false p = plain-first b (lines_of bs) e p

-- ---- and such lines are those of a text

-- each with a carriage return and a newline, so that a carriage return at its end stays its own
unfoldable pub text_of : List (List ℕ) → List ℕ
text_of [] = []
text_of (l ∷ ls) = l ++ (13 ∷ 10 ∷ text_of ls)

no_newline : (l rest : List ℕ) → holds 10 l ≡ false → begins 10 (l ++ (13 ∷ rest)) ≡ false
unfolding holds begins
no_newline [] rest h = refl
no_newline (x ∷ l) rest h = (or_neither (eqb x 10) (holds 10 l) h).0

line_first : (l rest : List ℕ) → holds 10 l ≡ false → lines_of (l ++ (13 ∷ 10 ∷ rest)) ≡ l ∷ lines_of rest
unfolding lines_of holds begins on_first
line_first [] rest h = refl
line_first (x ∷ l) rest h =
    let g = or_neither (eqb x 10) (holds 10 l) h in
    let more : List ℕ = l ++ (13 ∷ 10 ∷ rest) in
    ap₂ (λ (s t : Bool). cond s ([] ∷ lines_of more) (cond t (lines_of more) (on_first x (lines_of more)))) g.0
    (not_right (eqb x 13) (begins 10 more) (no_newline l (10 ∷ rest) g.1))
    ∙ ap (on_first x) (line_first l rest g.1)

pub lines-text : (ls : List (List ℕ)) → Plain ls → lines_of (text_of ls) ≡ ls
unfolding Plain text_of lines_of
lines-text [] p = refl
lines-text (l ∷ ls) p = line_first l (text_of ls) p.0 ∙ ap (λ (xs : List (List ℕ)). l ∷ xs) (lines-text ls p.1)
