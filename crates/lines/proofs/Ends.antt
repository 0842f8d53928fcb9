-- Laws of lines: where one goes on, what ends it, and that the lines of a text are the first line and those behind its end. Assumes nothing.
use mathlib.Core.Path.{◌≡◌, refl, sym, ap, ap₂, ◌∙◌}
use mathlib.Core.Logic.{⊎_elim}
use mathlib.Core.Bool.{Bool, true, false, cond, not, ◌&&◌, ◌||◌, false≢true}
use mathlib.Core.List.{List, [], ◌∷◌}
use Prim.Native.Nat.{ℕ, ◌+◌, ◌-◌, ◌≤◌, ◌<◌}
use native.Mathlib.Omega.{arith}
use borrow.Author.Tests.{eq-eqb, ne_eqb}
use lib.Dec.{eqb}
use lib.ListN.{length, get_or, take, drop, length-drop, drop_of_length-le}
use lib.Seq.{drop-drop, drop-nil}
use Rattle.digits.proofs.Bytes.{both_of, not_left, not_right, lt_or_ge}
use Rattle.lines.specs.Lines.{begins, on_first, lines_of}
use Rattle.lines.specs.Kinds.{kind_of, kinds_of, kinds_at}
use Rattle.lines.specs.Parts.{run, line_goes_on, line_at, end_length}
use Rattle.lines.proofs.Runs.{here, run_on, run_off, at_front, at_rest, at_end, at_most}

-- ---- where a line goes on
pub goes_nil : line_goes_on [] ≡ false
unfolding line_goes_on
goes_nil = refl

goes_cons : (b : ℕ) (bs : List ℕ) (s t : Bool) → eqb b 10 ≡ s → (eqb b 13 && begins 10 bs) ≡ t → line_goes_on (b ∷ bs) ≡ not (s || t)
unfolding line_goes_on
goes_cons b bs s t p q = ap₂ (λ (x y : Bool). not (x || y)) p q

pub begins-at : (b : ℕ) (xs : List ℕ) (i : ℕ) → i < length xs → begins b (drop i xs) ≡ eqb (get_or xs i 0) b
unfolding begins
begins-at b xs i h = ap (begins b) (here xs i h)

pub begins_end : (b : ℕ) (xs : List ℕ) (i : ℕ) → length xs ≤ i → begins b (drop i xs) ≡ false
unfolding begins
begins_end b xs i h = ap (begins b) (drop_of_length-le xs h)

module _ (text : List ℕ) (i : ℕ) (more : i < length text) where
  abbrev b : ℕ
  b = get_or text i 0

  goes_at : (s t : Bool) → eqb b 10 ≡ s → (eqb b 13 && begins 10 (drop (i + 1) text)) ≡ t → line_goes_on (drop i text) ≡ not (s || t)
  goes_at s t p q = ap line_goes_on (here text i more) ∙ goes_cons b (drop (i + 1) text) s t p q

  pub goes_other : (b ≡ 10 → ⊥) → (b ≡ 13 → ⊥) → true ≡ line_goes_on (drop i text)
  goes_other p q = sym (goes_at false false (ne_eqb b 10 p) (not_left (eqb b 13) (begins 10 (drop (i + 1) text)) (ne_eqb b 13 q)))

  pub goes_newline : b ≡ 10 → false ≡ line_goes_on (drop i text)
  goes_newline p = sym (goes_at true _ (eq-eqb b 10 p) refl)

  pub goes_last : (b ≡ 10 → ⊥) → length text ≤ i + 1 → true ≡ line_goes_on (drop i text)
  goes_last p h = sym (goes_at false false (ne_eqb b 10 p) (not_right (eqb b 13) (begins 10 (drop (i + 1) text)) (begins_end 10 text (i + 1) h)))

  pub goes_return : (b ≡ 10 → ⊥) → b ≡ 13 → i + 1 < length text → not (eqb (get_or text (i + 1) 0) 10) ≡ line_goes_on (drop i text)
  goes_return p q h =
      sym (goes_at false (eqb (get_or text (i + 1) 0) 10) (ne_eqb b 10 p)
      (ap₂ (λ (s t : Bool). s && t) (eq-eqb b 13 q) (begins-at 10 text (i + 1) h)))

-- ---- what ends it
end_nil : end_length [] ≡ 0
unfolding end_length
end_nil = refl

end_newline : (b : ℕ) (bs : List ℕ) → eqb b 10 ≡ true → end_length (b ∷ bs) ≡ 1
unfolding end_length
end_newline b bs e = ap (λ (t : Bool). cond t 1 2) e

end_return : (b : ℕ) (bs : List ℕ) → eqb b 10 ≡ false → end_length (b ∷ bs) ≡ 2
unfolding end_length
end_return b bs e = ap (λ (t : Bool). cond t 1 2) e

pub end_within : (xs : List ℕ) → line_goes_on xs ≡ false → end_length xs ≤ length xs
end_within [] h = omega (arith, end_nil)
end_within (b ∷ bs) h = go (eqb b 10) (eqb b 13 && begins 10 bs) refl refl
  where
    some : (ys : List ℕ) → begins 10 ys ≡ true → 1 ≤ length ys
    some [] e = absurd (false≢true (sym (begins_end 10 [] 0 (omega arith)) ∙ e))
    some (y ∷ ys) e = omega arith

    go : (s t : Bool) → eqb b 10 ≡ s → (eqb b 13 && begins 10 bs) ≡ t → end_length (b ∷ bs) ≤ length (b ∷ bs)
    go true t p q = omega (arith, end_newline b bs p)
    go false true p q = omega (arith, end_return b bs p, some bs (both_of (eqb b 13) (begins 10 bs) q).1)
    go false false p q = absurd (false≢true (sym h ∙ goes_cons b bs false false p q))

pub end_some : (xs : List ℕ) → 1 ≤ length xs → 1 ≤ end_length xs
end_some [] h = absurd (omega arith)
end_some (b ∷ bs) h = go (eqb b 10) refl
  where
    go : (s : Bool) → eqb b 10 ≡ s → 1 ≤ end_length (b ∷ bs)
    go true p = omega (arith, end_newline b bs p)
    go false p = omega (arith, end_return b bs p)

module _ (text : List ℕ) (end : ℕ) where
  pub ends_nowhere : length text ≤ end → end ≡ end + end_length (drop end text)
  ends_nowhere h = omega (arith, ap end_length (drop_of_length-le text h) ∙ end_nil)

  pub ends_newline : end < length text → get_or text end 0 ≡ 10 → end + 1 ≡ end + end_length (drop end text)
  ends_newline h p = omega (arith, ap end_length (here text end h) ∙ end_newline (get_or text end 0) (drop (end + 1) text) (eq-eqb (get_or text end 0) 10 p))

  pub ends_return : end < length text → (get_or text end 0 ≡ 10 → ⊥) → end + 2 ≡ end + end_length (drop end text)
  ends_return h p = omega (arith, ap end_length (here text end h) ∙ end_return (get_or text end 0) (drop (end + 1) text) (ne_eqb (get_or text end 0) 10 p))

-- ---- the first line, and the others
lines_nil : lines_of [] ≡ []
unfolding lines_of
lines_nil = refl

-- behind the last line there is none
pub kinds_end : (text : List ℕ) (at : ℕ) → length text ≤ at → kinds_at text at ≡ []
unfolding kinds_of
kinds_end text at h = ap (λ (l : List ℕ). kinds_of (lines_of l)) (drop_of_length-le text h) ∙ ap kinds_of lines_nil

lines_cons : (b : ℕ) (bs : List ℕ) (s t : Bool) → eqb b 10 ≡ s → (eqb b 13 && begins 10 bs) ≡ t
    → lines_of (b ∷ bs) ≡ cond s ([] ∷ lines_of bs) (cond t (lines_of bs) (on_first b (lines_of bs)))
unfolding lines_of
lines_cons b bs s t p q = ap₂ (λ (x y : Bool). cond x ([] ∷ lines_of bs) (cond y (lines_of bs) (on_first b (lines_of bs)))) p q

-- what stands behind the end of a line
abbrev behind : List ℕ → List ℕ
behind xs = drop (end_length xs) xs

-- the lines of a text by its first
abbrev FirstLine : List ℕ → List ℕ → Type 0
FirstLine xs l = lines_of xs ≡ l ∷ lines_of (behind (drop (length l) xs))

-- a newline that a carriage return stands before
line-begun : (bs : List ℕ) → begins 10 bs ≡ true → lines_of bs ≡ [] ∷ lines_of (drop 1 bs)
unfolding begins
line-begun [] h = absurd (false≢true h)
line-begun (c ∷ cs) h = lines_cons c cs true _ h refl

-- a byte of the line
line_byte : (b : ℕ) (bs : List ℕ) → lines_of (b ∷ bs) ≡ on_first b (lines_of bs) → (1 ≤ length bs → FirstLine bs (run line_goes_on bs))
    → FirstLine (b ∷ bs) (b ∷ run line_goes_on bs)
unfolding on_first run
line_byte b [] e f = e ∙ ap (on_first b) lines_nil ∙ ap (λ (l : List (List ℕ)). (b ∷ []) ∷ l) (sym (ap lines_of (drop-nil (end_length [])) ∙ lines_nil))
line_byte b (c ∷ cs) e f = e ∙ ap (on_first b) (f (omega arith))

first-line : (xs : List ℕ) → 1 ≤ length xs → FirstLine xs (run line_goes_on xs)
first-line [] h = absurd (omega arith)
first-line (b ∷ bs) h = go (eqb b 10) (eqb b 13 && begins 10 bs) refl refl (first-line bs)
  where
    go : (s t : Bool) → eqb b 10 ≡ s → (eqb b 13 && begins 10 bs) ≡ t → (1 ≤ length bs → FirstLine bs (run line_goes_on bs))
        → FirstLine (b ∷ bs) (run line_goes_on (b ∷ bs))
    go true t p q f =
        rw (run_off line_goes_on (b ∷ bs) (goes_cons b bs true t p q)) (lines_cons b bs true t p q ∙ rw (end_newline b bs p))
    go false true p q f =
        rw (run_off line_goes_on (b ∷ bs) (goes_cons b bs false true p q))
        (lines_cons b bs false true p q ∙ line-begun bs (both_of (eqb b 13) (begins 10 bs) q).1 ∙ rw (end_return b bs p))
    go false false p q f =
        rw (run_on line_goes_on b bs (goes_cons b bs false false p q)) (line_byte b bs (lines_cons b bs false false p q) f)

-- the line that begins at a place, by the places where it ends and where the next one begins
module _ (text : List ℕ) (at end : ℕ) (more : at < length text) (place : end ≡ at + length (line_at text at)) where
  pub line-within : end ≤ length text
  line-within = omega (arith, at_most line_goes_on text at (omega arith))

  pub line_off : line_goes_on (drop end text) ≡ false
  line_off = at_end line_goes_on text at end place goes_nil

  module _ (next : ℕ) (after : next ≡ end + end_length (drop end text)) where
    pub line_first : lines_of (drop at text) ≡ take (end - at) (drop at text) ∷ lines_of (drop next text)
    line_first =
        let r : drop next text ≡ behind (drop (length (line_at text at)) (drop at text)) =
        ap (λ (n : ℕ). drop n text) after ∙ sym (drop-drop (end_length (drop end text)) end text)
        ∙ ap behind (at_rest line_goes_on text at end place) in
        first-line (drop at text) (rw length-drop (omega arith))
        ∙ ap₂ (λ (l m : List ℕ). l ∷ lines_of m) (sym (at_front line_goes_on text at end place)) (sym r)

    pub next-within : next ≤ length text
    next-within = omega (arith, line-within, length-drop end text, end_within (drop end text) line_off)

    pub next-on : at < next
    next-on =
        ⊎_elim (λ h. omega (arith, end_some (drop end text) (rw length-drop (omega arith)))) (λ h. omega arith) (lt_or_ge end (length text))

    pub line_kinds : kinds_at text at ≡ kind_of (take (end - at) (drop at text)) ∷ kinds_at text next
    unfolding kinds_of
    line_kinds = ap kinds_of line_first
