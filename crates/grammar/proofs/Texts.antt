-- Entries as lines, and how large the numbers of a size line are. Assumes nothing.
use mathlib.Core.Path.{◌≡◌, refl, sym, ap, ap₂, ◌∙◌}
use mathlib.Core.Bool.{Bool, true, false, cond, not, ◌&&◌}
use mathlib.Core.List.{List, [], ◌∷◌, ◌++◌, append-nil}
use Prim.Native.Nat.{ℕ, ◌^◌, ◌≤◌, ◌<◌}
use native.Mathlib.Omega.{arith}
use borrow.Author.Tests.{leb-true, le-leb, le-ltb, ne_eqb}
use lib.Dec.{eqb, leb, ltb}
use lib.ListN.{length, length-append}
use Rattle.digits.specs.Digits.{every, is_digit, decimal}
use Rattle.digits.proofs.Bytes.{both, both_of, neither, digit_range}
use Rattle.digits.proofs.Decimals.{decimal-digits, decimal-least, decimal-most, value-decimal}
use Rattle.digits.proofs.Lists.{every_cons}
use Rattle.lines.specs.Lines.{begins, holds, on_first, is_blank, goes_on, words_of}
use Rattle.lines.specs.Kinds.{bytes_most, largest, value_of, is_number, are_numbers, kind_by, numbers_in, kind_of}
use Rattle.lines.proofs.Numbers.{no_blank}
use Rattle.lines.specs.declared.Kind.{Kind}
use Rattle.lines.specs.declared.Kind.TheVariants as K
use Rattle.grammar.proofs.Plain.{plain-join}

-- ---- the words of a line

word-ends : (d : ℕ) (bs : List ℕ) → is_blank d ≡ false → goes_on bs ≡ false → words_of (d ∷ bs) ≡ (d ∷ []) ∷ words_of bs
unfolding words_of
word-ends d bs p q =
    ap₂ (λ (s t : Bool). cond s (words_of bs) (cond t (on_first d (words_of bs)) ((d ∷ []) ∷ words_of bs))) p q

word_goes : (d : ℕ) (bs : List ℕ) → is_blank d ≡ false → goes_on bs ≡ true → words_of (d ∷ bs) ≡ on_first d (words_of bs)
unfolding words_of
word_goes d bs p q =
    ap₂ (λ (s t : Bool). cond s (words_of bs) (cond t (on_first d (words_of bs)) ((d ∷ []) ∷ words_of bs))) p q

-- digits up to where no word goes on are a word
word : (d : ℕ) (ds tail : List ℕ) → every is_digit (d ∷ ds) ≡ true → goes_on tail ≡ false → words_of ((d ∷ ds) ++ tail) ≡ (d ∷ ds) ∷ words_of tail
unfolding on_first goes_on
word d [] tail h g = word-ends d tail (no_blank d (every_cons is_digit d [] h).0) g
word d (e ∷ ds) tail h g =
    let a = every_cons is_digit d (e ∷ ds) h in
    let b = every_cons is_digit e ds a.1 in
    word_goes d ((e ∷ ds) ++ tail) (no_blank d a.0) (ap not (no_blank e b.0)) ∙ ap (on_first d) (word e ds tail a.1 g)

two-words : (xs ys : List ℕ) → every is_digit xs ≡ true → every is_digit ys ≡ true → 1 ≤ length xs → 1 ≤ length ys
    → words_of (xs ++ (32 ∷ ys)) ≡ xs ∷ ys ∷ []
unfolding words_of goes_on is_blank
two-words [] ys p q l m = absurd (omega arith)
two-words (x ∷ xs) [] p q l m = absurd (omega arith)
two-words (x ∷ xs) (y ∷ ys) p q l m =
    word x xs (32 ∷ y ∷ ys) p refl
    ∙ ap (λ (ws : List (List ℕ)). (x ∷ xs) ∷ ws) (ap words_of (sym (append-nil (y ∷ ys))) ∙ word y ys [] q refl)

no_comment : (xs ys : List ℕ) → every is_digit xs ≡ true → 1 ≤ length xs → begins 37 (xs ++ ys) ≡ false
unfolding begins
no_comment [] ys p l = absurd (omega arith)
no_comment (x ∷ xs) ys p l = let r = digit_range x (every_cons is_digit x xs p).0 in ne_eqb x 37 (λ e. omega arith)

-- ---- an entry's line

pub line_of : ℕ → ℕ → List ℕ
line_of r c = decimal r ++ (32 ∷ decimal c)

numbers_of_lem : (line : List ℕ) (ws : List (List ℕ)) → words_of line ≡ ws → are_numbers ws ≡ true → numbers_in line ≡ kind_by ws
unfolding numbers_in
numbers_of_lem line ws e h =
    ap (λ (vs : List (List ℕ)). cond (are_numbers vs) (kind_by vs) K.Other) e ∙ ap (λ (t : Bool). cond t (kind_by ws) K.Other) h

is-number : (n : ℕ) → n ≤ largest → is_number (decimal n) ≡ true
unfolding is_number
is-number n l =
    both (every is_digit (decimal n)) (leb (value_of (decimal n)) largest) (decimal-digits n (omega arith))
    (le-leb (value_of (decimal n)) largest (omega (arith, value-decimal n (omega arith))))

pub kind_entry : (r c : ℕ) → r ≤ largest → c ≤ largest → kind_of (line_of r c) ≡ K.Entry r c
unfolding line_of kind_of kind_by are_numbers
kind_entry r c p q =
    let a : r < 10 ^ 20 = omega arith in
    let b : c < 10 ^ 20 = omega arith in
    let line : List ℕ = decimal r ++ (32 ∷ decimal c) in
    let short : length line ≤ bytes_most = omega (arith, length-append (decimal r) (32 ∷ decimal c), decimal-most r, decimal-most c) in
    let ds = decimal-digits r a in
    let es = decimal-digits c b in
    let rest : Bool → Bool → Kind = λ s t. cond s K.Other (cond t (cond (holds 13 line) K.Other K.Comment) (numbers_in line)) in
    ap₂ rest (le-ltb bytes_most (length line) short) (no_comment (decimal r) (32 ∷ decimal c) ds (decimal-least r a))
    ∙ numbers_of_lem line (decimal r ∷ decimal c ∷ []) (two-words (decimal r) (decimal c) ds es (decimal-least r a) (decimal-least c b))
    (both (is_number (decimal r)) (is_number (decimal c) && true) (is-number r p) (both (is_number (decimal c)) true (is-number c q) refl))
    ∙ ap₂ (λ (x y : ℕ). K.Entry x y) (value-decimal r a) (value-decimal c b)

-- it holds no newline
digits-plain : (ds : List ℕ) → every is_digit ds ≡ true → holds 10 ds ≡ false
unfolding holds
digits-plain [] h = refl
digits-plain (d ∷ ds) h =
    let g = every_cons is_digit d ds h in
    let r = digit_range d g.0 in
    neither (eqb d 10) (holds 10 ds) (ne_eqb d 10 (λ e. omega arith)) (digits-plain ds g.1)

pub line_plain : (r c : ℕ) → r ≤ largest → c ≤ largest → holds 10 (line_of r c) ≡ false
unfolding line_of holds
line_plain r c p q =
    plain-join (decimal r) (32 ∷ decimal c) (digits-plain (decimal r) (decimal-digits r (omega arith))) (digits-plain (decimal c) (decimal-digits c (omega arith)))

-- ---- a size line's numbers

kind_small : (ws : List (List ℕ)) {a b m : ℕ} → are_numbers ws ≡ true → kind_by ws ≡ K.Size a b m → a ≤ largest
unfolding kind_by are_numbers is_number
kind_small [] p h = absurd (let z : ◌≡◌ {A = ℕ} 0 1 = cc in omega arith)
kind_small (u ∷ []) p h = absurd (let z : ◌≡◌ {A = ℕ} 0 1 = cc in omega arith)
kind_small (u ∷ v ∷ []) p h = absurd (let z : ◌≡◌ {A = ℕ} 0 1 = cc in omega arith)
kind_small (u ∷ v ∷ w ∷ []) {a} p h =
    let e : value_of u ≡ a = cc in
    let g = both_of (is_number u) (are_numbers (v ∷ w ∷ [])) p in
    omega (arith, leb-true (value_of u) largest (both_of (every is_digit u) (leb (value_of u) largest) g.0).1)
kind_small (u ∷ v ∷ w ∷ x ∷ ws) p h = absurd (let z : ◌≡◌ {A = ℕ} 0 1 = cc in omega arith)

numbers-small : (line : List ℕ) {a b m : ℕ} → numbers_in line ≡ K.Size a b m → a ≤ largest
unfolding numbers_in
numbers-small line {a} {b} {m} h = go (are_numbers (words_of line)) refl h
  where
    go : (t : Bool) → are_numbers (words_of line) ≡ t → cond t (kind_by (words_of line)) K.Other ≡ K.Size a b m → a ≤ largest
    go true e h = kind_small (words_of line) e h
    go false e h = absurd (let z : ◌≡◌ {A = ℕ} 0 1 = cc in omega arith)

pub size_small : (line : List ℕ) {a b m : ℕ} → kind_of line ≡ K.Size a b m → a ≤ largest
unfolding kind_of
size_small line {a} {b} {m} h = go (ltb bytes_most (length line)) (begins 37 line) (holds 13 line) h
  where
    go : (s t u : Bool) → cond s K.Other (cond t (cond u K.Other K.Comment) (numbers_in line)) ≡ K.Size a b m → a ≤ largest
    go true t u h = absurd (let z : ◌≡◌ {A = ℕ} 0 1 = cc in omega arith)
    go false true true h = absurd (let z : ◌≡◌ {A = ℕ} 0 1 = cc in omega arith)
    go false true false h = absurd (let z : ◌≡◌ {A = ℕ} 0 1 = cc in omega arith)
    go false false u h = numbers-small line h
