-- A row in file order has each column as often as the definition's row: once if the two are linked, and otherwise not. Assumes nothing.
use mathlib.Core.Bool.{Bool, true, false, cond, ◌||◌, false≢true}
use mathlib.Core.Logic.{⊎_elim}
use mathlib.Core.List.{List, [], ◌∷◌}
use mathlib.Core.Path.{◌≡◌, refl, sym, ap, ◌∙◌}
use Prim.Native.Nat.{ℕ, zero, suc, ◌+◌, ◌-◌, ◌≤◌, ◌<◌}
use native.Mathlib.Omega.{arith}
use borrow.Author.Tests.{eq-eqb, ne_eqb}
use lib.Dec.{eqb}
use Rattle.definition.proofs.Fill.{split, same_or}
use Rattle.digits.proofs.Bytes.{either_of, left_or, right_or, neither, settle}
use Rattle.edges.specs.Sorting.{one, count}
use Rattle.edges.proofs.Order.{one_self, count_append}
use Rattle.market.specs.Market.{Entry, is, has}
use Rattle.market.specs.Graph.{linked, passing, row_of}
use Rattle.market.specs.Passes.{Within, touch, neighbours}
use Rattle.market.proofs.Right.{Distinct, is-yes, is_same, is-no, within_has}

-- 1 where it is so, 0 where not
abbrev pub bit : Bool → ℕ
bit b = cond b 1 0

pub one-by : (x y : ℕ) → one x y ≡ bit (eqb x y)
unfolding one
one-by x y = refl

pub one_other : (x y : ℕ) → (x ≡ y → ⊥) → one x y ≡ 0
unfolding one
one_other x y h = rw (ne_eqb x y h) refl

-- ---- an entry

-- whether an entry links i and x
unfoldable pub hits : Entry → ℕ → ℕ → Bool
hits e i x = is e (suc i) (suc x) || is e (suc x) (suc i)

-- a list of one, and of none
single : (x y : ℕ) → count x (y ∷ []) ≡ one x y
unfolding count
single x y = omega arith

none : (x : ℕ) → count x [] ≡ 0
unfolding count
none x = refl

single_yes : (x y : ℕ) → y ≡ x → count x (y ∷ []) ≡ 1
single_yes x y p = single x y ∙ ap (one x) p ∙ one_self x

single_no : (x y : ℕ) → (x ≡ y → ⊥) → count x (y ∷ []) ≡ 0
single_no x y p = single x y ∙ one_other x y p

module _ (e : Entry) (i x : ℕ) where
  pub touch-row : e.row ≡ suc i → touch i e ≡ (e.column - 1) ∷ []
  unfolding touch
  touch-row p = rw (eq-eqb e.row (suc i) p) refl

  pub touch-column : (e.row ≡ suc i → ⊥) → e.column ≡ suc i → touch i e ≡ (e.row - 1) ∷ []
  unfolding touch
  touch-column p q = rw (ne_eqb e.row (suc i) p, eq-eqb e.column (suc i) q) refl

  pub touch-none : (e.row ≡ suc i → ⊥) → (e.column ≡ suc i → ⊥) → touch i e ≡ []
  unfolding touch
  touch-none p q = rw (ne_eqb e.row (suc i) p, ne_eqb e.column (suc i) q) refl

  hits-first : e.row ≡ suc i → e.column ≡ suc x → bit (hits e i x) ≡ 1
  unfolding hits
  hits-first p q = ap bit (left_or _ (is e (suc x) (suc i)) (is-yes e (suc i) (suc x) p q))

  hits-second : e.row ≡ suc x → e.column ≡ suc i → bit (hits e i x) ≡ 1
  unfolding hits
  hits-second p q = ap bit (right_or (is e (suc i) (suc x)) _ (is-yes e (suc x) (suc i) p q))

  hits-none : (e.row ≡ suc i → e.column ≡ suc x → ⊥) → (e.row ≡ suc x → e.column ≡ suc i → ⊥) → bit (hits e i x) ≡ 0
  unfolding hits
  hits-none p q = ap bit (neither (is e (suc i) (suc x)) (is e (suc x) (suc i)) (is-no e (suc i) (suc x) p) (is-no e (suc x) (suc i) q))

  pub touch-count : 1 ≤ e.column → e.column ≤ e.row → count x (touch i e) ≡ bit (hits e i x)
  touch-count h l =
      same_or e.row (suc i)
      (λ p. ap (count x) (touch-row p) ∙ same_or e.column (suc x)
      (λ q. single_yes x (e.column - 1) (omega arith) ∙ sym (hits-first p q))
      (λ q. single_no x (e.column - 1) (λ z. q (omega arith)) ∙ sym (hits-none (λ a b. q b) (λ a b. q (omega arith)))))
      (λ p. same_or e.column (suc i)
      (λ q. ap (count x) (touch-column p q) ∙ same_or e.row (suc x)
      (λ u. single_yes x (e.row - 1) (omega arith) ∙ sym (hits-second u q))
      (λ u. single_no x (e.row - 1) (λ z. u (omega arith)) ∙ sym (hits-none (λ a b. p a) (λ a b. u a))))
      (λ q. ap (count x) (touch-none p q) ∙ none x ∙ sym (hits-none (λ a b. p a) (λ a b. q b))))

-- ---- a row

pub linked_cons : (e : Entry) (es : List Entry) (i x : ℕ) → linked (e ∷ es) i x ≡ (hits e i x || linked es i x)
unfolding linked has hits
linked_cons e es i x = shuffle (is e (suc i) (suc x)) (has es (suc i) (suc x)) (is e (suc x) (suc i)) (has es (suc x) (suc i))
  where
    shuffle : (a b c d : Bool) → ((a || b) || (c || d)) ≡ ((a || c) || (b || d))
    shuffle true b c d = refl
    shuffle false true true d = refl
    shuffle false true false d = refl
    shuffle false false c d = refl

-- an entry of the triangle that is not among es links nothing that they link
module _ (n : ℕ) (e : Entry) (es : List Entry) (l : e.column ≤ e.row) (w : Within n es) (d : has es e.row e.column ≡ false) where
  clash : (r c : ℕ) → has es r c ≡ true → e.row ≡ r → e.column ≡ c → ⊥
  clash r c h p q = false≢true (sym d ∙ rw (p, q) h)

  crossed : (r c : ℕ) → has es r c ≡ true → e.row ≡ c → e.column ≡ r → ⊥
  crossed r c h p q = let t = within_has n es r c w h in clash r c h (omega arith) (omega arith)

  hit_alone : (i x : ℕ) → hits e i x ≡ true → linked es i x ≡ false
  unfolding linked hits
  hit_alone i x h = neither (has es (suc i) (suc x)) (has es (suc x) (suc i))
      (settle _ (λ a. ⊎_elim
      (λ p. let u = is_same e (suc i) (suc x) p in clash (suc i) (suc x) a u.0 u.1)
      (λ p. let u = is_same e (suc x) (suc i) p in crossed (suc i) (suc x) a u.0 u.1) (either_of _ _ h)))
      (settle _ (λ a. ⊎_elim
      (λ p. let u = is_same e (suc i) (suc x) p in crossed (suc x) (suc i) a u.0 u.1)
      (λ p. let u = is_same e (suc x) (suc i) p in clash (suc x) (suc i) a u.0 u.1) (either_of _ _ h)))

linked_nil : (i x : ℕ) → linked [] i x ≡ false
unfolding linked has
linked_nil i x = refl

pub row_count : (n : ℕ) (es : List Entry) (i x : ℕ) → Within n es → Distinct es → count x (neighbours i es) ≡ bit (linked es i x)
unfolding neighbours Within Distinct
row_count n [] i x w d = none x ∙ sym (ap bit (linked_nil i x))
row_count n (e ∷ es) i x w d =
    count_append x (touch i e) (neighbours i es)
    ∙ rw (touch-count e i x w.0 w.1, row_count n es i x w.3 d.1, linked_cons e es i x)
    (sum_or (hits e i x) (linked es i x) (hit_alone n e es w.1 w.3 d.0 i x))
  where
    sum_or : (a b : Bool) → (a ≡ true → b ≡ false) → bit a + bit b ≡ bit (a || b)
    sum_or true b h = rw (h refl) refl
    sum_or false true h = refl
    sum_or false false h = refl

-- ---- the definition's row

count-step : (x a : ℕ) (b : Bool) (l : List ℕ) → count x (cond b (a ∷ l) l) ≡ cond b (one x a) 0 + count x l
unfolding count
count-step x a true l = refl
count-step x a false l = omega arith

step_other : (x a : ℕ) (b : Bool) → (x ≡ a → ⊥) → cond b (one x a) 0 ≡ 0
step_other x a true h = one_other x a h
step_other x a false h = refl

step_same : (x a : ℕ) (b : Bool) → x ≡ a → cond b (one x a) 0 ≡ bit b
step_same x a true h = ap (one x) (sym h) ∙ one_self x
step_same x a false h = refl

-- a number outside the m numbers from a on is not among those that pass a test, and one inside is where it passes
module _ (p : ℕ → Bool) where
  pub passing-below : (a m x : ℕ) → x < a → count x (passing p a m) ≡ 0
  unfolding passing
  passing-below a zero x h = none x
  passing-below a (suc m) x h =
      omega (arith, count-step x a (p a) (passing p (suc a) m), step_other x a (p a) (λ z. omega arith), passing-below (suc a) m x (omega arith))

  pub passing_above : (a m x : ℕ) → a + m ≤ x → count x (passing p a m) ≡ 0
  unfolding passing
  passing_above a zero x h = none x
  passing_above a (suc m) x h =
      omega (arith, count-step x a (p a) (passing p (suc a) m), step_other x a (p a) (λ z. omega arith), passing_above (suc a) m x (omega arith))

  pub passing-inside : (a m x : ℕ) → a ≤ x → x < a + m → count x (passing p a m) ≡ bit (p x)
  unfolding passing
  passing-inside a zero x h k = absurd (omega arith)
  passing-inside a (suc m) x h k =
      same_or x a
      (λ q. omega (arith, count-step x a (p a) (passing p (suc a) m), step_same x a (p a) q, passing-below (suc a) m x (omega arith), ap (λ (y : ℕ). bit (p y)) q))
      (λ q. omega (arith, count-step x a (p a) (passing p (suc a) m), step_other x a (p a) q, passing-inside (suc a) m x (omega arith) (omega arith)))

-- what is linked is below n
pub linked-below : (n : ℕ) (es : List Entry) (i x : ℕ) → Within n es → linked es i x ≡ true → (i < n) × (x < n)
unfolding linked
linked-below n es i x w h = ⊎_elim
    (λ a. let t = within_has n es (suc i) (suc x) w a in omega (arith, t.0, t.1, t.2))
    (λ a. let t = within_has n es (suc x) (suc i) w a in omega (arith, t.0, t.1, t.2))
    (either_of (has es (suc i) (suc x)) (has es (suc x) (suc i)) h)

-- a row in file order has what the definition's row has
pub same_count : (n : ℕ) (es : List Entry) (i x : ℕ) → Within n es → Distinct es → count x (neighbours i es) ≡ count x (row_of n es i)
unfolding row_of
same_count n es i x w d =
    row_count n es i x w d ∙ split x n
    (λ h. sym (passing-inside (linked es i) 0 n x (omega arith) (omega arith)))
    (λ h. ap bit (settle (linked es i x) (λ q. omega (arith, linked-below n es i x w q))) ∙ sym (passing_above (linked es i) 0 n x (omega arith)))
