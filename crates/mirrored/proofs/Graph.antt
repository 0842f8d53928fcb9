-- The graph of a file passes 2 to 7, has no column twice in a row, and is symmetric. Assumes nothing.
use mathlib.Core.Bool.{Bool, true, false, not, or_comm}
use mathlib.Core.List.{List, [], ◌∷◌, ◌++◌, append-nil}
use mathlib.Core.Path.{◌≡◌, refl, sym, ap, ap₂, ◌∙◌}
use Prim.Native.Nat.{ℕ, zero, suc, ◌+◌, ◌-◌, ◌≤◌, ◌<◌}
use native.Mathlib.Nat.{add-zero, add-suc}
use native.Mathlib.Numerals.{add-one}
use native.Mathlib.Omega.{arith}
use borrow.Author.Tests.{eq-eqb, le-ltb, lt-leb}
use lib.Dec.{leb, ltb}
use lib.Ieee.{nan, of_bits, lt}
use lib.ListN.{length, get_or, take, drop, length-append, length-replicate, get_or-replicate, get_or-append}
use lib.Seq.{get_or-take, get_or-drop, get_or-append-add}
use Rattle.ascending.specs.Rows.{row_at}
use Rattle.definition.specs.Arith.{ieee64, is_finite}
use Rattle.definition.specs.Numbers.{rows_most, entries_most}
use Rattle.definition.specs.Refusals.{Verdict, accepted, given, or_else, first_from, given_first, falls, test_rows, test_limits, test_lengths, test_starts, test_columns, test_values, test_graph}
use Rattle.definition.proofs.Fill.{split, same_or}
use Rattle.definition.proofs.First.{all_first}
use Rattle.digits.proofs.Bytes.{neither}
use Rattle.edges.specs.Sorting.{count}
use Rattle.edges.proofs.Order.{count_at}
use Rattle.market.specs.Market.{Entry, has}
use Rattle.market.specs.Graph.{linked, row_of, columns_up_to, columns_of, start_of, placed_of, one}
use Rattle.mirrored.specs.Graph.{starts_from, starts_of, values_of, Mirror, Symmetric}
use Rattle.mirrored.proofs.Counts.{bit, one_other, passing-inside}
use Rattle.mirrored.proofs.Rising.{row_strict, row_below}
use Rattle.mirrored.proofs.Rows.{part_of, columns-step}

-- ---- the starts

pub starts-length : (n : ℕ) (es : List Entry) (a m : ℕ) → length (starts_from n es a m) ≡ m
unfolding starts_from
starts-length n es a zero = refl
starts-length n es a (suc m) = ap suc (starts-length n es (suc a) m)

starts-at : (n : ℕ) (es : List Entry) (a m i : ℕ) → i < m → get_or (starts_from n es a m) i 0 ≡ start_of n es (a + i)
unfolding starts_from
starts-at n es a zero i h = absurd (omega arith)
starts-at n es a (suc m) zero h = ap (start_of n es) (sym (add-zero a))
starts-at n es a (suc m) (suc i) h = starts-at n es (suc a) m i (omega arith) ∙ ap (start_of n es) (omega arith)

module _ (n : ℕ) (es : List Entry) where
  pub start-at : (i : ℕ) → i ≤ n → get_or (starts_of n es) i 0 ≡ start_of n es i
  start-at i h = starts-at n es 0 (suc n) i (omega arith) ∙ ap (start_of n es) (omega arith)

  start-next : (i : ℕ) → start_of n es (suc i) ≡ start_of n es i + length (row_of n es i)
  unfolding start_of columns_up_to
  start-next i = length-append (columns_up_to n es i) (row_of n es i)

  start-after : (i : ℕ) → i < n → get_or (starts_of n es) (i + 1) 0 ≡ start_of n es i + length (row_of n es i)
  start-after i h = start-at (i + 1) (omega arith) ∙ ap (start_of n es) (add-one i) ∙ start-next i

  start_first : start_of n es 0 ≡ 0
  unfolding start_of columns_up_to
  start_first = refl

  -- ---- the rows

  row-part : (i : ℕ) → i < n → take (length (row_of n es i)) (drop (start_of n es i) (columns_of n es)) ≡ row_of n es i
  unfolding start_of
  row-part i h =
      ap (λ (l : List ℕ). take (length (row_of n es i)) (drop (start_of n es i) l)) (sym (append-nil (columns_of n es)))
      ∙ part_of (row_of n es) (columns_up_to n es) (columns-step n es) n i [] h

  row-at : (i : ℕ) → i < n → row_at (starts_of n es) (columns_of n es) i ≡ row_of n es i
  row-at i h =
      let size : get_or (starts_of n es) (i + 1) 0 - get_or (starts_of n es) i 0 ≡ length (row_of n es i) = omega (arith, start-after i h, start-at i (omega arith)) in
      ap₂ (λ (m s : ℕ). take m (drop s (columns_of n es))) size (start-at i (omega arith)) ∙ row-part i h

  -- the k-th of row i
  row-place : (i k : ℕ) → i < n → k < length (row_of n es i) → get_or (columns_of n es) (start_of n es i + k) 0 ≡ get_or (row_of n es i) k 0
  row-place i k h q =
      sym (get_or-drop (start_of n es i) (columns_of n es) k 0)
      ∙ sym (get_or-take (length (row_of n es i)) (drop (start_of n es i) (columns_of n es)) k 0 q)
      ∙ ap (λ (l : List ℕ). get_or l k 0) (row-part i h)

  -- ---- 2 to 7

  start-most : (i k : ℕ) → start_of n es i ≤ start_of n es (i + k)
  start-most i zero = omega (arith, ap (start_of n es) (add-zero i))
  start-most i (suc k) = omega (arith, ap (start_of n es) (add-suc i k), start-most i k, start-next (i + k))

  columns-below : (i e : ℕ) → e < length (columns_up_to n es i) → get_or (columns_up_to n es i) e 0 < n
  unfolding columns_up_to
  columns-below zero e h = absurd (omega arith)
  columns-below (suc i) e h =
      split e (length (columns_up_to n es i))
      (λ q. omega (arith, get_or-append (columns_up_to n es i) (row_of n es i) 0 e q, columns-below i e q))
      (λ q. let m = e - length (columns_up_to n es i) in
      let same : length (columns_up_to n es i) + m ≡ e = omega arith in
      omega (
        arith,
        get_or-append-add (columns_up_to n es i) (row_of n es i) m 0,
        ap (λ (j : ℕ). get_or (columns_up_to n es i ++ row_of n es i) j 0) same,
        row_below n es i m (omega (arith, length-append (columns_up_to n es i) (row_of n es i))),
      ))

-- tests that find nothing
given-not : (b : Bool) (r p : ℕ) → b ≡ false → given b r p ≡ accepted
given-not b r p e = ap (λ (x : Bool). given x r p) e

or_pass : (v w : Verdict) → v ≡ accepted → w ≡ accepted → or_else v w ≡ accepted
unfolding or_else
or_pass v w p q = rw (p, q) refl

first-not : (f : ℕ → Bool) (a m r : ℕ) → ((i : ℕ) → a ≤ i → i < a + m → f i ≡ false) → given_first f a m r ≡ accepted
first-not f a m r h = given-not (ltb (first_from f a m) (a + m)) r (first_from f a m) (le-ltb (first_from f a m) (a + m) (omega (arith, all_first f a m h)))

one-finite : is_finite one ≡ true
unfolding of_bits lt
one-finite = refl

not_yes : (b : Bool) → b ≡ true → not b ≡ false
not_yes b e = ap not e

module _ (n : ℕ) (es : List Entry) (least : 1 ≤ n) (most : n ≤ rows_most) (few : placed_of n es ≤ entries_most) where
  size : length (starts_of n es) ≡ suc n
  size = starts-length n es 0 (suc n)

  last : get_or (starts_of n es) (length (starts_of n es) - 1) 0 ≡ length (columns_of n es)
  unfolding start_of
  last = ap (λ (i : ℕ). get_or (starts_of n es) i 0) (let e : length (starts_of n es) - 1 ≡ n = omega (arith, size) in e) ∙ start-at n es n (omega arith)

  rises : (i : ℕ) → 1 ≤ i → i < 1 + n → falls (starts_of n es) i ≡ false
  rises i p q =
      let j = i - 1 in
      let e : j + 1 ≡ i = omega arith in
      le-ltb (get_or (starts_of n es) i 0) (get_or (starts_of n es) (i - 1) 0) (omega (arith, start-at n es i (omega arith), start-at n es j (omega arith), start-most n es j 1, ap (start_of n es) e))

  pub graph-passes : test_graph ieee64 (starts_of n es) (columns_of n es) (values_of n es) ≡ accepted
  unfolding test_graph test_rows test_limits test_lengths test_starts test_columns test_values start_of
  graph-passes =
      or_pass _ _ (given-not (ltb (length (starts_of n es)) 2) 2 0 (le-ltb (length (starts_of n es)) 2 (omega (arith, size))))
      (or_pass _ _ (given-not _ 3 0 (neither (ltb rows_most (length (starts_of n es) - 1)) (ltb entries_most (length (columns_of n es))) (le-ltb rows_most (length (starts_of n es) - 1) (omega (arith, size))) (le-ltb entries_most (length (columns_of n es)) (omega arith))))
      (or_pass _ _ (given-not _ 4 0 (not_yes _ (eq-eqb _ _ (sym (length-replicate (placed_of n es) one)))))
      (or_pass _ _
      (or_pass _ _ (given-not _ 5 0 (not_yes _ (eq-eqb _ _ (start-at n es 0 (omega arith) ∙ start_first n es))))
      (or_pass _ _ (first-not (falls (starts_of n es)) 1 (length (starts_of n es) - 1) 5 (λ i p q. rises i p (omega (arith, size))))
      (given-not _ 5 (length (starts_of n es) - 1) (not_yes _ (eq-eqb _ _ last)))))
      (or_pass _ _ (first-not (λ e. leb (length (starts_of n es) - 1) (get_or (columns_of n es) e 0)) 0 (length (columns_of n es)) 6
      (λ e p q. lt-leb (length (starts_of n es) - 1) (get_or (columns_of n es) e 0) (omega (arith, size, columns-below n es n e (omega arith)))))
      (first-not (λ e. not (ieee64.finite (get_or (values_of n es) e ieee64.none))) 0 (length (values_of n es)) 7
      (λ e p q. not_yes _ (ap is_finite (get_or-replicate (placed_of n es) e one nan (omega (arith, length-replicate (placed_of n es) one))) ∙ one-finite)))))))

-- ---- symmetric

-- a place of what a list has
record Found (x : ℕ) (l : List ℕ) : Type 0 where
  at : ℕ
  inside : at < length l
  holds : get_or l at 0 ≡ x

find : (x : ℕ) (l : List ℕ) → 0 < count x l → Found x l
unfolding count
find x [] h = absurd (omega arith)
find x (y ∷ l) h =
    same_or x y
    (λ e. record { at = 0; inside = omega arith; holds = sym e })
    (λ e. let f = find x l (omega (arith, one_other x y e)) in record { at = suc f.at; inside = omega (arith, f.inside); holds = f.holds })

linked_other : (es : List Entry) (i j : ℕ) → linked es i j ≡ linked es j i
unfolding linked
linked_other es i j = or_comm (has es (suc i) (suc j)) (has es (suc j) (suc i))

module _ (n : ℕ) (es : List Entry) where
  row-linked : (i j : ℕ) → j < n → count j (row_of n es i) ≡ bit (linked es i j)
  unfolding row_of
  row-linked i j h = passing-inside (linked es i) 0 n j (omega arith) (omega arith)

  -- the row that a row's number names has that row
  row_back : (i k : ℕ) → i < n → k < length (row_of n es i) → Found i (row_of n es (get_or (row_of n es i) k 0))
  row_back i k h q =
      let j = get_or (row_of n es i) k 0 in
      find i (row_of n es j) (omega (arith, row-linked i j (row_below n es i k q), row-linked j i h, ap bit (linked_other es i j), count_at (row_of n es i) k q))

  value-at : (p : ℕ) → p < placed_of n es → get_or (values_of n es) p nan ≡ one
  value-at p h = get_or-replicate (placed_of n es) p one nan h

  start-low : (i : ℕ) → i < n → start_of n es i + length (row_of n es i) ≤ placed_of n es
  start-low i h = let e : suc i + (n - suc i) ≡ n = omega arith in omega (arith, start-next n es i, start-most n es (suc i) (n - suc i), ap (start_of n es) e)

  pub graph-mirrors : (i p : ℕ) → i < n → get_or (starts_of n es) i 0 ≤ p → p < get_or (starts_of n es) (i + 1) 0 → Mirror (starts_of n es) (columns_of n es) (values_of n es) i p
  graph-mirrors i p h u v =
      let s = start-at n es i (omega arith) in
      let t = start-after n es i h in
      let k = p - start_of n es i in
      let q : k < length (row_of n es i) = omega arith in
      let here : start_of n es i + k ≡ p = omega arith in
      let j = get_or (row_of n es i) k 0 in
      let column : get_or (columns_of n es) p 0 ≡ j = ap (λ (x : ℕ). get_or (columns_of n es) x 0) (sym here) ∙ row-place n es i k h q in
      let f = row_back i k h q in
      let below = row_below n es i k q in
      let low = start-at n es j (omega arith) in
      let high = start-after n es j below in
      record {
        at = start_of n es j + f.at;
        after = omega (arith, low, ap (λ (x : ℕ). get_or (starts_of n es) x 0) column);
        before = omega (arith, high, f.inside, ap (λ (x : ℕ). get_or (starts_of n es) (x + 1) 0) column);
        column = row-place n es j f.at below f.inside ∙ f.holds;
        value = value-at _ (omega (arith, start-low j below, f.inside)) ∙ sym (value-at p (omega (arith, start-low i h)));
      }

-- an accepted file's graph
pub graph_symmetric : (n : ℕ) (es : List Entry) → 1 ≤ n → n ≤ rows_most → placed_of n es ≤ entries_most → Symmetric n (starts_of n es) (columns_of n es) (values_of n es)
graph_symmetric n es least most few = record {
  passes = graph-passes n es least most few;
  once = λ i h. rw (row-at n es i h) (row_strict n es i);
  mirrors = λ i p h u v. graph-mirrors n es i p h u v;
}
