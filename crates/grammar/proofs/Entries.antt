-- Laws of entries: which are there, none twice, each in the triangle; and the reader's test of one. Assumes nothing.
use mathlib.Core.Path.{◌≡◌, refl, sym, ap, ap₂, ◌∙◌}
use mathlib.Core.Bool.{Bool, true, false, not, ◌&&◌, ◌||◌, false≢true}
use mathlib.Core.List.{List, [], ◌∷◌, ◌++◌}
use Prim.Native.Nat.{ℕ, ◌≤◌, ◌<◌}
use borrow.Author.Tests.{eq-eqb, ne_eqb, not-true}
use lib.Dec.{eqb}
use lib.ListN.{length}
use Rattle.definition.proofs.Fill.{same_or}
use Rattle.digits.proofs.Bytes.{both, both_of, neither}
use Rattle.market.specs.Market.{Entry, is, has, inside}
use Rattle.market.specs.Passes.{Within}
use Rattle.market.proofs.Right.{entry, inside_of, of_inside, has_append}
use Rattle.grammar.specs.Grammar.{NoRepeats}

-- ---- tests

pub or_neither : (a b : Bool) → (a || b) ≡ false → (a ≡ false) × (b ≡ false)
or_neither true b h = absurd (false≢true (sym h))
or_neither false b h = (refl, h)

-- ---- the same entry

eqb-sym : (a b : ℕ) → eqb a b ≡ eqb b a
eqb-sym a b = same_or a b (λ e. eq-eqb a b e ∙ sym (eq-eqb b a (sym e))) (λ h. ne_eqb a b h ∙ sym (ne_eqb b a (λ e. h (sym e))))

pub is-sym : (d e : Entry) → is d e.row e.column ≡ is e d.row d.column
is-sym d e = ap₂ ◌&&◌ (eqb-sym d.row e.row) (eqb-sym d.column e.column)

-- ---- where none repeats, each is none of those before it

pub none-at : (xs : List Entry) (e : Entry) (ys : List Entry) → NoRepeats (xs ++ (e ∷ ys)) → has xs e.row e.column ≡ false
unfolding has NoRepeats
none-at [] e ys q = refl
none-at (x ∷ xs) e ys q =
    let g = or_neither (has xs x.row x.column) (has (e ∷ ys) x.row x.column) (sym (has_append xs (e ∷ ys) x.row x.column) ∙ q.0) in
    let o = or_neither (is e x.row x.column) (has ys x.row x.column) g.1 in
    neither (is x e.row e.column) (has xs e.row e.column) (is-sym x e ∙ o.0) (none-at xs e ys q.1)

-- ---- in the triangle

abbrev pub In : ℕ → Entry → Type 0
In n e = (1 ≤ e.column) × (e.column ≤ e.row) × (e.row ≤ n)

pub within-at : (n : ℕ) (xs : List Entry) (e : Entry) (ys : List Entry) → Within n (xs ++ (e ∷ ys)) → In n e
unfolding Within
within-at n [] e ys w = (w.0, w.1, w.2)
within-at n (x ∷ xs) e ys w = within-at n xs e ys w.3

-- ---- the reader's test of an entry

abbrev pub takes : ℕ → ℕ → List Entry → ℕ → ℕ → Bool
takes n m seen r c = inside n m (length seen) r c && not (has seen r c)

pub record Taken (n m : ℕ) (seen : List Entry) (e : Entry) : Type 0 where
  pub room : length seen < m
  pub place : In n e
  pub new : has seen e.row e.column ≡ false

pub taken : (n m : ℕ) (seen : List Entry) (r c : ℕ) → takes n m seen r c ≡ true → Taken n m seen (entry r c)
taken n m seen r c h =
    let a = both_of (inside n m (length seen) r c) (not (has seen r c)) h in
    let i = inside_of n m (length seen) r c a.0 in
    record { room = i.more; place = (i.least, i.lower, i.most); new = not-true (has seen r c) a.1 }

pub take_it : (n m : ℕ) (seen : List Entry) (r c : ℕ) → Taken n m seen (entry r c) → takes n m seen r c ≡ true
take_it n m seen r c t =
    let p = t.place in
    both (inside n m (length seen) r c) (not (has seen r c))
    (of_inside n m (length seen) r c (record { more = t.room; least = p.0; lower = p.1; most = p.2 })) (ap not t.new)
