-- What a right body has: its entries are in the triangle, and none repeats. Assumes nothing.
use mathlib.Core.Bool.{Bool, true, false, cond, not, ◌&&◌, ◌||◌, or_assoc, false≢true}
use mathlib.Core.Logic.{⊎_elim}
use mathlib.Core.List.{List, [], ◌∷◌, ◌++◌, append-nil, append_assoc}
use mathlib.Core.Path.{◌≡◌, refl, sym, ap, ◌∙◌}
use Prim.Native.Nat.{ℕ, suc, ◌≤◌, ◌<◌}
use native.Mathlib.Omega.{arith}
use borrow.Author.Tests.{eqb-true, leb-true, ltb-true, eq-eqb, le-leb, lt-ltb, not-true}
use lib.Dec.{eqb, leb, ltb}
use lib.ListN.{length}
use Rattle.digits.proofs.Bytes.{both, both_of, either_of, left_or, right_or, neither, settle}
use Rattle.lines.specs.declared.Kind.{Kind}
use Rattle.lines.specs.declared.Kind.TheVariants as K
use Rattle.market.specs.Market.{Entry, is, has, Read, market, fault, inside, body}
use Rattle.market.specs.Passes.{entries_in, Within}

abbrev pub entry : ℕ → ℕ → Entry
entry r c = record { row = r; column = c }

-- none of es is among those seen, or stands in es before
unfoldable pub Fresh : List Entry → List Entry → Type 0
Fresh seen [] = Unit
Fresh seen (e ∷ es) = (has seen e.row e.column ≡ false) × Fresh (seen ++ (e ∷ [])) es

-- no entry stands in es again
unfoldable pub Distinct : List Entry → Type 0
Distinct [] = Unit
Distinct (e ∷ es) = (has es e.row e.column ≡ false) × Distinct es

pub record Right (n m : ℕ) (seen : List Entry) (ks : List Kind) (r : Read) : Type 0 where
  pub is_read : r ≡ market n (seen ++ entries_in ks)
  pub within : Within n (entries_in ks)
  pub fresh : Fresh seen (entries_in ks)
  pub count : length (seen ++ entries_in ks) ≡ m

-- what `inside` says
pub record Inside (n m count r c : ℕ) : Type 0 where
  pub more : count < m
  pub least : 1 ≤ c
  pub lower : c ≤ r
  pub most : r ≤ n

pub inside_of : (n m count r c : ℕ) → inside n m count r c ≡ true → Inside n m count r c
unfolding inside
inside_of n m count r c h =
    let a = both_of (ltb count m) _ h in
    let b = both_of (leb 1 c) _ a.1 in
    let d = both_of (leb c r) _ b.1 in
    record { more = ltb-true _ _ a.0; least = leb-true _ _ b.0; lower = leb-true _ _ d.0; most = leb-true _ _ d.1 }

pub of_inside : (n m count r c : ℕ) → Inside n m count r c → inside n m count r c ≡ true
unfolding inside
of_inside n m count r c i =
    both (ltb count m) _ (lt-ltb count m i.more)
    (both (leb 1 c) _ (le-leb 1 c i.least) (both (leb c r) _ (le-leb c r i.lower) (le-leb r n i.most)))

-- a file is no fault
pub fault-market : {k n : ℕ} {es : List Entry} → fault k ≡ market n es → ⊥
fault-market h = let z : ◌≡◌ {A = ℕ} 0 1 = cc in omega arith

module _ (n' : ℕ) (es' : List Entry) where
  at_end : (n m : ℕ) (seen : List Entry) (k : ℕ) (b : Bool) → eqb (length seen) m ≡ b → cond b (market n seen) (fault k) ≡ market n' es' → Right n m seen [] (market n' es')
  unfolding entries_in Within Fresh
  at_end n m seen k true e h = record { is_read = sym h ∙ ap (market n) (sym (append-nil seen)); within = tt; fresh = tt; count = rw append-nil (eqb-true _ _ e) }
  at_end n m seen k false e h = absurd (fault-market h)

  at_entry : (n m : ℕ) (seen : List Entry) (k r c : ℕ) (ks : List Kind) (rest : Read) (b : Bool)
      → (inside n m (length seen) r c && not (has seen r c)) ≡ b
      → (rest ≡ market n' es' → Right n m (seen ++ (record { row = r; column = c } ∷ [])) ks (market n' es'))
      → cond b rest (fault k) ≡ market n' es'
      → Right n m seen (K.Entry r c ∷ ks) (market n' es')
  unfolding entries_in Within Fresh
  at_entry n m seen k r c ks rest true e f h =
      let x : Entry = record { row = r; column = c } in
      let g = f h in
      let both = both_of (inside n m (length seen) r c) (not (has seen r c)) e in
      let i = inside_of n m (length seen) r c both.0 in
      record {
        is_read = g.is_read ∙ ap (market n) (append_assoc seen (x ∷ []) (entries_in ks));
        within = (i.least, i.lower, i.most, g.within);
        fresh = (not-true _ both.1, g.fresh);
        count = rw (← append_assoc seen (x ∷ []) (entries_in ks)) g.count;
      }
  at_entry n m seen k r c ks rest false e f h = absurd (fault-market h)

  pub body-right : (n m : ℕ) (seen : List Entry) (k : ℕ) (ks : List Kind) → body n m seen k ks ≡ market n' es' → Right n m seen ks (market n' es')
  unfolding body entries_in
  body-right n m seen k [] h = at_end n m seen k (eqb (length seen) m) refl h
  body-right n m seen k (K.Blank ∷ ks) h =
      let g = body-right n m seen (suc k) ks h in record { is_read = g.is_read; within = g.within; fresh = g.fresh; count = g.count }
  body-right n m seen k (K.Comment ∷ ks) h = absurd (fault-market h)
  body-right n m seen k (K.Entry r c ∷ ks) h =
      at_entry n m seen k r c ks (body n m (seen ++ (record { row = r; column = c } ∷ [])) (suc k) ks) (inside n m (length seen) r c && not (has seen r c)) refl
      (λ q. body-right n m (seen ++ (record { row = r; column = c } ∷ [])) (suc k) ks q) h
  body-right n m seen k (K.Size r c e ∷ ks) h = absurd (fault-market h)
  body-right n m seen k (K.Other ∷ ks) h = absurd (fault-market h)

-- ---- is

pub is-yes : (e : Entry) (r c : ℕ) → e.row ≡ r → e.column ≡ c → is e r c ≡ true
is-yes e r c p q = rw (eq-eqb e.row r p, eq-eqb e.column c q) refl

pub is_same : (e : Entry) (r c : ℕ) → is e r c ≡ true → (e.row ≡ r) × (e.column ≡ c)
is_same e r c h = let s = both_of (eqb e.row r) (eqb e.column c) h in (eqb-true _ _ s.0, eqb-true _ _ s.1)

pub is-no : (e : Entry) (r c : ℕ) → (e.row ≡ r → e.column ≡ c → ⊥) → is e r c ≡ false
is-no e r c h = settle (is e r c) (λ q. let s = is_same e r c q in h s.0 s.1)

-- ---- has

pub has_append : (xs ys : List Entry) (r c : ℕ) → has (xs ++ ys) r c ≡ (has xs r c || has ys r c)
unfolding has
has_append [] ys r c = refl
has_append (x ∷ xs) ys r c = rw (has_append xs ys r c) (sym (or_assoc (is x r c) (has xs r c) (has ys r c)))

pub has_first : (e : Entry) (es : List Entry) → has (e ∷ es) e.row e.column ≡ true
unfolding has
has_first e es = left_or _ (has es e.row e.column) (is-yes e e.row e.column refl refl)

-- what is among those seen is not among the fresh
pub fresh_not : (seen es : List Entry) (r c : ℕ) → Fresh seen es → has seen r c ≡ true → has es r c ≡ false
unfolding Fresh has
fresh_not seen [] r c f h = refl
fresh_not seen (e ∷ es) r c f h =
    neither _ _ (is-no e r c (λ p q. false≢true (sym f.0 ∙ rw (p, q) h)))
    (fresh_not (seen ++ (e ∷ [])) es r c f.1 (has_append seen (e ∷ []) r c ∙ left_or _ _ h))

pub fresh_distinct : (seen es : List Entry) → Fresh seen es → Distinct es
unfolding Fresh Distinct
fresh_distinct seen [] f = tt
fresh_distinct seen (e ∷ es) f = (
  fresh_not (seen ++ (e ∷ [])) es e.row e.column f.1 (has_append seen (e ∷ []) e.row e.column ∙ right_or (has seen e.row e.column) _ (has_first e [])),
  fresh_distinct (seen ++ (e ∷ [])) es f.1,
)

-- an entry of the lower triangle stands where its row and column say
pub within_has : (n : ℕ) (es : List Entry) (r c : ℕ) → Within n es → has es r c ≡ true → (1 ≤ c) × (c ≤ r) × (r ≤ n)
unfolding Within has
within_has n [] r c w h = absurd (false≢true h)
within_has n (e ∷ es) r c w h =
    ⊎_elim (λ q. let s = is_same e r c q in omega (arith, s.0, s.1, w.0, w.1, w.2)) (λ q. within_has n es r c w.3 q)
    (either_of (is e r c) (has es r c) h)
