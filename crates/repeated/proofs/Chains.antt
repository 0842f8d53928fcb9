-- The keys of a block: how one is stored, and that a chain leads to each key of its hash. Assumes nothing.
use mathlib.Core.Path.{◌≡◌, refl, sym, ap, ◌∙◌}
use mathlib.Core.Bool.{false, ◌||◌, or_assoc}
use mathlib.Core.List.{List, [], ◌∷◌, ◌++◌}
use Prim.Native.Nat.{ℕ, zero, suc, ◌+◌, ◌-◌, ◌≤◌, ◌<◌}
use native.Mathlib.Numerals.{add-one}
use native.Mathlib.Omega.{arith}
use borrow.Author.Tests.{ne_eqb}
use lib.Dec.{eqb}
use lib.ListN.{length, get_or, set, length-set, length-append, replicate, length-replicate}
use lib.Seq.{get_or-set_same, get_or-set_other}
use Rattle.std.proofs.lemmas.List.{get_or-replicate}
use Rattle.definition.proofs.Fill.{split, same_or}
use Rattle.digits.proofs.Bytes.{neither}
use Rattle.lines.specs.Lines.{holds}
use Rattle.repeated.specs.Tables.{places, hash_of, hash_at, stored, Last, Chained}

-- ---- the keys as a list

stored-before : (keys : List ℕ) (n m k : ℕ) → n < m → stored (set keys m k) n ≡ stored keys n
unfolding stored
stored-before keys zero m k h = refl
stored-before keys (suc n) m k h = rw (stored-before keys n m k (omega arith), get_or-set_other keys m (suc n) k 0 (λ e. omega arith))

pub stored_more : (keys : List ℕ) (n k : ℕ) → n + 1 < length keys → stored (set keys (n + 1) k) (n + 1) ≡ stored keys n ++ (k ∷ [])
unfolding stored
stored_more keys n k h =
    rw (add-one n, stored-before keys n (suc n) k (omega arith), get_or-set_same keys (suc n) k 0 (omega arith))

pub stored-none : (keys : List ℕ) → stored keys 0 ≡ []
unfolding stored
stored-none keys = refl

pub stored-length : (keys : List ℕ) (n : ℕ) → length (stored keys n) ≡ n
unfolding stored
stored-length keys zero = refl
stored-length keys (suc n) = omega (arith, length-append (stored keys n) (get_or keys (suc n) 0 ∷ []), stored-length keys n)

holds_append : (b : ℕ) (xs ys : List ℕ) → holds b (xs ++ ys) ≡ (holds b xs || holds b ys)
unfolding holds
holds_append b [] ys = refl
holds_append b (x ∷ xs) ys = rw (holds_append b xs ys) (sym (or_assoc (eqb x b) (holds b xs) (holds b ys)))

stored_lacks : (keys : List ℕ) (n k : ℕ) → ((j : ℕ) → 0 < j → j ≤ n → get_or keys j 0 ≡ k → ⊥) → holds k (stored keys n) ≡ false
unfolding stored holds
stored_lacks keys zero k h = refl
stored_lacks keys (suc n) k h =
    holds_append k (stored keys n) _
    ∙ neither _ _ (stored_lacks keys n k (λ j u v e. h j u (omega arith) e))
    (neither _ _ (ne_eqb (get_or keys (suc n) 0) k (λ e. h (suc n) (omega arith) (omega arith) e)) refl)

-- ---- the last place of a hash

last-same : {f g : ℕ → ℕ} {h h' n n' x x' : ℕ} → Last f h n x → ((j : ℕ) → j ≤ n → g j ≡ f j) → h' ≡ h → n' ≡ n → x' ≡ x → Last g h' n' x'
last-same {f} {g} {h} {h'} {n} {n'} {x} {x'} l a p q r = record {
  low = omega (arith, l.low);
  own = λ u. ap g r ∙ a x l.low ∙ l.own (omega arith) ∙ sym p;
  none = λ j u v e. l.none j (omega arith) (omega arith) (sym (a j (omega arith)) ∙ e ∙ p);
}

last_on : {f : ℕ → ℕ} {h n x : ℕ} → Last f h n x → (f (n + 1) ≡ h → ⊥) → Last f h (n + 1) x
last_on {f} {h} {n} l w = record {
  low = omega (arith, l.low);
  own = l.own;
  none = λ j u v e. split n j (λ p. let q : n + 1 ≡ j = omega arith in w (ap f q ∙ e)) (λ p. l.none j u p e);
}

last-here : (f : ℕ → ℕ) (h n x : ℕ) → f n ≡ h → x ≡ n → Last f h n x
last-here f h n x p q = record { low = omega arith; own = λ u. ap f q ∙ p; none = λ j u v e. omega arith }

-- ---- a table

-- no key
abbrev zeros : List ℕ
zeros = replicate places 0

pub table_none : Chained 0 zeros zeros zeros
table_none =
    let zero_at : (h : ℕ) → h < places → get_or zeros h 0 ≡ 0 = λ h p. get_or-replicate {A = ℕ} places h 0 0 p in
    record {
      keys_room = length-replicate {A = ℕ} places 0;
      links_room = length-replicate {A = ℕ} places 0;
      heads_room = length-replicate {A = ℕ} places 0;
      most = omega arith;
      nobody = zero_at 0 (omega arith);
      head = λ h p. record { low = omega (arith, zero_at h p); own = λ u. absurd (omega (arith, zero_at h p)); none = λ j u v e. omega arith };
      link = λ p u v. absurd (omega arith);
    }

module _ (key count h : ℕ) (keys links heads : List ℕ) (t : Chained count keys links heads) (p : count + 1 < places) (e : h ≡ hash_of key) (q : h < places) where
  before : (j : ℕ) → j ≤ count → hash_at (set keys (count + 1) key) j ≡ hash_at keys j
  unfolding hash_at
  before j l = rw (get_or-set_other keys (count + 1) j key 0 (λ u. omega arith))

  here : hash_at (set keys (count + 1) key) (count + 1) ≡ h
  unfolding hash_at
  here = rw (get_or-set_same keys (count + 1) key 0 (omega (arith, t.keys_room))) (sym e)

  table-head : (k : ℕ) → k < places → Last (hash_at (set keys (count + 1) key)) k (count + 1) (get_or (set heads h (count + 1)) k 0)
  table-head k l =
      same_or k h
      (λ u. last-here (hash_at (set keys (count + 1) key)) k (count + 1) _ (here ∙ sym u)
      (ap (λ (i : ℕ). get_or (set heads h (count + 1)) i 0) u ∙ get_or-set_same heads h (count + 1) 0 (omega (arith, t.heads_room))))
      (λ u. last_on (last-same (t.head k l) before refl refl (get_or-set_other heads h k (count + 1) 0 u)) (λ w. u (sym w ∙ here)))

  table-link : (i : ℕ) → 1 ≤ i → i ≤ count + 1
      → Last (hash_at (set keys (count + 1) key)) (hash_at (set keys (count + 1) key) i) (i - 1) (get_or (set links (count + 1) (get_or heads h 0)) i 0)
  table-link i l m =
      split count i
      (λ u. let w : i ≡ count + 1 = omega arith in
      last-same (t.head h q) before (ap (hash_at (set keys (count + 1) key)) w ∙ here) (omega arith)
      (ap (λ (j : ℕ). get_or (set links (count + 1) (get_or heads h 0)) j 0) w ∙ get_or-set_same links (count + 1) (get_or heads h 0) 0 (omega (arith, t.links_room))))
      (λ u. last-same (t.link i l u) (λ j v. before j (omega arith)) (before i u) refl (get_or-set_other links (count + 1) i (get_or heads h 0) 0 (λ w. omega arith)))

  pub table_more : Chained (count + 1) (set keys (count + 1) key) (set links (count + 1) (get_or heads h 0)) (set heads h (count + 1))
  table_more = record {
    keys_room = length-set keys (count + 1) key ∙ t.keys_room;
    links_room = length-set links (count + 1) (get_or heads h 0) ∙ t.links_room;
    heads_room = length-set heads h (count + 1) ∙ t.heads_room;
    most = p;
    nobody = get_or-set_other links (count + 1) 0 (get_or heads h 0) 0 (λ w. omega arith) ∙ t.nobody;
    head = table-head;
    link = table-link;
  }

-- ---- a look into a table: behind place i no key is this one

pub record Looking (key count : ℕ) (keys : List ℕ) (i : ℕ) : Type 0 where
  pub low : i ≤ count
  pub own : 1 ≤ i → hash_at keys i ≡ hash_of key
  pub none : (j : ℕ) → i < j → j ≤ count → get_or keys j 0 ≡ key → ⊥

module _ (key count : ℕ) (keys links heads : List ℕ) (t : Chained count keys links heads) where
  hash_same : (j : ℕ) → get_or keys j 0 ≡ key → hash_at keys j ≡ hash_of key
  unfolding hash_at
  hash_same j p = rw p

  pub look-start : (h : ℕ) → h ≡ hash_of key → h < places → Looking key count keys (get_or heads h 0)
  look-start h e p =
      let l = t.head h p in
      record { low = l.low; own = λ u. l.own u ∙ e; none = λ j u v x. l.none j u v (hash_same j x ∙ sym e) }

  -- a chain's next place; from place 0 it leads nowhere else
  pub look-on : (i : ℕ) → Looking key count keys i → (get_or keys i 0 ≡ key → ⊥) → Looking key count keys (get_or links i 0)
  look-on zero s w = rw t.nobody s
  look-on (suc i) s w =
      let l = t.link (suc i) (omega arith) s.low in
      let k = s.own (omega arith) in
      record {
        low = omega (arith, l.low, s.low);
        own = λ u. l.own u ∙ k;
        none = λ j u v x.
            split (suc i) j
            (λ m. s.none j m v x)
            (λ m. same_or j (suc i) (λ n. w (ap (λ (z : ℕ). get_or keys z 0) (sym n) ∙ x)) (λ n. l.none j u (omega arith) (hash_same j x ∙ sym k)));
      }

  -- and each is before the one that leads to it
  pub look-falls : (i : ℕ) → Looking key count keys i → (get_or links i 0 ≡ 0 → ⊥) → get_or links i 0 < i
  look-falls zero s w = absurd (w t.nobody)
  look-falls (suc i) s w = omega (arith, (t.link (suc i) (omega arith) s.low).low)

  pub look_none : (i : ℕ) → Looking key count keys i → i ≡ 0 → holds key (stored keys count) ≡ false
  look_none i s e = stored_lacks keys count key (λ j u v x. s.none j (omega arith) v x)
