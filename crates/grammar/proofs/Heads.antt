-- Laws of the lines up to the size line. Assumes nothing.
use mathlib.Core.Path.{◌≡◌, refl, sym, ap, ◌∙◌, subst}
use mathlib.Core.Bool.{Bool, true, false, cond}
use mathlib.Core.List.{List, [], ◌∷◌, ◌++◌}
use Prim.Native.Nat.{ℕ, suc, ◌+◌, ◌*◌, ◌≤◌}
use native.Mathlib.Omega.{arith}
use borrow.Author.Tests.{eqb-true, leb-true, eq-eqb, le-leb}
use lib.Dec.{eqb, leb}
use lib.ListN.{length}
use Rattle.digits.proofs.Bytes.{both, both_of}
use Rattle.lines.specs.Kinds.{kind_of, kinds_of}
use Rattle.lines.specs.declared.Kind.{Kind}
use Rattle.lines.specs.declared.Kind.TheVariants as K
use Rattle.market.specs.Market.{sized, wrong, right_size, head_from}
use Rattle.market.proofs.Bools.{decide}
use Rattle.grammar.specs.Grammar.{InHead, Each}

-- ---- kinds of lines one behind the other

pub kinds_append : (xs ys : List (List ℕ)) → kinds_of (xs ++ ys) ≡ kinds_of xs ++ kinds_of ys
unfolding kinds_of
kinds_append [] ys = refl
kinds_append (x ∷ xs) ys = ap (λ (ks : List Kind). kind_of x ∷ ks) (kinds_append xs ys)

pub kinds_length : (xs : List (List ℕ)) → length (kinds_of xs) ≡ length xs
unfolding kinds_of
kinds_length [] = refl
kinds_length (x ∷ xs) = ap suc (kinds_length xs)

-- ---- the size line

pub wrong-sized : {k n m j : ℕ} {ks : List Kind} → wrong k ≡ sized n m j ks → ⊥
wrong-sized h = let z : ◌≡◌ {A = ℕ} 0 1 = cc in omega arith

pub right-size : (r c m : ℕ) → right_size r c m ≡ true → (r ≡ c) × (2 * m ≤ r * (r + 1))
unfolding right_size
right-size r c m h =
    let a = both_of (eqb r c) (leb (2 * m) (r * (r + 1))) h in
    (eqb-true r c a.0, leb-true (2 * m) (r * (r + 1)) a.1)

pub size-right : (n m : ℕ) → 2 * m ≤ n * (n + 1) → right_size n n m ≡ true
unfolding right_size
size-right n m h = both (eqb n n) (leb (2 * m) (n * (n + 1))) (eq-eqb n n refl) (le-leb (2 * m) (n * (n + 1)) h)

module _ (k r c m : ℕ) (ks : List Kind) where
  pub size_goes : right_size r c m ≡ true → head_from k (K.Size r c m ∷ ks) ≡ sized r m (suc k) ks
  unfolding head_from
  size_goes e = ap (λ (t : Bool). cond t (sized r m (suc k) ks) (wrong k)) e

  pub size_stops : right_size r c m ≡ false → head_from k (K.Size r c m ∷ ks) ≡ wrong k
  unfolding head_from
  size_stops e = ap (λ (t : Bool). cond t (sized r m (suc k) ks) (wrong k)) e

-- ---- what is read is right

pub record HeadIs (ls : List (List ℕ)) (n m : ℕ) (rest : List Kind) : Type 0 where
  pub head : List (List ℕ)
  pub size : List ℕ
  pub body : List (List ℕ)
  pub lines : ls ≡ head ++ (size ∷ body)
  pub in_head : Each InHead (kinds_of head)
  pub is-size : kind_of size ≡ K.Size n n m
  pub not_too_many : 2 * m ≤ n * (n + 1)
  pub rest-is : kinds_of body ≡ rest

-- one line more before it
more-head : (l : List ℕ) {ls : List (List ℕ)} {n m : ℕ} {rest : List Kind} → InHead (kind_of l) → HeadIs ls n m rest → HeadIs (l ∷ ls) n m rest
unfolding kinds_of Each
more-head l p h = record {
  head = l ∷ h.head;
  size = h.size;
  body = h.body;
  lines = ap (λ (ls : List (List ℕ)). l ∷ ls) h.lines;
  in_head = (p, h.in_head);
  is-size = h.is-size;
  not_too_many = h.not_too_many;
  rest-is = h.rest-is;
}

pub head-sound : (k : ℕ) (ls : List (List ℕ)) {n m j : ℕ} {rest : List Kind} → head_from k (kinds_of ls) ≡ sized n m j rest → HeadIs ls n m rest
unfolding head_from kinds_of InHead Each
head-sound k [] h = absurd (wrong-sized h)
head-sound k (l ∷ ls) {n} {m} {j} {rest} h = go (λ g. head-sound (suc k) ls g) (kind_of l) refl h
  where
    go : (head_from (suc k) (kinds_of ls) ≡ sized n m j rest → HeadIs ls n m rest) → (x : Kind) → kind_of l ≡ x → head_from k (x ∷ kinds_of ls) ≡ sized n m j rest → HeadIs (l ∷ ls) n m rest
    go i K.Blank e h = more-head l (subst InHead (sym e) tt) (i h)
    go i K.Comment e h = more-head l (subst InHead (sym e) tt) (i h)
    go i (K.Entry r c) e h = absurd (wrong-sized h)
    go i (K.Size r c s) e h =
        decide (right_size r c s)
        (λ t.
        let a = right-size r c s t in
        let g : sized r s (suc k) (kinds_of ls) ≡ sized n m j rest = sym (size_goes k r c s (kinds_of ls) t) ∙ h in
        let p : r ≡ n = cc in
        let q : s ≡ m = cc in
        let b : kinds_of ls ≡ rest = cc in
        let o : c ≡ n = sym a.0 ∙ p in
        record {
          head = [];
          size = l;
          body = ls;
          lines = refl;
          in_head = tt;
          is-size = (cc);
          not_too_many = subst (λ (x : ℕ). 2 * m ≤ x * (x + 1)) p (subst (λ (x : ℕ). 2 * x ≤ r * (r + 1)) q a.1);
          rest-is = b;
        })
        (λ t. absurd (wrong-sized (sym (size_stops k r c s (kinds_of ls) t) ∙ h)))
    go i K.Other e h = absurd (wrong-sized h)

-- ---- what is right is read

pub head_complete : (k : ℕ) (hs : List Kind) (n m : ℕ) (rest : List Kind) → Each InHead hs → 2 * m ≤ n * (n + 1)
    → head_from k (hs ++ (K.Size n n m ∷ rest)) ≡ sized n m (suc (k + length hs)) rest
unfolding head_from InHead Each
head_complete k [] n m rest e f =
    size_goes k n n m rest (size-right n m f) ∙ ap (λ (i : ℕ). sized n m (suc i) rest) (let z : k ≡ k + 0 = omega arith in z)
head_complete k (K.Blank ∷ hs) n m rest e f =
    head_complete (suc k) hs n m rest e.1 f
    ∙ ap (λ (i : ℕ). sized n m (suc i) rest) (let z : suc k + length hs ≡ k + suc (length hs) = omega arith in z)
head_complete k (K.Comment ∷ hs) n m rest e f =
    head_complete (suc k) hs n m rest e.1 f
    ∙ ap (λ (i : ℕ). sized n m (suc i) rest) (let z : suc k + length hs ≡ k + suc (length hs) = omega arith in z)
head_complete k (K.Entry r c ∷ hs) n m rest e f = absurd e.0
head_complete k (K.Size r c s ∷ hs) n m rest e f = absurd e.0
head_complete k (K.Other ∷ hs) n m rest e f = absurd e.0
