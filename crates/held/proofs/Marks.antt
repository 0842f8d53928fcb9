-- Laws of the marks: how many are set, one set, all cleared, and marks that only the run has changed. Assumes nothing.
use mathlib.Core.Path.{◌≡◌, refl, sym, ap, ◌∙◌}
use mathlib.Core.List.{List}
use mathlib.Core.Bool.{Bool, true, false}
use Prim.Native.Nat.{ℕ, zero, suc, ◌+◌, ◌≤◌, ◌<◌}
use native.Mathlib.Omega.{arith}
use borrow.Author.Tests.{eq-eqb, eqb-false}
use lib.Dec.{eqb}
use lib.Seq.{ext_get_or, get_or-set_same, get_or-set_other}
use lib.ListN.{length, get_or, set, length-set}
use Rattle.definition.specs.Memory.{fill_range}
use Rattle.definition.proofs.Fill.{split, fill_in, fill_high, fill_length}
use Rattle.held.specs.Marks.{done, bit, count, cleared}
pub use Rattle.held.specs.Marks.{Marked}

pub count_ext : (d e : ℕ → Bool) (n : ℕ) → ((h : ℕ) → h < n → d h ≡ e h) → count d n ≡ count e n
unfolding count
count_ext d e zero q = refl
count_ext d e (suc k) q =
    ap (λ (b : Bool). bit b + count d k) (q k (omega arith)) ∙ ap (λ (c : ℕ). bit (e k) + c) (count_ext d e k (λ h l. q h (omega arith)))

pub count_none : (d : ℕ → Bool) (n : ℕ) → ((h : ℕ) → h < n → d h ≡ false) → count d n ≡ 0
unfolding count
count_none d zero q = refl
count_none d (suc k) q =
    let e : bit (d k) ≡ 0 = ap (λ (b : Bool). bit b) (q k (omega arith)) in
    omega (arith, e, count_none d k (λ h l. q h (omega arith)))

pub count-all : (d : ℕ → Bool) (n : ℕ) → ((h : ℕ) → h < n → d h ≡ true) → count d n ≡ n
unfolding count
count-all d zero q = refl
count-all d (suc k) q =
    let e : bit (d k) ≡ 1 = ap (λ (b : Bool). bit b) (q k (omega arith)) in
    omega (arith, e, count-all d k (λ h l. q h (omega arith)))

pub count_add : (d e : ℕ → Bool) (h n : ℕ) → h < n → d h ≡ false → e h ≡ true
    → ((k : ℕ) → k < n → (k ≡ h → ⊥) → e k ≡ d k) → suc (count d n) ≡ count e n
unfolding count
count_add d e h zero l p q r = absurd (omega arith)
count_add d e h (suc k) l p q r =
    split h k
    (λ s. let i : bit (e k) ≡ bit (d k) = ap (λ (b : Bool). bit b) (r k (omega arith) (λ z. omega arith)) in
    omega (arith, i, count_add d e h k s p q (λ j t u. r j (omega arith) u)))
    (λ s. let z : h ≡ k = omega arith in
    let i : bit (e k) ≡ 1 = ap (λ (b : Bool). bit b) (ap e (sym z) ∙ q) in
    let j : bit (d k) ≡ 0 = ap (λ (b : Bool). bit b) (ap d (sym z) ∙ p) in
    omega (arith, i, j, count_ext d e k (λ t u. sym (r t (omega arith) (λ w. omega arith)))))

-- ---- a mark set, and all cleared

pub done-set : (marks : List ℕ) (h : ℕ) → h < length marks → done (set marks h 1) h ≡ true
unfolding done
done-set marks h l = eq-eqb (get_or (set marks h 1) h 0) 1 (get_or-set_same marks h 1 0 l)

pub done_other : (marks : List ℕ) (h k : ℕ) → (k ≡ h → ⊥) → done (set marks h 1) k ≡ done marks k
unfolding done
done_other marks h k ne = ap (λ (x : ℕ). eqb x 1) (get_or-set_other marks h k 1 0 ne)

pub mark-cleared : (n : ℕ) (marks : List ℕ) (h : ℕ) → n ≤ length marks → h < n → get_or (cleared n marks) h 0 ≡ 0
unfolding cleared
mark-cleared n marks h p q = fill_in 0 n (λ k. 0) marks h 0 (omega arith) q (omega arith)

pub done-cleared : (n : ℕ) (marks : List ℕ) (h : ℕ) → n ≤ length marks → h < n → done (cleared n marks) h ≡ false
unfolding done
done-cleared n marks h p q = ap (λ (x : ℕ). eqb x 1) (mark-cleared n marks h p q)

-- ---- marks that only the run has changed since all were clear: `from`

pub marked_clear : (n : ℕ) (start marks : List ℕ) → n ≤ length start → length marks ≡ length start
    → ((i : ℕ) → n ≤ i → get_or marks i 0 ≡ get_or start i 0) → Marked n start (cleared n marks)
unfolding cleared
marked_clear n start marks l e r = record {
  long = l;
  same = fill_length 0 n (λ h. 0) marks ∙ e;
  bits = λ h q. omega (arith, mark-cleared n marks h (omega arith) q);
  rest = λ i q. fill_high 0 n (λ h. 0) marks i 0 q ∙ r i q;
}

pub marked-set : (n : ℕ) (start marks : List ℕ) (h : ℕ) → h < n → Marked n start marks → Marked n start (set marks h 1)
marked-set n start marks h l K = record {
  long = K.long;
  same = length-set marks h 1 ∙ K.same;
  bits = λ k q. split k h
      (λ s. omega (arith, get_or-set_other marks h k 1 0 (λ z. omega arith), K.bits k q))
      (λ s. split h k
      (λ t. omega (arith, get_or-set_other marks h k 1 0 (λ z. omega arith), K.bits k q))
      (λ t. let z : k ≡ h = omega arith in
      let e : get_or (set marks h 1) k 0 ≡ 1 = ap (λ (j : ℕ). get_or (set marks h 1) j 0) z ∙ get_or-set_same marks h 1 0 (omega arith) in omega arith));
  rest = λ i q. get_or-set_other marks h i 1 0 (λ z. omega arith) ∙ K.rest i q;
}

-- none is marked: the marks are those of the opening
pub marked-none : (n : ℕ) (start marks : List ℕ) → Marked n start marks → ((h : ℕ) → h < n → done marks h ≡ false) → marks ≡ cleared n start
unfolding cleared done
marked-none n start marks K q =
    ext_get_or 0 marks (fill_range 0 n (λ h. 0) start) (K.same ∙ sym (fill_length 0 n (λ h. 0) start))
    (λ i l. split i n
    (λ s. let z : get_or marks i 0 ≡ 0 = split (get_or marks i 0) 1 (λ t. omega arith)
    (λ t. absurd (eqb-false (get_or marks i 0) 1 (q i s) (omega (arith, K.bits i s)))) in
    z ∙ sym (fill_in 0 n (λ h. 0) start i 0 (omega arith) s (omega arith)))
    (λ s. K.rest i s ∙ sym (fill_high 0 n (λ h. 0) start i 0 s)))
