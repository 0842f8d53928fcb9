-- Where entries rise strictly none repeats. Assumes nothing.
use mathlib.Core.Path.{◌≡◌, refl, sym, ap, ◌∙◌, subst}
use mathlib.Core.Bool.{Bool, true, false, cond, false≢true}
use mathlib.Core.List.{List, [], ◌∷◌, ◌++◌}
use mathlib.Core.Logic.{◌⊎◌, inl, inr, ⊎_elim}
use Prim.Native.Nat.{ℕ, suc, ◌≤◌, ◌<◌}
use native.Mathlib.Omega.{arith}
use borrow.Author.Tests.{ltb-true, lt-leb, eq-eqb, ne_eqb}
use lib.Dec.{leb, ltb}
use Rattle.definition.proofs.Fill.{same_or}
use Rattle.digits.proofs.Bytes.{either_of, settle}
use Rattle.lines.specs.declared.Kind.{Kind}
use Rattle.lines.specs.declared.Kind.TheVariants as K
use Rattle.market.specs.Market.{Entry, is, has}
use Rattle.market.specs.Passes.{repeat_from}
use Rattle.market.proofs.Passes.{repeat_over}
use Rattle.market.proofs.Right.{entry, is_same, has_append}
use Rattle.scanning.specs.Inner.{is_before}

-- ---- strict orders of pairs

pub record Strict (less : ℕ → ℕ → ℕ → ℕ → Type 0) : Type 0 where
  pub not_itself : (a b : ℕ) → less a b a b → ⊥
  pub onward : (a b c d e f : ℕ) → less a b c d → less c d e f → less a b e f

-- by the first number, then by the second
abbrev pub Before : ℕ → ℕ → ℕ → ℕ → Type 0
Before a b c d = (a < c) ⊎ ((a ≡ c) × (b < d))

pub before_same : (a b c d : ℕ) → a ≡ c → ltb b d ≡ is_before a b c d
unfolding is_before
before_same a b c d e = ap (λ (t : Bool). cond t (ltb b d) (ltb a c)) (sym (eq-eqb a c e))

pub before_other : (a b c d : ℕ) → (a ≡ c → ⊥) → ltb a c ≡ is_before a b c d
unfolding is_before
before_other a b c d n = ap (λ (t : Bool). cond t (ltb b d) (ltb a c)) (sym (ne_eqb a c n))

pub before-true : (a b c d : ℕ) → is_before a b c d ≡ true → Before a b c d
before-true a b c d h =
    same_or a c
    (λ e. inr (e, ltb-true b d (before_same a b c d e ∙ h)))
    (λ n. inl (ltb-true a c (before_other a b c d n ∙ h)))

-- by the second, then by the first
abbrev pub Swapped : ℕ → ℕ → ℕ → ℕ → Type 0
Swapped a b c d = Before b a d c

pub by_rows : Strict Before
by_rows = record {
  not_itself = λ a b h. ⊎_elim (λ p. absurd (omega arith)) (λ p. absurd (omega arith)) h;
  onward = λ a b c d e f g h.
      ⊎_elim
      (λ p. ⊎_elim (λ q. inl (omega arith)) (λ q. inl (omega arith)) h)
      (λ p. ⊎_elim (λ q. inl (omega arith)) (λ q. inr (omega arith, omega arith)) h) g;
}

pub by-columns : Strict Swapped
by-columns = record {
  not_itself = λ a b. by_rows.not_itself b a;
  onward = λ a b c d e f. by_rows.onward b a d c f e;
}

-- ---- the entries seen

-- one more at the end
has_more : (seen : List Entry) (e : Entry) (r c : ℕ) → has (seen ++ (e ∷ [])) r c ≡ true → (has seen r c ≡ true) ⊎ (is e r c ≡ true)
unfolding has
has_more seen e r c h =
    ⊎_elim inl (λ q. ⊎_elim inr (λ z. absurd (false≢true z)) (either_of (is e r c) false q))
    (either_of (has seen r c) (has (e ∷ []) r c) (sym (has_append seen (e ∷ []) r c) ∙ h))

-- every one seen is at most the last one, of row r and column c
pub AtMost : (ℕ → ℕ → ℕ → ℕ → Type 0) → List Entry → ℕ → ℕ → Type 0
AtMost less seen r c = (a b : ℕ) → has seen a b ≡ true → less r c a b → ⊥

module _ (less : ℕ → ℕ → ℕ → ℕ → Type 0) (strict : Strict less) (seen : List Entry) (r c a b : ℕ) (most : AtMost less seen r c) (next : less r c a b) where
  fresh : has seen a b ≡ false
  unfolding AtMost
  fresh = settle (has seen a b) (λ e. most a b e next)

  most-more : AtMost less (seen ++ (entry a b ∷ [])) a b
  unfolding AtMost
  most-more i j h l =
      ⊎_elim
      (λ p. most i j p (strict.onward r c a b i j next l))
      (λ p. let same = is_same (entry a b) i j p in
      strict.not_itself a b (subst (λ (y : ℕ). less a b a y) (sym same.1) (subst (λ (x : ℕ). less a b x j) (sym same.0) l)))
      (has_more seen (entry a b) i j h)

-- ---- the lines

before_limit : (k limit x : ℕ) → k < limit → cond (leb limit k) limit x ≡ x
before_limit k limit x h = ap (λ (t : Bool). cond t limit x) (lt-leb limit k h)

repeat_blank : (seen : List Entry) (k limit : ℕ) (ks : List Kind) → k < limit → repeat_from seen k limit (K.Blank ∷ ks) ≡ repeat_from seen (suc k) limit ks
unfolding repeat_from
repeat_blank seen k limit ks h = before_limit k limit _ h

repeat_entry : (seen : List Entry) (k limit r c : ℕ) (ks : List Kind) → k < limit → has seen r c ≡ false
    → repeat_from seen k limit (K.Entry r c ∷ ks) ≡ repeat_from (seen ++ (entry r c ∷ [])) (suc k) limit ks
unfolding repeat_from
repeat_entry seen k limit r c ks h f =
    before_limit k limit _ h ∙ ap (λ (t : Bool). cond t k (repeat_from (seen ++ (entry r c ∷ [])) (suc k) limit ks)) f

-- ---- a pass

-- of the lines from `first` on those before line k hold entries that rise up to the last one, of row r and column c
pub record Rising (less : ℕ → ℕ → ℕ → ℕ → Type 0) (kinds : List Kind) (first k r c : ℕ) (rest : List Kind) : Type 0 where
  pub seen : List Entry
  pub same : (limit : ℕ) → k ≤ limit → repeat_from [] first limit kinds ≡ repeat_from seen k limit rest
  pub most : AtMost less seen r c

pub rising-start : (less : ℕ → ℕ → ℕ → ℕ → Type 0) (kinds : List Kind) (first : ℕ) → Rising less kinds first first 0 0 kinds
unfolding AtMost has
rising-start less kinds first = record { seen = []; same = λ limit h. refl; most = λ a b e. absurd (false≢true e) }

module _ (less : ℕ → ℕ → ℕ → ℕ → Type 0) (kinds : List Kind) (first k r c : ℕ) (rest : List Kind) (rising : Rising less kinds first k r c rest) where
  pub rising_limit : repeat_from [] first k kinds ≡ k
  rising_limit = rising.same k (omega arith) ∙ repeat_over rising.seen k k rest (omega arith)

  pub rising_blank : (ks : List Kind) → rest ≡ K.Blank ∷ ks → Rising less kinds first (suc k) r c ks
  rising_blank ks e = record {
    seen = rising.seen;
    same = λ limit h. rising.same limit (omega arith) ∙ ap (repeat_from rising.seen k limit) e ∙ repeat_blank rising.seen k limit ks h;
    most = rising.most;
  }

  pub rising_entry : Strict less → (a b : ℕ) (ks : List Kind) → rest ≡ K.Entry a b ∷ ks → less r c a b → Rising less kinds first (suc k) a b ks
  rising_entry strict a b ks e l = record {
    seen = rising.seen ++ (entry a b ∷ []);
    same = λ limit h.
        rising.same limit (omega arith) ∙ ap (repeat_from rising.seen k limit) e
        ∙ repeat_entry rising.seen k limit a b ks h (fresh less strict rising.seen r c a b rising.most l);
    most = most-more less strict rising.seen r c a b rising.most l;
  }
