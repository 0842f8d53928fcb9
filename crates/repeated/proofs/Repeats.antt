-- Repeats with a block of entries taken out: `repeat_apart`. Line by line both `repeat_from` and `meet_from` go by whether a line is over the
-- limit and whether its entry is among those seen. Assumes nothing.
use mathlib.Core.Path.{◌≡◌, refl, sym, ap, ◌∙◌}
use mathlib.Core.Bool.{Bool, true, false, cond, ◌||◌}
use mathlib.Core.List.{List, [], ◌∷◌, ◌++◌, append_assoc, append-nil}
use Prim.Native.Nat.{ℕ, suc, ◌≤◌, ◌<◌}
use native.Mathlib.Omega.{arith}
use borrow.Author.Tests.{le-leb, lt-leb}
use lib.Dec.{leb}
use types.Run.{miss}
use Rattle.definition.proofs.Fill.{split}
use Rattle.lines.specs.declared.Kind.{Kind}
use Rattle.lines.specs.declared.Kind.TheVariants as K
use Rattle.market.specs.Market.{Entry}
use Rattle.market.specs.Passes.{repeat_from}
use Rattle.market.proofs.Bools.{decide}
use Rattle.market.proofs.Entries.{Other}
use Rattle.market.proofs.Passes.{repeat_over}
use Rattle.market.proofs.Right.{has_append}
use Rattle.repeated.specs.Blocks.{hits, adding, meet_from}

-- a line that is no entry
pub no_entry : (seen : List Entry) (x : Kind) → Other x → (hits seen x ≡ false) × (adding seen x ≡ seen)
unfolding hits adding
no_entry seen K.Blank h = (refl, refl)
no_entry seen K.Comment h = (refl, refl)
no_entry seen (K.Entry r c) h = absurd (miss (0 ∷ 1 ∷ 3 ∷ 4 ∷ []) 2 tt h)
no_entry seen (K.Size r c m) h = (refl, refl)
no_entry seen K.Other h = (refl, refl)

-- ---- one line

repeat_line_lem : (seen : List Entry) (k limit : ℕ) (x : Kind) (ks : List Kind)
    → repeat_from seen k limit (x ∷ ks) ≡ cond (leb limit k) limit (cond (hits seen x) k (repeat_from (adding seen x) (suc k) limit ks))
unfolding repeat_from hits adding
repeat_line_lem seen k limit K.Blank ks = refl
repeat_line_lem seen k limit K.Comment ks = refl
repeat_line_lem seen k limit (K.Entry r c) ks = refl
repeat_line_lem seen k limit (K.Size r c m) ks = refl
repeat_line_lem seen k limit K.Other ks = refl

pub repeat_end : (seen : List Entry) (k limit : ℕ) {l : List Kind} → l ≡ [] → repeat_from seen k limit l ≡ limit
unfolding repeat_from
repeat_end seen k limit e = ap (repeat_from seen k limit) e

module _ (seen : List Entry) (k limit : ℕ) {l : List Kind} (x : Kind) (ks : List Kind) (a : l ≡ x ∷ ks) {b : Bool} (g : b ≡ hits seen x) (h : k < limit) where
  pub repeat_hit : b ≡ true → repeat_from seen k limit l ≡ k
  repeat_hit e = ap (repeat_from seen k limit) a ∙ repeat_line_lem seen k limit x ks ∙ rw (lt-leb limit k h, sym g ∙ e)

  pub repeat_on : b ≡ false → repeat_from seen k limit l ≡ repeat_from (adding seen x) (suc k) limit ks
  repeat_on e = ap (repeat_from seen k limit) a ∙ repeat_line_lem seen k limit x ks ∙ rw (lt-leb limit k h, sym g ∙ e)

  pub meet_hit : b ≡ true → meet_from seen k limit l ≡ k
  unfolding meet_from
  meet_hit e = ap (meet_from seen k limit) a ∙ rw (lt-leb limit k h, sym g ∙ e)

  pub meet_on : b ≡ false → meet_from seen k limit l ≡ meet_from seen (suc k) limit ks
  unfolding meet_from
  meet_on e = ap (meet_from seen k limit) a ∙ rw (lt-leb limit k h, sym g ∙ e)

pub meet_over : (seen : List Entry) (k limit : ℕ) (ks : List Kind) → limit ≤ k → meet_from seen k limit ks ≡ limit
unfolding meet_from
meet_over seen k limit [] h = refl
meet_over seen k limit (x ∷ ks) h = rw (le-leb limit k h)

pub meet_end : (seen : List Entry) (k limit : ℕ) {l : List Kind} → l ≡ [] → meet_from seen k limit l ≡ limit
unfolding meet_from
meet_end seen k limit e = ap (meet_from seen k limit) e

-- ---- entries in two lists

hits_append : (xs ys : List Entry) (x : Kind) → hits (xs ++ ys) x ≡ (hits xs x || hits ys x)
unfolding hits
hits_append xs ys K.Blank = refl
hits_append xs ys K.Comment = refl
hits_append xs ys (K.Entry r c) = has_append xs ys r c
hits_append xs ys (K.Size r c m) = refl
hits_append xs ys K.Other = refl

adding_append : (xs ys : List Entry) (x : Kind) → adding (xs ++ ys) x ≡ xs ++ adding ys x
unfolding adding
adding_append xs ys K.Blank = refl
adding_append xs ys K.Comment = refl
adding_append xs ys (K.Entry r c) = append_assoc xs ys _
adding_append xs ys (K.Size r c m) = refl
adding_append xs ys K.Other = refl

-- ---- a block taken out

meet_least : (seen : List Entry) (k limit : ℕ) (ks : List Kind) → k ≤ limit → k ≤ meet_from seen k limit ks
unfolding meet_from
meet_least seen k limit [] h = h
meet_least seen k limit (x ∷ ks) h =
    split k limit
    (λ p. decide (hits seen x)
    (λ t. omega (arith, meet_hit seen k limit x ks refl refl p t))
    (λ f. omega (arith, meet_on seen k limit x ks refl refl p f, meet_least seen (suc k) limit ks (omega arith))))
    (λ q. omega (arith, meet_over seen k limit (x ∷ ks) q))

pub repeat_apart : (seen more : List Entry) (k limit : ℕ) (ks : List Kind)
    → repeat_from (seen ++ more) k limit ks ≡ repeat_from more k (meet_from seen k limit ks) ks
repeat_apart seen more k limit [] = repeat_end _ _ _ refl ∙ sym (repeat_end _ _ _ refl ∙ meet_end _ _ _ refl)
repeat_apart seen more k limit (x ∷ ks) =
    split k limit
    (λ p. decide (hits seen x)
    (λ t. repeat_hit (seen ++ more) k limit x ks refl refl p (hits_append seen more x ∙ rw t)
    ∙ sym (at (meet_hit seen k limit x ks refl refl p t) ∙ repeat_over more k k (x ∷ ks) (omega arith)))
    (λ f. let m = meet_from seen (suc k) limit ks in
    let l : k < m = meet_least seen (suc k) limit ks p in
    let e = meet_on seen k limit x ks refl refl p f in
    decide (hits more x)
    (λ t. repeat_hit (seen ++ more) k limit x ks refl refl p (hits_append seen more x ∙ rw (f, t))
    ∙ sym (at e ∙ repeat_hit more k m x ks refl refl l t))
    (λ g. repeat_on (seen ++ more) k limit x ks refl refl p (hits_append seen more x ∙ rw (f, g))
    ∙ ap (λ (s : List Entry). repeat_from s (suc k) limit ks) (adding_append seen more x)
    ∙ repeat_apart seen (adding more x) (suc k) limit ks
    ∙ sym (at e ∙ repeat_on more k m x ks refl refl l g))))
    (λ q. repeat_over (seen ++ more) k limit (x ∷ ks) q
    ∙ sym (at (meet_over seen k limit (x ∷ ks) q) ∙ repeat_over more k limit (x ∷ ks) q))
  where
    at : {m n : ℕ} → m ≡ n → repeat_from more k m (x ∷ ks) ≡ repeat_from more k n (x ∷ ks)
    at e = ap (λ (n : ℕ). repeat_from more k n (x ∷ ks)) e

-- once a block was met by all that stands behind it, nothing has to know it
pub repeat_behind : (seen : List Entry) (k limit : ℕ) (ks : List Kind) → repeat_from seen k limit ks ≡ repeat_from [] k (meet_from seen k limit ks) ks
repeat_behind seen k limit ks =
    ap (λ (s : List Entry). repeat_from s k limit ks) (sym (append-nil seen)) ∙ repeat_apart seen [] k limit ks
