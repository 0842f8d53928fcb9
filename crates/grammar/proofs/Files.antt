-- Laws of a whole file's lines: what is read is right, what is right is read, and which lines a fault looks at. Assumes nothing.
use mathlib.Core.Path.{◌≡◌, refl, sym, ap, ap₂, ◌∙◌, subst}
use mathlib.Core.Bool.{Bool, true, false, cond}
use mathlib.Core.List.{List, [], ◌∷◌, ◌++◌}
use Prim.Native.Nat.{ℕ, suc, ◌+◌, ◌*◌, ◌≤◌, ◌<◌}
use native.Mathlib.Omega.{arith}
use lib.ListN.{length}
use Rattle.lines.specs.Kinds.{kinds_of}
use Rattle.lines.specs.Banner.{is_banner}
use Rattle.lines.specs.declared.Kind.{Kind}
use Rattle.lines.specs.declared.Kind.TheVariants as K
use Rattle.market.specs.Market.{Entry, Read, market, fault, body, Head, sized, wrong, right_size, head_from, head_of, on_head}
use Rattle.market.specs.Passes.{entries_in, Within}
use Rattle.market.proofs.Bools.{decide}
use Rattle.market.proofs.Right.{fault-market}
use Rattle.grammar.specs.Grammar.{NoRepeats, IsMarket}
use Rattle.grammar.proofs.Bodies.{same-fault, body-sound, body_complete, body_bounds, body_local}
use Rattle.grammar.proofs.Heads.{kinds_append, kinds_length, size_goes, size_stops, head-sound, head_complete}

-- what the lines from line k on, behind the banner, are read as; and all lines
abbrev pub read_from : ℕ → List Kind → Read
read_from k ks = on_head (head_from k ks)

abbrev pub read_lines : List (List ℕ) → Read
read_lines ls = on_head (head_of ls)

module _ (l : List ℕ) (ls : List (List ℕ)) where
  pub banner_goes : is_banner l ≡ true → read_lines (l ∷ ls) ≡ read_from 2 (kinds_of ls)
  unfolding head_of
  banner_goes e = ap (λ (t : Bool). on_head (cond t (head_from 2 (kinds_of ls)) (wrong 1))) e

  pub banner_stops : is_banner l ≡ false → read_lines (l ∷ ls) ≡ fault 1
  unfolding head_of
  banner_stops e = ap (λ (t : Bool). on_head (cond t (head_from 2 (kinds_of ls)) (wrong 1))) e

pub no_lines : read_lines [] ≡ fault 1
unfolding head_of
no_lines = refl

module _ (k r c m : ℕ) (ks : List Kind) where
  pub sized_goes : right_size r c m ≡ true → read_from k (K.Size r c m ∷ ks) ≡ body r m [] (suc k) ks
  sized_goes e = ap on_head (size_goes k r c m ks e)

  pub sized_stops : right_size r c m ≡ false → read_from k (K.Size r c m ∷ ks) ≡ fault k
  sized_stops e = ap on_head (size_stops k r c m ks e)

-- ---- what is read is right

-- a read head, with the body behind it
head-cases : {P : Type 0} (h : Head) {n : ℕ} {es : List Entry} → on_head h ≡ market n es
    → ((r m k : ℕ) (ks : List Kind) → h ≡ sized r m k ks → body r m [] k ks ≡ market n es → P) → P
head-cases (sized r m k ks) e f = f r m k ks refl e
head-cases (wrong k) e f = absurd (fault-market e)

pub lines-sound : (ls : List (List ℕ)) {n : ℕ} {es : List Entry} → read_lines ls ≡ market n es → IsMarket ls n es
lines-sound [] h = absurd (fault-market (sym no_lines ∙ h))
lines-sound (l ∷ ls) {n} {es} h =
    decide (is_banner l)
    (λ t.
    head-cases (head_from 2 (kinds_of ls)) (sym (banner_goes l ls t) ∙ h)
    (λ r m k ks e g.
    let a = head-sound 2 ls e in
    let b = body-sound r m k ks g in
    let p = b.rows_are in
    let q = b.count in
    record {
      banner = l;
      head = a.head;
      size = a.size;
      body = a.body;
      lines = ap (λ (xs : List (List ℕ)). l ∷ xs) a.lines;
      is-banner = t;
      in_head = a.in_head;
      is-size = a.is-size ∙ ap₂ (λ (i j : ℕ). K.Size i i j) (sym p) (sym q);
      not_too_many = subst (λ (i : ℕ). 2 * length es ≤ i * (i + 1)) (sym p) (subst (λ (j : ℕ). 2 * j ≤ r * (r + 1)) (sym q) a.not_too_many);
      in_body = rw a.rest-is b.in_body;
      entries = ap entries_in a.rest-is ∙ b.entries;
      within = subst (λ (i : ℕ). Within i es) (sym p) b.within;
      no_repeats = b.no_repeats;
    }))
    (λ f. absurd (fault-market (sym (banner_stops l ls f) ∙ h)))

-- ---- what is right is read

pub lines_complete : {ls : List (List ℕ)} {n : ℕ} {es : List Entry} → IsMarket ls n es → read_lines ls ≡ market n es
unfolding kinds_of
lines_complete {ls} {n} {es} f =
    let m = length es in
    let e = f.entries in
    let hs = kinds_of f.head in
    let bs = kinds_of f.body in
    ap read_lines f.lines ∙ banner_goes f.banner (f.head ++ (f.size ∷ f.body)) f.is-banner
    ∙ ap (read_from 2) (kinds_append f.head (f.size ∷ f.body))
    ∙ ap (λ (x : Kind). read_from 2 (hs ++ (x ∷ bs))) f.is-size
    ∙ ap on_head (head_complete 2 hs n m bs f.in_head f.not_too_many)
    ∙ body_complete n m [] (suc (2 + length hs)) bs f.in_body (ap length e) (subst (Within n) (sym e) f.within) (subst NoRepeats (sym e) f.no_repeats)
    ∙ ap (λ (xs : List Entry). market n xs) e

-- ---- a fault

from_bounds : (k : ℕ) (ks : List Kind) {j : ℕ} → read_from k ks ≡ fault j → (k ≤ j) × (j ≤ k + length ks)
unfolding head_from
from_bounds k [] h = let s = same-fault h in (omega arith, omega arith)
from_bounds k (K.Blank ∷ ks) h = let i = from_bounds (suc k) ks h in (omega arith, omega arith)
from_bounds k (K.Comment ∷ ks) h = let i = from_bounds (suc k) ks h in (omega arith, omega arith)
from_bounds k (K.Entry r c ∷ ks) h = let s = same-fault h in (omega arith, omega arith)
from_bounds k (K.Size r c m ∷ ks) h =
    decide (right_size r c m) (λ e. let i = body_bounds r m [] (suc k) ks (sym (sized_goes k r c m ks e) ∙ h) in (omega arith, omega arith))
    (λ e. let s = same-fault (sym (sized_stops k r c m ks e) ∙ h) in (omega arith, omega arith))
from_bounds k (K.Other ∷ ks) h = let s = same-fault h in (omega arith, omega arith)

from_local : (k : ℕ) (fs bs cs : List Kind) {j : ℕ} → read_from k (fs ++ bs) ≡ fault j → j < k + length fs → read_from k (fs ++ cs) ≡ fault j
unfolding head_from
from_local k [] bs cs h l = absurd (omega (arith, (from_bounds k bs h).0))
from_local k (K.Blank ∷ fs) bs cs h l = from_local (suc k) fs bs cs h (omega arith)
from_local k (K.Comment ∷ fs) bs cs h l = from_local (suc k) fs bs cs h (omega arith)
from_local k (K.Entry r c ∷ fs) bs cs h l = h
from_local k (K.Size r c m ∷ fs) bs cs h l =
    decide (right_size r c m)
    (λ e.
    sized_goes k r c m (fs ++ cs) e
    ∙ body_local r m [] (suc k) fs bs cs (sym (sized_goes k r c m (fs ++ bs) e) ∙ h) (omega arith))
    (λ e. sized_stops k r c m (fs ++ cs) e ∙ sym (sized_stops k r c m (fs ++ bs) e) ∙ h)
from_local k (K.Other ∷ fs) bs cs h l = h

-- it is one of the lines, or the one behind the last
pub lines_bounds : (ls : List (List ℕ)) {j : ℕ} → read_lines ls ≡ fault j → (1 ≤ j) × (j ≤ length ls + 1)
lines_bounds [] h = let s = same-fault (sym no_lines ∙ h) in (omega arith, omega arith)
lines_bounds (l ∷ ls) h =
    decide (is_banner l)
    (λ e. let i = from_bounds 2 (kinds_of ls) (sym (banner_goes l ls e) ∙ h) in (omega arith, omega (arith, kinds_length ls)))
    (λ e. let s = same-fault (sym (banner_stops l ls e) ∙ h) in (omega arith, omega arith))

-- and what stands behind it is not looked at
pub lines_local : (fs bs cs : List (List ℕ)) {j : ℕ} → read_lines (fs ++ bs) ≡ fault j → j ≤ length fs → read_lines (fs ++ cs) ≡ fault j
lines_local [] bs cs h l = absurd (omega (arith, (lines_bounds bs h).0))
lines_local (x ∷ fs) bs cs h l =
    decide (is_banner x)
    (λ e.
    banner_goes x (fs ++ cs) e ∙ ap (read_from 2) (kinds_append fs cs)
    ∙ from_local 2 (kinds_of fs) (kinds_of bs) (kinds_of cs)
    (sym (banner_goes x (fs ++ bs) e ∙ ap (read_from 2) (kinds_append fs bs)) ∙ h) (omega (arith, kinds_length fs)))
    (λ e. banner_stops x (fs ++ cs) e ∙ sym (banner_stops x (fs ++ bs) e) ∙ h)
