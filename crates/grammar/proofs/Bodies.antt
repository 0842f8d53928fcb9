-- Laws of the lines behind the size line. Assumes nothing.
use mathlib.Core.Path.{◌≡◌, sym, ap, ◌∙◌, subst}
use mathlib.Core.Bool.{Bool, true, false, cond}
use mathlib.Core.List.{List, [], ◌∷◌, ◌++◌, append_assoc, append-nil}
use Prim.Native.Nat.{ℕ, suc, ◌+◌, ◌≤◌, ◌<◌}
use native.Mathlib.Omega.{arith}
use borrow.Author.Tests.{eqb-true, eq-eqb}
use lib.Dec.{eqb}
use lib.ListN.{length, length-append}
use Rattle.lines.specs.declared.Kind.{Kind}
use Rattle.lines.specs.declared.Kind.TheVariants as K
use Rattle.market.specs.Market.{Entry, Read, market, fault, body}
use Rattle.market.specs.Passes.{entries_in, Within}
use Rattle.market.proofs.Bools.{decide}
use Rattle.market.proofs.Right.{Distinct, entry, fault-market, body-right, fresh_distinct}
use Rattle.grammar.specs.Grammar.{InBody, Each, NoRepeats}
use Rattle.grammar.proofs.Entries.{takes, Taken, take_it, none-at, within-at}

pub same-fault : {i j : ℕ} → fault i ≡ fault j → i ≡ j
same-fault h = cc

-- market's word for it
none_distinct : (es : List Entry) → Distinct es → NoRepeats es
unfolding Distinct NoRepeats
none_distinct [] d = tt
none_distinct (e ∷ es) d = (d.0, none_distinct es d.1)

module _ (n m : ℕ) where
  -- ---- one line

  pub at_end : (seen : List Entry) (k : ℕ) → length seen ≡ m → body n m seen k [] ≡ market n seen
  unfolding body
  at_end seen k e = ap (λ (t : Bool). cond t (market n seen) (fault k)) (eq-eqb (length seen) m e)

  short : (seen : List Entry) (k : ℕ) → eqb (length seen) m ≡ false → body n m seen k [] ≡ fault k
  unfolding body
  short seen k e = ap (λ (t : Bool). cond t (market n seen) (fault k)) e

  module _ (seen : List Entry) (k r c : ℕ) (ks : List Kind) where
    abbrev onwards : Read
    onwards = body n m (seen ++ (entry r c ∷ [])) (suc k) ks

    pub goes_on_lem : takes n m seen r c ≡ true → body n m seen k (K.Entry r c ∷ ks) ≡ onwards
    unfolding body
    goes_on_lem e = ap (λ (t : Bool). cond t onwards (fault k)) e

    pub stops : takes n m seen r c ≡ false → body n m seen k (K.Entry r c ∷ ks) ≡ fault k
    unfolding body
    stops e = ap (λ (t : Bool). cond t onwards (fault k)) e

  -- ---- what is read is right

  -- each line is one that may stand there
  body-lines : (seen : List Entry) (k : ℕ) (ks : List Kind) {rows : ℕ} {es : List Entry} → body n m seen k ks ≡ market rows es → Each InBody ks
  unfolding body Each InBody
  body-lines seen k [] h = tt
  body-lines seen k (K.Blank ∷ ks) h = (tt, body-lines seen (suc k) ks h)
  body-lines seen k (K.Comment ∷ ks) h = absurd (fault-market h)
  body-lines seen k (K.Entry r c ∷ ks) h =
      decide (takes n m seen r c)
      (λ e. (tt, body-lines (seen ++ (entry r c ∷ [])) (suc k) ks (sym (goes_on_lem seen k r c ks e) ∙ h)))
      (λ e. absurd (fault-market (sym (stops seen k r c ks e) ∙ h)))
  body-lines seen k (K.Size r c s ∷ ks) h = absurd (fault-market h)
  body-lines seen k (K.Other ∷ ks) h = absurd (fault-market h)

  pub record BodyIs (ks : List Kind) (rows : ℕ) (es : List Entry) : Type 0 where
    pub rows_are : rows ≡ n
    pub in_body : Each InBody ks
    pub entries : entries_in ks ≡ es
    pub count : length es ≡ m
    pub within : Within n es
    pub no_repeats : NoRepeats es

  pub body-sound : (k : ℕ) (ks : List Kind) {rows : ℕ} {es : List Entry} → body n m [] k ks ≡ market rows es → BodyIs ks rows es
  body-sound k ks {rows} {es} h =
      let r = body-right rows es n m [] k ks h in
      let e : market rows es ≡ market n (entries_in ks) = r.is_read in
      let same : entries_in ks ≡ es = cc in
      record {
        rows_are = (cc);
        in_body = body-lines [] k ks h;
        entries = same;
        count = ap length (sym same) ∙ r.count;
        within = subst (Within n) same r.within;
        no_repeats = subst NoRepeats same (none_distinct (entries_in ks) (fresh_distinct [] (entries_in ks) r.fresh));
      }

  -- ---- what is right is read

  pub body_complete : (seen : List Entry) (k : ℕ) (ks : List Kind) → Each InBody ks → length (seen ++ entries_in ks) ≡ m
      → Within n (seen ++ entries_in ks) → NoRepeats (seen ++ entries_in ks) → body n m seen k ks ≡ market n (seen ++ entries_in ks)
  unfolding body entries_in Each InBody
  body_complete seen k [] b l w q =
      at_end seen k (ap length (sym (append-nil seen)) ∙ l) ∙ ap (λ (es : List Entry). market n es) (sym (append-nil seen))
  body_complete seen k (K.Blank ∷ ks) b l w q = body_complete seen (suc k) ks b.1 l w q
  body_complete seen k (K.Comment ∷ ks) b l w q = absurd b.0
  body_complete seen k (K.Entry r c ∷ ks) b l w q =
      let a = append_assoc seen (entry r c ∷ []) (entries_in ks) in
      let t : Taken n m seen (entry r c) = record {
        room = omega (arith, length-append seen (entry r c ∷ entries_in ks));
        place = within-at n seen (entry r c) (entries_in ks) w;
        new = none-at seen (entry r c) (entries_in ks) q;
      } in
      goes_on_lem seen k r c ks (take_it n m seen r c t)
      ∙ body_complete (seen ++ (entry r c ∷ [])) (suc k) ks b.1 (ap length a ∙ l) (subst (Within n) (sym a) w) (subst NoRepeats (sym a) q)
      ∙ ap (λ (es : List Entry). market n es) a
  body_complete seen k (K.Size r c s ∷ ks) b l w q = absurd b.0
  body_complete seen k (K.Other ∷ ks) b l w q = absurd b.0

  -- ---- a fault

  -- it is one of the lines, or the one behind the last
  pub body_bounds : (seen : List Entry) (k : ℕ) (ks : List Kind) {j : ℕ} → body n m seen k ks ≡ fault j → (k ≤ j) × (j ≤ k + length ks)
  unfolding body
  body_bounds seen k [] h =
      decide (eqb (length seen) m) (λ e. absurd (fault-market (sym h ∙ at_end seen k (eqb-true (length seen) m e))))
      (λ e. let s = same-fault (sym (short seen k e) ∙ h) in (omega arith, omega arith))
  body_bounds seen k (K.Blank ∷ ks) h = let i = body_bounds seen (suc k) ks h in (omega arith, omega arith)
  body_bounds seen k (K.Comment ∷ ks) h = let s = same-fault h in (omega arith, omega arith)
  body_bounds seen k (K.Entry r c ∷ ks) h =
      decide (takes n m seen r c)
      (λ e. let i = body_bounds (seen ++ (entry r c ∷ [])) (suc k) ks (sym (goes_on_lem seen k r c ks e) ∙ h) in (omega arith, omega arith))
      (λ e. let s = same-fault (sym (stops seen k r c ks e) ∙ h) in (omega arith, omega arith))
  body_bounds seen k (K.Size r c s ∷ ks) h = let s = same-fault h in (omega arith, omega arith)
  body_bounds seen k (K.Other ∷ ks) h = let s = same-fault h in (omega arith, omega arith)

  -- and what stands behind it is not looked at
  pub body_local : (seen : List Entry) (k : ℕ) (fs bs cs : List Kind) {j : ℕ} → body n m seen k (fs ++ bs) ≡ fault j → j < k + length fs
      → body n m seen k (fs ++ cs) ≡ fault j
  unfolding body
  body_local seen k [] bs cs h l = absurd (omega (arith, (body_bounds seen k bs h).0))
  body_local seen k (K.Blank ∷ fs) bs cs h l = body_local seen (suc k) fs bs cs h (omega arith)
  body_local seen k (K.Comment ∷ fs) bs cs h l = h
  body_local seen k (K.Entry r c ∷ fs) bs cs h l =
      decide (takes n m seen r c)
      (λ e.
      goes_on_lem seen k r c (fs ++ cs) e
      ∙ body_local (seen ++ (entry r c ∷ [])) (suc k) fs bs cs (sym (goes_on_lem seen k r c (fs ++ bs) e) ∙ h) (omega arith))
      (λ e. stops seen k r c (fs ++ cs) e ∙ sym (stops seen k r c (fs ++ bs) e) ∙ h)
  body_local seen k (K.Size r c s ∷ fs) bs cs h l = h
  body_local seen k (K.Other ∷ fs) bs cs h l = h
