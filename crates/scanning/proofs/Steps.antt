-- Behind the size line: what each line does to a scan. Assumes nothing.
use mathlib.Core.Path.{◌≡◌, refl, sym, ap, ◌∙◌, subst}
use mathlib.Core.Bool.{Bool, true, false, cond, ◌&&◌}
use mathlib.Core.List.{List, [], ◌∷◌}
use mathlib.Core.Logic.{⊎_elim}
use Prim.Native.Nat.{ℕ, suc, ◌+◌, ◌≤◌}
use native.Mathlib.Numerals.{add-one}
use native.Mathlib.Omega.{arith}
use types.Run.{OneOf}
use lib.Dec.{eqb}
use lib.ListN.{length}
use Rattle.definition.proofs.Fill.{same_or}
use Rattle.digits.proofs.Bytes.{both_of, either_of}
use Rattle.lines.proofs.Ends.{kinds_end}
use Rattle.lines.specs.Kinds.{kinds_at}
use Rattle.lines.specs.Read.{ReadsLine}
use Rattle.lines.specs.declared.Kind.{Kind}
use Rattle.lines.specs.declared.Kind.TheVariants as K
use Rattle.lines.specs.declared.LineRead.{LineRead}
use Rattle.market.specs.Market.{inside}
use Rattle.market.specs.Passes.{stop, scan_from, repeat_from, doubles_with}
use Rattle.market.proofs.Passes.{doubles-same, doubles_other}
use Rattle.scanning.specs.Said.{Place, Scans}
use Rattle.scanning.specs.Inner.{is_before, WithEntry, Stopped}
use Rattle.scanning.specs.declared.Passed.{Passed}
use Rattle.scanning.specs.declared.Scanned.{Scanned}
use Rattle.scanning.proofs.Heads.{variant}
use Rattle.scanning.proofs.Rising.{Strict, Before, Swapped, before-true, by_rows, by-columns, Rising, rising-start, rising_limit, rising_blank, rising_entry}

-- ---- one line

scan_blank : (n m e d k : ℕ) (ks : List Kind) → scan_from n m e d k (K.Blank ∷ ks) ≡ scan_from n m e d (suc k) ks
unfolding scan_from
scan_blank n m e d k ks = refl

-- a comment, a size line or what no line may say
scan_off : (n m e d k : ℕ) (kind : Kind) (ks : List Kind) → OneOf (1 ∷ 3 ∷ 4 ∷ []) (variant kind) → scan_from n m e d k (kind ∷ ks) ≡ stop false k e d
unfolding scan_from
scan_off n m e d k K.Blank ks t = ⊎_elim (λ p. absurd (omega arith)) (⊎_elim (λ p. absurd (omega arith)) (λ p. absurd (omega arith))) t
scan_off n m e d k K.Comment ks t = refl
scan_off n m e d k (K.Entry r c) ks t = ⊎_elim (λ p. absurd (omega arith)) (⊎_elim (λ p. absurd (omega arith)) (λ p. absurd (omega arith))) t
scan_off n m e d k (K.Size r c s) ks t = refl
scan_off n m e d k K.Other ks t = refl

scan_entry : (n m e d k r c : ℕ) (ks : List Kind) (b : Bool) → b ≡ inside n m e r c
    → scan_from n m e d k (K.Entry r c ∷ ks) ≡ cond b (scan_from n m (suc e) (doubles_with d r c) (suc k) ks) (stop false k e d)
unfolding scan_from
scan_entry n m e d k r c ks b h = ap (λ (t : Bool). cond t (scan_from n m (suc e) (doubles_with d r c) (suc k) ks) (stop false k e d)) (sym h)

scan_end : (n m e d k : ℕ) → scan_from n m e d k [] ≡ stop (eqb e m) k e d
unfolding scan_from
scan_end n m e d k = refl

doubles-most : (d e r c : ℕ) → d ≤ e → doubles_with d r c ≤ suc e
doubles-most d e r c h = same_or r c (λ p. omega (arith, doubles-same d r c p)) (λ p. omega (arith, doubles_other d r c p))

-- ---- the loop

-- line k begins at `at`, and of those before it the entries are told
pub record Scanning (text : List ℕ) (from first n m at k : ℕ) (passed : Passed) : Type 0 where
  pub told : scan_from n m 0 0 first (kinds_at text from) ≡ scan_from n m passed.entries passed.doubles k (kinds_at text at)
  pub within : at ≤ length text
  pub low : k ≤ at
  pub few : passed.entries ≤ at
  pub doubled : passed.doubles ≤ passed.entries
  pub rows : passed.by_rows ≡ true → Rising Before (kinds_at text from) first k passed.row passed.column (kinds_at text at)
  pub columns : passed.by_columns ≡ true → Rising Swapped (kinds_at text from) first k passed.row passed.column (kinds_at text at)

-- nothing passed yet
abbrev pub no_entries : Passed
no_entries = record { entries = 0; doubles = 0; row = 0; column = 0; by_rows = true; by_columns = true }

pub scan_start : (text : List ℕ) (from first n m : ℕ) → Place text from first → Scanning text from first n m from first no_entries
scan_start text from first n m p = record {
  told = refl;
  within = p.within;
  low = p.line;
  few = omega arith;
  doubled = omega arith;
  rows = λ h. rising-start Before (kinds_at text from) first;
  columns = λ h. rising-start Swapped (kinds_at text from) first;
}

-- a stop here
stopped_here : (text : List ℕ) (from first n m at k : ℕ) (passed : Passed) (s : Scanning text from first n m at k passed) (b : Bool) (r : Scanned)
    → scan_from n m passed.entries passed.doubles k (kinds_at text at) ≡ stop b k passed.entries passed.doubles
    → Stopped passed b k r → Scans text from first n m r
stopped_here text from first n m at k passed s b r here t = record {
  is = sym (s.told ∙ here ∙ (cc));
  rising = λ h. subst (λ (l : ℕ). repeat_from [] first l (kinds_at text from) ≡ l) (sym t.line)
      (⊎_elim
      (λ p. rising_limit Before (kinds_at text from) first k passed.row passed.column (kinds_at text at) (s.rows p))
      (λ p. rising_limit Swapped (kinds_at text from) first k passed.row passed.column (kinds_at text at) (s.columns p))
      (either_of passed.by_rows passed.by_columns (sym t.rising ∙ h)));
  few = omega (arith, s.few, s.within, t.entries);
  doubled = omega (arith, s.doubled, t.entries, t.doubles);
}

module _ (text : List ℕ) (from first n m at k : ℕ) (passed : Passed) (s : Scanning text from first n m at k passed) where
  pub scan_ends : length text ≤ at → (r : Scanned) → Stopped passed (eqb passed.entries m) k r → Scans text from first n m r
  scan_ends h r t =
      stopped_here text from first n m at k passed s (eqb passed.entries m) r
      (ap (scan_from n m passed.entries passed.doubles k) (kinds_end text at h) ∙ scan_end n m passed.entries passed.doubles k) t

  module _ (l : LineRead) (reads : ReadsLine text at l) where
    pub scan_stops : OneOf (1 ∷ 3 ∷ 4 ∷ []) (variant l.kind) → (r : Scanned) → Stopped passed false k r → Scans text from first n m r
    scan_stops o r t =
        stopped_here text from first n m at k passed s false r
        (ap (scan_from n m passed.entries passed.doubles k) reads.lines
        ∙ scan_off n m passed.entries passed.doubles k l.kind (kinds_at text l.next) o) t

    pub scan_skips : l.kind ≡ K.Blank → Scanning text from first n m l.next (k + 1) passed
    scan_skips e =
        subst (λ (j : ℕ). Scanning text from first n m l.next j passed) (sym (add-one k)) record {
          told = s.told ∙ ap (scan_from n m passed.entries passed.doubles k) blank ∙ scan_blank n m passed.entries passed.doubles k (kinds_at text l.next);
          within = reads.within;
          low = omega (arith, s.low, reads.on);
          few = omega (arith, s.few, reads.on);
          doubled = s.doubled;
          rows = λ h. rising_blank Before (kinds_at text from) first k passed.row passed.column (kinds_at text at) (s.rows h) (kinds_at text l.next) blank;
          columns = λ h. rising_blank Swapped (kinds_at text from) first k passed.row passed.column (kinds_at text at) (s.columns h) (kinds_at text l.next) blank;
        }
      where
        blank : kinds_at text at ≡ K.Blank ∷ kinds_at text l.next
        blank = reads.lines ∙ ap (λ (kind : Kind). kind ∷ kinds_at text l.next) e

    module _ (a b : ℕ) (is-entry : l.kind ≡ K.Entry a b) where
      line-is : kinds_at text at ≡ K.Entry a b ∷ kinds_at text l.next
      line-is = reads.lines ∙ ap (λ (kind : Kind). kind ∷ kinds_at text l.next) is-entry

      entry_told : (t : Bool) → t ≡ inside n m passed.entries a b
          → scan_from n m passed.entries passed.doubles k (kinds_at text at)
          ≡ cond t (scan_from n m (suc passed.entries) (doubles_with passed.doubles a b) (suc k) (kinds_at text l.next)) (stop false k passed.entries passed.doubles)
      entry_told t e =
          ap (scan_from n m passed.entries passed.doubles k) line-is
          ∙ scan_entry n m passed.entries passed.doubles k a b (kinds_at text l.next) t e

      pub scan_refuses : false ≡ inside n m passed.entries a b → (r : Scanned) → Stopped passed false k r → Scans text from first n m r
      scan_refuses e r t = stopped_here text from first n m at k passed s false r (entry_told false e) t

      -- the same for both orders
      rises : (less : ℕ → ℕ → ℕ → ℕ → Type 0) → Strict less → (flag step : Bool) (row column : ℕ)
          → (flag ≡ true → Rising less (kinds_at text from) first k passed.row passed.column (kinds_at text at))
          → (step ≡ true → less passed.row passed.column a b) → row ≡ a → column ≡ b
          → (flag && step) ≡ true → Rising less (kinds_at text from) first (suc k) row column (kinds_at text l.next)
      rises less strict flag step row column old new p q h =
          subst (λ (x : ℕ). Rising less (kinds_at text from) first (suc k) x column (kinds_at text l.next)) (sym p)
          (subst (λ (y : ℕ). Rising less (kinds_at text from) first (suc k) a y (kinds_at text l.next)) (sym q)
          (rising_entry less (kinds_at text from) first k passed.row passed.column (kinds_at text at) (old (both_of flag step h).0) strict a b (kinds_at text l.next) line-is
          (new (both_of flag step h).1)))

      pub scan_counts : true ≡ inside n m passed.entries a b → (q : Passed) → WithEntry passed a b q → Scanning text from first n m l.next (k + 1) q
      scan_counts e q w =
          subst (λ (j : ℕ). Scanning text from first n m l.next j q) (sym (add-one k)) record {
            told = s.told ∙ entry_told true e
                ∙ ap (λ (i : ℕ). scan_from n m i (doubles_with passed.doubles a b) (suc k) (kinds_at text l.next)) (sym w.entries)
                ∙ ap (λ (d : ℕ). scan_from n m q.entries d (suc k) (kinds_at text l.next)) (sym w.doubles);
            within = reads.within;
            low = omega (arith, s.low, reads.on);
            few = omega (arith, s.few, reads.on, w.entries);
            doubled = omega (arith, doubles-most passed.doubles passed.entries a b s.doubled, w.entries, w.doubles);
            rows = λ h. rises Before by_rows passed.by_rows (is_before passed.row passed.column a b) q.row q.column s.rows
                (before-true passed.row passed.column a b) w.row w.column (sym w.by_rows ∙ h);
            columns = λ h. rises Swapped by-columns passed.by_columns (is_before passed.column passed.row b a) q.row q.column s.columns
                (before-true passed.column passed.row b a) w.row w.column (sym w.by-columns ∙ h);
          }
