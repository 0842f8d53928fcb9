-- What is said of single faults follows: an empty file, a line that is missing, a repeated entry. Assumes nothing.
use mathlib.Core.Path.{◌≡◌, refl, sym, ap, ◌∙◌, subst}
use mathlib.Core.Bool.{true, false≢true}
use mathlib.Core.List.{List, [], ◌∷◌, ◌++◌, append_assoc}
use mathlib.Core.Logic.{inl, inr}
use Prim.Native.Nat.{ℕ, ◌+◌, ◌-◌}
use native.Mathlib.Omega.{arith}
use lib.ListN.{length, take, drop, length-append}
use lib.Seq.{take-length, take_at}
use Rattle.digits.proofs.Bytes.{right_or}
use Rattle.lines.specs.Lines.{lines_of}
use Rattle.lines.specs.Kinds.{kind_of, kinds_of}
use Rattle.lines.specs.declared.Kind.{Kind}
use Rattle.lines.specs.declared.Kind.TheVariants as K
use Rattle.market.specs.Market.{Entry, has, head_of, read_market}
use Rattle.market.specs.Passes.{entries_in}
use Rattle.market.proofs.Right.{entry, has_append, has_first}
use Rattle.grammar.specs.Grammar.{InHead, Each, NoRepeats, IsMarket, Begins, FirstFault}
use Rattle.grammar.proofs.Entries.{none-at}
use Rattle.grammar.proofs.Heads.{kinds_append}
use Rattle.grammar.proofs.Theorems.{fault-sound}

-- "19 at 1 for an empty file"
pub empty_file : FirstFault (lines_of []) 1
unfolding read_market head_of lines_of
empty_file = fault-sound [] refl

-- "for too few entries the line that is missing", and so for each beginning that is no file
pub too_few : (ls : List (List ℕ)) → Begins ls → ((n : ℕ) (es : List Entry) → IsMarket ls n es → ⊥) → FirstFault ls (length ls + 1)
too_few ls b f =
    let z : length ls ≡ length ls + 1 - 1 = omega arith in
    record {
      counted = omega arith;
      near = omega arith;
      before = subst Begins (sym (take-length ls) ∙ ap (λ (i : ℕ). take i ls) z) b;
      here = inr (refl, f);
    }

-- ---- "for a repeated entry the later of the two lines"

entries_append : (xs ys : List Kind) → entries_in (xs ++ ys) ≡ entries_in xs ++ entries_in ys
unfolding entries_in
entries_append [] ys = refl
entries_append (K.Blank ∷ xs) ys = entries_append xs ys
entries_append (K.Comment ∷ xs) ys = entries_append xs ys
entries_append (K.Entry r c ∷ xs) ys = ap (λ (es : List Entry). entry r c ∷ es) (entries_append xs ys)
entries_append (K.Size r c m ∷ xs) ys = entries_append xs ys
entries_append (K.Other ∷ xs) ys = entries_append xs ys

-- a head has none
no-entries : (hs : List Kind) → Each InHead hs → entries_in hs ≡ []
unfolding entries_in Each InHead
no-entries [] e = refl
no-entries (K.Blank ∷ hs) e = no-entries hs e.1
no-entries (K.Comment ∷ hs) e = no-entries hs e.1
no-entries (K.Entry r c ∷ hs) e = absurd e.0
no-entries (K.Size r c m ∷ hs) e = absurd e.0
no-entries (K.Other ∷ hs) e = absurd e.0

-- so a file's entries are all that stand behind its first line
file_entries : (first : List ℕ) (ls : List (List ℕ)) {n : ℕ} {es : List Entry} → IsMarket (first ∷ ls) n es → entries_in (kinds_of ls) ≡ es
unfolding kinds_of entries_in
file_entries first ls f =
    let hs = kinds_of f.head in
    let bs = kinds_of f.body in
    ap (λ (xs : List (List ℕ)). entries_in (kinds_of (drop 1 xs))) f.lines
    ∙ ap entries_in (kinds_append f.head (f.size ∷ f.body))
    ∙ entries_append hs (kind_of f.size ∷ bs)
    ∙ ap (λ (es : List Entry). es ++ entries_in (kind_of f.size ∷ bs)) (no-entries hs f.in_head)
    ∙ ap (λ (x : Kind). entries_in (x ∷ bs)) f.is-size
    ∙ f.entries

-- a line with an entry, and what stands around it
entry_among : (xs : List (List ℕ)) (l : List ℕ) (ys : List (List ℕ)) (r c : ℕ) → kind_of l ≡ K.Entry r c
    → entries_in (kinds_of (xs ++ (l ∷ ys))) ≡ entries_in (kinds_of xs) ++ (entry r c ∷ entries_in (kinds_of ys))
unfolding kinds_of entries_in
entry_among xs l ys r c e =
    ap entries_in (kinds_append xs (l ∷ ys)) ∙ entries_append (kinds_of xs) (kind_of l ∷ kinds_of ys)
    ∙ ap (λ (x : Kind). entries_in (kinds_of xs) ++ entries_in (x ∷ kinds_of ys)) e

module _ (first : List ℕ) (before : List (List ℕ)) (earlier : List ℕ) (between : List (List ℕ)) (later : List ℕ) (r c : ℕ)
    (one : kind_of earlier ≡ K.Entry r c) (two : kind_of later ≡ K.Entry r c) where
  abbrev front : List (List ℕ)
  front = before ++ (earlier ∷ between)

  was_there : has (entries_in (kinds_of front)) r c ≡ true
  was_there =
      let xs = entries_in (kinds_of before) in
      let ys = entries_in (kinds_of between) in
      ap (λ (es : List Entry). has es r c) (entry_among before earlier between r c one) ∙ has_append xs (entry r c ∷ ys) r c
      ∙ right_or (has xs r c) (has (entry r c ∷ ys) r c) (has_first (entry r c) ys)

  no_file : (rest : List (List ℕ)) {n : ℕ} {es : List Entry} → IsMarket (first ∷ (front ++ (later ∷ rest))) n es → ⊥
  no_file rest f =
      let e = sym (file_entries first (front ++ (later ∷ rest)) f) ∙ entry_among front later rest r c two in
      false≢true (sym (none-at (entries_in (kinds_of front)) (entry r c) (entries_in (kinds_of rest)) (subst NoRepeats e f.no_repeats)) ∙ was_there)

  pub repeated : (rest : List (List ℕ)) → Begins (first ∷ front) → FirstFault (first ∷ (front ++ (later ∷ rest))) (length (first ∷ front) + 1)
  repeated rest b =
      let fs = first ∷ front in
      let k = length fs + 1 in
      let z : length fs ≡ k - 1 = omega arith in
      let all : fs ++ (later ∷ rest) ≡ (fs ++ (later ∷ [])) ++ rest = sym (append_assoc fs (later ∷ []) rest) in
      let up_to : take k (fs ++ (later ∷ rest)) ≡ fs ++ (later ∷ []) =
      ap (take k) all ∙ take_at (fs ++ (later ∷ [])) rest k (length-append fs (later ∷ []))
      in
      record {
        counted = omega arith;
        near = omega (arith, length-append fs (later ∷ rest));
        before = subst Begins (sym (take_at fs (later ∷ rest) (k - 1) z)) b;
        here = inl (
          omega (arith, length-append fs (later ∷ rest)),
          λ g.
              let h = subst Begins up_to g in
              no_file h.more
              (subst (λ (xs : List (List ℕ)). IsMarket xs h.rows h.entries) (h.lines ∙ append_assoc fs (later ∷ []) h.more) h.is-market),
        );
      }
