-- The definition of reading, market's `read_market`, is sound and complete for what a file is and for the first line at fault. Assumes nothing.
use mathlib.Core.Path.{◌≡◌, refl, sym, ap, ◌∙◌, subst}
use mathlib.Core.List.{List, [], ◌++◌, append_assoc, append-nil}
use mathlib.Core.Logic.{inl, inr, ⊎_elim}
use Prim.Native.Nat.{ℕ, ◌+◌, ◌-◌, ◌≤◌, ◌<◌}
use native.Mathlib.Omega.{arith}
use lib.ListN.{length, take, drop, take-append-drop}
use lib.Seq.{length-take-le, take-take}
use Rattle.definition.proofs.Fill.{split}
use Rattle.lines.specs.Lines.{lines_of}
use Rattle.market.specs.Market.{Entry, Read, market, fault, read_market}
use Rattle.market.proofs.Right.{fault-market}
use Rattle.grammar.specs.Grammar.{IsMarket, Begins, FirstFault}
use Rattle.grammar.proofs.Plain.{Plain, plain-take, plain_lines}
use Rattle.grammar.proofs.Bodies.{same-fault}
use Rattle.grammar.proofs.Files.{read_lines, lines-sound, lines_complete, lines_bounds, lines_local}
use Rattle.grammar.proofs.Continued.{market-begins, lines_continued}

-- ---- beginnings

-- each front of one is one
pub begins-front : (i : ℕ) (ls : List (List ℕ)) → Begins ls → Begins (take i ls)
begins-front i ls b = record {
  text = b.text;
  more = drop i ls ++ b.more;
  rows = b.rows;
  entries = b.entries;
  lines =
      b.lines ∙ ap (λ (xs : List (List ℕ)). xs ++ b.more) (sym (take-append-drop i ls)) ∙ append_assoc (take i ls) (drop i ls) b.more;
  is-market = b.is-market;
}

-- lines with a fault among them are none, whatever stood behind them
no_beginning : (fs bs : List (List ℕ)) {k : ℕ} → read_lines (fs ++ bs) ≡ fault k → k ≤ length fs → Begins fs → ⊥
no_beginning fs bs h l b =
    fault-market (sym (lines_local fs bs b.more h l) ∙ sym (ap read_lines b.lines) ∙ lines_complete b.is-market)

-- and lines without one are one
is_beginning : (ls : List (List ℕ)) → Plain ls → ((j : ℕ) → read_lines ls ≡ fault j → j ≤ length ls → ⊥) → Begins ls
is_beginning ls p f = go (read_lines ls) refl
  where
    go : (r : Read) → read_lines ls ≡ r → Begins ls
    go (market n es) e = market-begins ls p e
    go (fault j) e =
        let b = lines_bounds ls e in
        split (length ls) j (λ l. let z : j ≡ length ls + 1 = omega arith in lines_continued ls p (e ∙ ap fault z)) (λ l. absurd (f j e l))

-- ---- the first line at fault

pub lines-fault : (ls : List (List ℕ)) {k : ℕ} → Plain ls → read_lines ls ≡ fault k → FirstFault ls k
lines-fault ls {k} p h =
    let b = lines_bounds ls h in
    let whole : (i : ℕ) → read_lines (take i ls ++ drop i ls) ≡ fault k = λ i. ap read_lines (take-append-drop i ls) ∙ h in
    record {
      counted = b.0;
      near = omega arith;
      before = is_beginning (take (k - 1) ls) (plain-take (k - 1) ls p) (λ j e l.
          let front = take (k - 1) ls in
          let g : read_lines front ≡ read_lines (front ++ []) = ap read_lines (sym (append-nil front)) in
          let s = same-fault (sym (lines_local front [] (drop (k - 1) ls) (sym g ∙ e) l) ∙ whole (k - 1)) in
          omega (arith, length-take-le (k - 1) ls (omega arith)));
      here =
          split (length ls) k
          (λ l. inr (omega arith, λ n es f. fault-market (sym h ∙ lines_complete f)))
          (λ l. inl (l, no_beginning (take k ls) (drop k ls) (whole k) (omega (arith, length-take-le k ls l))));
    }

-- there is one at most
not-before : (ls : List (List ℕ)) {i j : ℕ} → FirstFault ls i → FirstFault ls j → i < j → ⊥
not-before ls {i} {j} f g l =
    ⊎_elim
    (λ h.
    h.1 (subst Begins (take-take i (j - 1) ls (omega arith)) (begins-front i (take (j - 1) ls) g.before)))
    (λ h. let e = h.0 in let n = g.near in omega arith) f.here

pub one-fault : (ls : List (List ℕ)) {i j : ℕ} → FirstFault ls i → FirstFault ls j → i ≡ j
one-fault ls {i} {j} f g =
    split i j (λ l. absurd (not-before ls f g l)) (λ l. split j i (λ m. absurd (not-before ls g f m)) (λ m. omega arith))

-- a file has none
no-fault : (ls : List (List ℕ)) {n k : ℕ} {es : List Entry} → Plain ls → IsMarket ls n es → FirstFault ls k → ⊥
no-fault ls {n} {k} {es} p f g = ⊎_elim (λ h. h.1 (begins-front k ls (market-begins ls p (lines_complete f)))) (λ h. h.1 n es f) g.here

pub fault-lines : (ls : List (List ℕ)) {k : ℕ} → Plain ls → FirstFault ls k → read_lines ls ≡ fault k
fault-lines ls {k} p f = go (read_lines ls) refl
  where
    go : (r : Read) → read_lines ls ≡ r → read_lines ls ≡ fault k
    go (market n es) e = absurd (no-fault ls p (lines-sound ls e) f)
    go (fault j) e = e ∙ ap fault (one-fault ls (lines-fault ls p e) f)

-- ---- of a text

module _ (text : List ℕ) where
  -- what is read is such a file
  pub sound : {n : ℕ} {es : List Entry} → read_market text ≡ market n es → IsMarket (lines_of text) n es
  unfolding read_market
  sound h = lines-sound (lines_of text) h

  -- and such a file is read
  pub complete : {n : ℕ} {es : List Entry} → IsMarket (lines_of text) n es → read_market text ≡ market n es
  unfolding read_market
  complete f = lines_complete f

  -- the line at fault is the first one
  pub fault-sound : {k : ℕ} → read_market text ≡ fault k → FirstFault (lines_of text) k
  unfolding read_market
  fault-sound h = lines-fault (lines_of text) (plain_lines text) h

  -- and the first one is the line at fault
  pub fault_complete : {k : ℕ} → FirstFault (lines_of text) k → read_market text ≡ fault k
  unfolding read_market
  fault_complete f = fault-lines (lines_of text) (plain_lines text) f
