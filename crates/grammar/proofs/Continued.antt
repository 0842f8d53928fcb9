-- What is read without a fault up to its last line can be continued: by the entries that are missing, by a size line, by a banner.
-- Assumes nothing.
use mathlib.Core.Path.{◌≡◌, refl, sym, ap, ◌∙◌}
use mathlib.Core.Bool.{true}
use mathlib.Core.List.{List, [], ◌∷◌, ◌++◌, append-nil}
use Prim.Native.Nat.{ℕ, zero, suc, ◌+◌, ◌-◌, ◌*◌, ◌≤◌}
use native.Mathlib.Omega.{arith}
use lib.ListN.{length, length-append}
use Rattle.digits.specs.Digits.{every, is_digit, value_from}
use Rattle.lines.specs.Lines.{begins, holds, on_first, lines_of, is_blank, goes_on, words_of}
use Rattle.lines.specs.Kinds.{largest, is_number, are_numbers, kind_by, numbers_in, kind_of, kinds_of}
use Rattle.lines.specs.Banner.{same_by, is_letter, are_words, is_banner}
use Rattle.lines.specs.declared.Kind.{Kind}
use Rattle.lines.specs.declared.Kind.TheVariants as K
use Rattle.market.specs.Market.{Entry, market, fault, body, right_size, head_from}
use Rattle.market.proofs.Bools.{decide}
use Rattle.market.proofs.Right.{entry}
use Rattle.grammar.specs.Grammar.{Begins}
use Rattle.grammar.proofs.Entries.{takes, Taken, taken, take_it}
use Rattle.grammar.proofs.Plain.{Plain, plain_append, text_of, lines-text}
use Rattle.grammar.proofs.Bodies.{same-fault, at_end, goes_on_lem, stops}
use Rattle.grammar.proofs.Heads.{kinds_append, kinds_length, right-size}
use Rattle.grammar.proofs.Cells.{fresh}
use Rattle.grammar.proofs.Texts.{line_of, kind_entry, line_plain, size_small}
use Rattle.grammar.proofs.Files.{read_from, read_lines, banner_goes, banner_stops, sized_goes, sized_stops, lines-sound}

-- ---- the entries that are missing

record Filled (n m : ℕ) (seen : List Entry) (k : ℕ) (ks : List Kind) : Type 0 where
  more : List (List ℕ)
  plain : Plain more
  entries : List Entry
  read : body n m seen k (ks ++ kinds_of more) ≡ market n entries

module _ (n m : ℕ) (fits : 2 * m ≤ n * (n + 1)) (small : n ≤ largest) where
  -- one more
  filled : (seen : List Entry) (k : ℕ) (e : Entry) → Taken n m seen e → Filled n m (seen ++ (e ∷ [])) (suc k) [] → Filled n m seen k []
  unfolding kinds_of Plain
  filled seen k e t i =
      let row = t.place.2 in
      let column = t.place.1 in
      let r : e.row ≤ largest = omega arith in
      let c : e.column ≤ largest = omega arith in
      record {
        more = line_of e.row e.column ∷ i.more;
        plain = (line_plain e.row e.column r c, i.plain);
        entries = i.entries;
        read =
            ap (λ (x : Kind). body n m seen k (x ∷ kinds_of i.more)) (kind_entry e.row e.column r c)
            ∙ goes_on_lem n m seen k e.row e.column (kinds_of i.more) (take_it n m seen e.row e.column t)
            ∙ i.read;
      }

  fill : (d : ℕ) (seen : List Entry) (k : ℕ) → length seen + d ≡ m → Filled n m seen k []
  unfolding kinds_of Plain
  fill zero seen k e = record { more = []; plain = tt; entries = seen; read = at_end n m seen k (omega arith) }
  fill (suc d) seen k e =
      let f = fresh n seen (omega arith) in
      filled seen k f.0 (record { room = omega arith; place = f.1; new = f.2 })
      (fill d (seen ++ (f.0 ∷ [])) (suc k) (omega (arith, length-append seen (f.0 ∷ []))))

  body_continued : (seen : List Entry) (k : ℕ) (ks : List Kind) → length seen ≤ m → body n m seen k ks ≡ fault (k + length ks)
      → Filled n m seen k ks
  unfolding body
  body_continued seen k [] l h = fill (m - length seen) seen k (omega arith)
  body_continued seen k (K.Blank ∷ ks) l h =
      let z : k + suc (length ks) ≡ suc k + length ks = omega arith in
      let i = body_continued seen (suc k) ks l (h ∙ ap fault z) in
      record { more = i.more; plain = i.plain; entries = i.entries; read = i.read }
  body_continued seen k (K.Comment ∷ ks) l h = absurd (omega (arith, same-fault h))
  body_continued seen k (K.Entry r c ∷ ks) l h =
      decide (takes n m seen r c)
      (λ e.
      let t = taken n m seen r c e in
      let z : k + suc (length ks) ≡ suc k + length ks = omega arith in
      let i =
      body_continued (seen ++ (entry r c ∷ [])) (suc k) ks (omega (arith, t.room, length-append seen (entry r c ∷ [])))
      (sym (goes_on_lem n m seen k r c ks e) ∙ h ∙ ap fault z)
      in
      record { more = i.more; plain = i.plain; entries = i.entries; read = goes_on_lem n m seen k r c (ks ++ kinds_of i.more) e ∙ i.read })
      (λ e. absurd (omega (arith, same-fault (sym (stops n m seen k r c ks e) ∙ h))))
  body_continued seen k (K.Size r c s ∷ ks) l h = absurd (omega (arith, same-fault h))
  body_continued seen k (K.Other ∷ ks) l h = absurd (omega (arith, same-fault h))

-- ---- a size line

-- `0 0 0`
abbrev zeros : List ℕ
zeros = 48 ∷ 32 ∷ 48 ∷ 32 ∷ 48 ∷ []

kind_zeros : kind_of zeros ≡ K.Size 0 0 0
unfolding kind_of begins numbers_in words_of is_blank goes_on on_first are_numbers is_number every is_digit kind_by value_from
kind_zeros = refl

record Sized (k : ℕ) (ls : List (List ℕ)) : Type 0 where
  more : List (List ℕ)
  plain : Plain more
  rows : ℕ
  entries : List Entry
  read : read_from k (kinds_of (ls ++ more)) ≡ market rows entries

zeros_read : (k : ℕ) → read_from k (K.Size 0 0 0 ∷ []) ≡ market 0 []
unfolding head_from right_size body
zeros_read k = refl

from_continued : (k : ℕ) (ls : List (List ℕ)) → read_from k (kinds_of ls) ≡ fault (k + length ls) → Sized k ls
unfolding head_from kinds_of Plain holds
from_continued k [] h = record {
  more = zeros ∷ [];
  plain = (refl, tt);
  rows = 0;
  entries = [];
  read = ap (λ (x : Kind). read_from k (x ∷ [])) kind_zeros ∙ zeros_read k;
}
from_continued k (l ∷ ls) h = go (λ g. from_continued (suc k) ls g) (kind_of l) refl h
  where
    far : k + suc (length ls) ≡ suc k + length ls
    far = omega arith

    -- the line is this kind's
    is : (x : Kind) → kind_of l ≡ x → (more : List (List ℕ)) → Plain more → (rows : ℕ) (es : List Entry) → read_from k (x ∷ kinds_of (ls ++ more)) ≡ market rows es → Sized k (l ∷ ls)
    is x e more p rows es g = record {
      more = more;
      plain = p;
      rows = rows;
      entries = es;
      read = ap (λ (y : Kind). read_from k (y ∷ kinds_of (ls ++ more))) e ∙ g;
    }

    go : (read_from (suc k) (kinds_of ls) ≡ fault (suc k + length ls) → Sized (suc k) ls) → (x : Kind) → kind_of l ≡ x
        → read_from k (x ∷ kinds_of ls) ≡ fault (k + suc (length ls)) → Sized k (l ∷ ls)
    go i K.Blank e h = let s = i (h ∙ ap fault far) in is K.Blank e s.more s.plain s.rows s.entries s.read
    go i K.Comment e h = let s = i (h ∙ ap fault far) in is K.Comment e s.more s.plain s.rows s.entries s.read
    go i (K.Entry r c) e h = absurd (omega (arith, same-fault h))
    go i (K.Size r c m) e h =
        decide (right_size r c m)
        (λ t.
        let s =
        body_continued r m (right-size r c m t).1 (size_small l e) [] (suc k) (kinds_of ls) (omega arith)
        (sym (sized_goes k r c m (kinds_of ls) t) ∙ h ∙ ap fault (far ∙ ap (λ (n : ℕ). suc k + n) (sym (kinds_length ls))))
        in
        is (K.Size r c m) e s.more s.plain r s.entries
        (sized_goes k r c m (kinds_of (ls ++ s.more)) t ∙ ap (body r m [] (suc k)) (kinds_append ls s.more) ∙ s.read))
        (λ t. absurd (omega (arith, same-fault (sym (sized_stops k r c m (kinds_of ls) t) ∙ h))))
    go i K.Other e h = absurd (omega (arith, same-fault h))

-- ---- a banner

-- `%%MatrixMarket matrix coordinate pattern symmetric`
abbrev banner_line : List ℕ
banner_line =
    37 ∷ 37 ∷ 77 ∷ 97 ∷ 116 ∷ 114 ∷ 105 ∷ 120 ∷ 77 ∷ 97 ∷ 114 ∷ 107 ∷ 101 ∷ 116 ∷ 32
    ∷ 109 ∷ 97 ∷ 116 ∷ 114 ∷ 105 ∷ 120 ∷ 32
    ∷ 99 ∷ 111 ∷ 111 ∷ 114 ∷ 100 ∷ 105 ∷ 110 ∷ 97 ∷ 116 ∷ 101 ∷ 32
    ∷ 112 ∷ 97 ∷ 116 ∷ 116 ∷ 101 ∷ 114 ∷ 110 ∷ 32
    ∷ 115 ∷ 121 ∷ 109 ∷ 109 ∷ 101 ∷ 116 ∷ 114 ∷ 105 ∷ 99 ∷ []

is-banner : is_banner banner_line ≡ true
unfolding is_banner words_of is_blank goes_on on_first are_words same_by is_letter
is-banner = refl

-- lines that a text has, which are read as a file with more such lines, are a beginning
begun : (ls more : List (List ℕ)) {n : ℕ} {es : List Entry} → Plain ls → Plain more → read_lines (ls ++ more) ≡ market n es → Begins ls
begun ls more {n} {es} p q h =
    let e = lines-text (ls ++ more) (plain_append ls more p q) in
    record {
      text = text_of (ls ++ more);
      more = more;
      rows = n;
      entries = es;
      lines = e;
      is-market = lines-sound (lines_of (text_of (ls ++ more))) (ap read_lines e ∙ h);
    }

pub market-begins : (ls : List (List ℕ)) {n : ℕ} {es : List Entry} → Plain ls → read_lines ls ≡ market n es → Begins ls
unfolding Plain
market-begins ls p h = begun ls [] p tt (ap read_lines (append-nil ls) ∙ h)

-- what is at fault for the line only that it lacks is a beginning
pub lines_continued : (ls : List (List ℕ)) → Plain ls → read_lines ls ≡ fault (length ls + 1) → Begins ls
unfolding kinds_of Plain holds
lines_continued [] p h =
    begun [] (banner_line ∷ zeros ∷ []) tt (refl, (refl, tt))
    (banner_goes banner_line (zeros ∷ []) is-banner ∙ ap (λ (x : Kind). read_from 2 (x ∷ [])) kind_zeros ∙ zeros_read 2)
lines_continued (l ∷ ls) p h =
    decide (is_banner l)
    (λ t.
    let z : suc (length ls) + 1 ≡ 2 + length ls = omega arith in
    let s = from_continued 2 ls (sym (banner_goes l ls t) ∙ h ∙ ap fault z) in
    begun (l ∷ ls) s.more p s.plain (banner_goes l (ls ++ s.more) t ∙ s.read))
    (λ t. absurd (omega (arith, same-fault (sym (banner_stops l ls t) ∙ h))))
