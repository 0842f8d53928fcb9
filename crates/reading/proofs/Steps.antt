-- Steps of the reader of a line: what each way through the code means for `stands_at`, `numbers_from` and `line_from`. Assumes nothing.
use mathlib.Core.Path.{◌≡◌, refl, sym, ap, ap₂, subst, ◌∙◌}
use mathlib.Core.Logic.{⊎_elim}
use mathlib.Core.Bool.{Bool, true, false, cond, ◌&&◌}
use mathlib.Core.List.{List, [], ◌∷◌, ◌++◌, append_assoc}
use Prim.Native.Nat.{ℕ, zero, suc, ◌+◌, ◌-◌, ◌≤◌, ◌<◌}
use native.Mathlib.Nat.{add-zero}
use native.Mathlib.Numerals.{add-one}
use native.Mathlib.Omega.{arith}
use borrow.Author.Tests.{eq-eqb, ne_eqb}
use lib.Dec.{eqb}
use lib.ListN.{length, get_or, take, drop, set, length-append, length-set, take-append-drop, drop_of_length-le, get_or-eq_default}
use lib.Seq.{drop-cons, length-take-le, take-suc-set, drop-set-lt}
use Rattle.digits.specs.ReadDecimal.{some_number, read_decimal}
use Rattle.digits.specs.ReadHex.{read_hex}
use Rattle.std.specs.Prelude.{Option, Some, None}
use Rattle.digits.specs.declared.Number.{Number}
use Rattle.digits.proofs.Bytes.{lt_or_ge}
use Rattle.reading.specs.Grammar.{Line}
use Rattle.reading.specs.ReadLine.{Found, found, none, number_at, before, on_number, numbers_from, list_from, stands_at, line_from}
use Rattle.reading.specs.Parts.{line_of, list_of, one_of, Reads}
use Rattle.reading.specs.declared.Counted.{Counted}
use Rattle.reading.specs.declared.Kind.{Kind}

-- so many numbers, and the place behind them; two that are the same have the same parts
abbrev pub some_counted : ℕ → ℕ → Option Counted
some_counted count next = Some (record { count = count; next = next })

count_in : Option Counted → ℕ
count_in (Some c) = c.count
count_in None = 0

next_in : Option Counted → ℕ
next_in (Some c) = c.next
next_in None = 0

pub same_counted : (count next n after : ℕ) → some_counted count next ≡ some_counted n after → (count ≡ n) × (next ≡ after)
unfolding count_in next_in
same_counted count next n after e = (ap count_in e, ap next_in e)

-- ---- a byte that is not 0 stands among the bytes
pub inside_of : (bytes : List ℕ) (i : ℕ) → 1 ≤ get_or bytes i 0 → i < length bytes
inside_of bytes i h = ⊎_elim (λ l. l) (λ l. absurd (omega (arith, get_or-eq_default bytes 0 l))) (lt_or_ge i (length bytes))

-- ---- a name
pub stands_cons : (b : ℕ) (bs bytes : List ℕ) (at : ℕ) → stands_at (b ∷ bs) bytes at ≡ (eqb (get_or bytes at 0) b && stands_at bs bytes (at + 1))
unfolding stands_at
stands_cons b bs bytes at = refl

pub stands_nil : (bytes : List ℕ) (at : ℕ) → stands_at [] bytes at ≡ true
unfolding stands_at
stands_nil bytes at = refl

pub stands-start : (name bytes : List ℕ) (at : ℕ) → stands_at name bytes at ≡ stands_at (drop 0 name) bytes (at + 0)
stands-start name bytes at = sym (ap (stands_at name bytes) (add-zero at))

module _ (name bytes : List ℕ) (at i : ℕ) where
  stands-next : i < length name → stands_at (drop i name) bytes (at + i)
      ≡ (eqb (get_or bytes (at + i) 0) (get_or name i 0) && stands_at (drop (i + 1) name) bytes (at + (i + 1)))
  stands-next h =
      let k : (at + i) + 1 ≡ at + (i + 1) = omega arith in
      ap (λ (l : List ℕ). stands_at l bytes (at + i)) (drop-cons name i 0 h ∙ ap (λ (n : ℕ). get_or name i 0 ∷ drop n name) (sym (add-one i)))
      ∙ stands_cons (get_or name i 0) (drop (i + 1) name) bytes (at + i)
      ∙ ap (λ (n : ℕ). eqb (get_or bytes (at + i) 0) (get_or name i 0) && stands_at (drop (i + 1) name) bytes n) k

  pub stands_same : i < length name → get_or bytes (at + i) 0 ≡ get_or name i 0
      → stands_at (drop i name) bytes (at + i) ≡ stands_at (drop (i + 1) name) bytes (at + (i + 1))
  stands_same h e =
      stands-next h ∙ ap (λ (t : Bool). t && stands_at (drop (i + 1) name) bytes (at + (i + 1))) (eq-eqb (get_or bytes (at + i) 0) (get_or name i 0) e)

  pub stands_other : i < length name → (get_or bytes (at + i) 0 ≡ get_or name i 0 → ⊥) → stands_at (drop i name) bytes (at + i) ≡ false
  stands_other h e =
      stands-next h ∙ ap (λ (t : Bool). t && stands_at (drop (i + 1) name) bytes (at + (i + 1))) (ne_eqb (get_or bytes (at + i) 0) (get_or name i 0) e)

  pub stands_end : length name ≤ i → stands_at (drop i name) bytes (at + i) ≡ true
  unfolding stands_at
  stands_end h = ap (λ (l : List ℕ). stands_at l bytes (at + i)) (drop_of_length-le name h)

-- ---- a number in either form
module _ (l : Line) (bytes : List ℕ) (at : ℕ) where
  pub number-hex : l.in_hex ≡ true → read_hex bytes at ≡ number_at l bytes at
  number-hex t = sym (ap (λ (b : Bool). cond b (read_hex bytes at) (read_decimal bytes at l.largest)) t)

  pub number-decimal : l.in_hex ≡ false → read_decimal bytes at l.largest ≡ number_at l bytes at
  number-decimal t = sym (ap (λ (b : Bool). cond b (read_hex bytes at) (read_decimal bytes at l.largest)) t)

-- ---- one number of a list
module _ (l : Line) (bytes : List ℕ) (at room : ℕ) where
  behind : ℕ → ℕ → Found
  behind v next =
      cond (eqb (get_or bytes next 0) 10) (found (v ∷ []) (next + 1))
      (cond (eqb (get_or bytes next 0) 44) (before v (numbers_from l bytes (next + 1) room)) none)

  read_with : (d : Option Number) → number_at l bytes at ≡ d → numbers_from l bytes at (suc room) ≡ on_number d behind
  unfolding numbers_from behind
  read_with d e = ap (λ (n : Option Number). on_number n behind) e

  pub numbers-wrong : number_at l bytes at ≡ None → numbers_from l bytes at (suc room) ≡ none
  numbers-wrong e = read_with None e

  module _ (v next : ℕ) (e : number_at l bytes at ≡ some_number v next) where
    pub numbers-last : get_or bytes next 0 ≡ 10 → numbers_from l bytes at (suc room) ≡ found (v ∷ []) (next + 1)
    unfolding behind
    numbers-last h =
        read_with (some_number v next) e
        ∙ ap (λ (t : Bool). cond t (found (v ∷ []) (next + 1)) (cond (eqb (get_or bytes next 0) 44) (before v (numbers_from l bytes (next + 1) room)) none))
        (eq-eqb (get_or bytes next 0) 10 h)

    no_newline : (get_or bytes next 0 ≡ 10 → ⊥) → numbers_from l bytes at (suc room)
        ≡ cond (eqb (get_or bytes next 0) 44) (before v (numbers_from l bytes (next + 1) room)) none
    unfolding behind
    no_newline h =
        read_with (some_number v next) e
        ∙ ap (λ (t : Bool). cond t (found (v ∷ []) (next + 1)) (cond (eqb (get_or bytes next 0) 44) (before v (numbers_from l bytes (next + 1) room)) none))
        (ne_eqb (get_or bytes next 0) 10 h)

    pub numbers_more : get_or bytes next 0 ≡ 44 → numbers_from l bytes at (suc room) ≡ before v (numbers_from l bytes (next + 1) room)
    numbers_more h =
        no_newline (λ z. absurd (omega arith))
        ∙ ap (λ (t : Bool). cond t (before v (numbers_from l bytes (next + 1) room)) none) (eq-eqb (get_or bytes next 0) 44 h)

    pub numbers_other : (get_or bytes next 0 ≡ 10 → ⊥) → (get_or bytes next 0 ≡ 44 → ⊥) → numbers_from l bytes at (suc room) ≡ none
    numbers_other h k =
        no_newline h ∙ ap (λ (t : Bool). cond t (before v (numbers_from l bytes (next + 1) room)) none) (ne_eqb (get_or bytes next 0) 44 k)

pub numbers-full : (l : Line) (bytes : List ℕ) (at : ℕ) → numbers_from l bytes at 0 ≡ none
unfolding numbers_from
numbers-full l bytes at = refl

-- ---- the loop over numbers
abbrev pub prefixed : List ℕ → Found → Found
prefixed vs (found ws next) = found (vs ++ ws) next
prefixed vs none = none

prefixed_nil : (f : Found) → f ≡ prefixed [] f
prefixed_nil (found ws next) = refl
prefixed_nil none = refl

prefixed_before : (vs : List ℕ) (v : ℕ) (f : Found) → prefixed vs (before v f) ≡ prefixed (vs ++ (v ∷ [])) f
prefixed_before vs v (found ws next) = ap (λ (l : List ℕ). found l next) (sym (append_assoc vs (v ∷ []) ws))
prefixed_before vs v none = refl

pub reads_none : (f : Found) (out after : List ℕ) → f ≡ none → Reads f out None after
reads_none f out after e =
    record {
      answered = sym (ap list_of e);
      numbers = λ vs next g. let z : ◌≡◌ {A = ℕ} 0 1 = cc in absurd (omega arith);
    }

pub reads_found : (f : Found) (out : List ℕ) (count next : ℕ) (after vs : List ℕ) → f ≡ found vs next → count ≡ length vs
    → after ≡ vs ++ drop (length vs) out → Reads f out (some_counted count next) after
reads_found f out count next after vs e n a =
    record {
      answered = ap (λ (k : ℕ). some_counted k next) n ∙ sym (ap list_of e);
      numbers = λ ws m g. let h : found vs next ≡ found ws m = sym e ∙ g in let w : vs ≡ ws = cc in
          a ∙ ap (λ (l : List ℕ). l ++ drop (length l) out) w;
    }

-- `count` numbers are read and stored, and the reader has come to `at`
pub record Scan (l : Line) (bytes : List ℕ) (from : ℕ) (out now : List ℕ) (at count : ℕ) : Type 0 where
  pub most : count ≤ length out
  pub same : length now ≡ length out
  pub rest : drop count now ≡ drop count out
  pub whole : numbers_from l bytes from (length out) ≡ prefixed (take count now) (numbers_from l bytes at (length out - count))

pub scan_start : (l : Line) (bytes : List ℕ) (from : ℕ) (out : List ℕ) → Scan l bytes from out out from 0
scan_start l bytes from out =
    let k : length out - 0 ≡ length out = omega arith in
    record {
      most = omega arith;
      same = refl;
      rest = refl;
      whole = ap (numbers_from l bytes from) (sym k) ∙ prefixed_nil (numbers_from l bytes from (length out - 0));
    }

module _ (l : Line) (bytes : List ℕ) (from : ℕ) (out now : List ℕ) (at count : ℕ) (s : Scan l bytes from out now at count) where
  pub scan_full : length now ≤ count → Reads (numbers_from l bytes from (length out)) out None now
  scan_full h =
      let k : length out - count ≡ 0 = omega (arith, s.same) in
      reads_none _ out now
      (s.whole ∙ ap (λ (n : ℕ). prefixed (take count now) (numbers_from l bytes at n)) k ∙ ap (prefixed (take count now)) (numbers-full l bytes at))

  module _ (h : count < length now) where
    step : (f : Found) → numbers_from l bytes at (suc (length out - (count + 1))) ≡ f
        → numbers_from l bytes from (length out) ≡ prefixed (take count now) f
    step f e =
        let k : length out - count ≡ suc (length out - (count + 1)) = omega (arith, s.same) in
        s.whole ∙ ap (λ (n : ℕ). prefixed (take count now) (numbers_from l bytes at n)) k ∙ ap (prefixed (take count now)) e

    pub scan_wrong : number_at l bytes at ≡ None → (after : List ℕ) → Reads (numbers_from l bytes from (length out)) out None after
    scan_wrong e after = reads_none _ out after (step none (numbers-wrong l bytes at (length out - (count + 1)) e))

    module _ (v next : ℕ) (e : number_at l bytes at ≡ some_number v next) where
      stored : take (count + 1) (set now count v) ≡ take count now ++ (v ∷ [])
      stored = ap (λ (n : ℕ). take n (set now count v)) (add-one count) ∙ take-suc-set now count v h

      left : drop (count + 1) (set now count v) ≡ drop (count + 1) out
      left =
          drop-set-lt (count + 1) now count v (omega arith) ∙ ap (λ (n : ℕ). drop n now) (add-one count)
          ∙ tail (drop count now) (drop count out) s.rest (drop-cons now count 0 h) (drop-cons out count 0 (omega (arith, s.same)))
          ∙ ap (λ (n : ℕ). drop n out) (sym (add-one count))
        where
          tail : {x y : ℕ} {xs ys : List ℕ} (a b : List ℕ) → a ≡ b → a ≡ x ∷ xs → b ≡ y ∷ ys → xs ≡ ys
          tail a b p q r = cc

      pub scan_last : get_or bytes next 0 ≡ 10 → Reads (numbers_from l bytes from (length out)) out (some_counted (count + 1) (next + 1)) (set now count v)
      scan_last g =
          let vs = take count now ++ (v ∷ []) in
          let n : length vs ≡ count + 1 = length-append (take count now) (v ∷ []) ∙ omega (arith, length-take-le count now (omega arith)) in
          reads_found _ out (count + 1) (next + 1) (set now count v) vs
          (step (found (v ∷ []) (next + 1)) (numbers-last l bytes at (length out - (count + 1)) v next e g)) (sym n)
          (sym (take-append-drop (count + 1) (set now count v)) ∙ ap₂ (λ (a b : List ℕ). a ++ b) stored (left ∙ ap (λ (k : ℕ). drop k out) (sym n)))

      pub scan_other : (get_or bytes next 0 ≡ 10 → ⊥) → (get_or bytes next 0 ≡ 44 → ⊥) → (after : List ℕ)
          → Reads (numbers_from l bytes from (length out)) out None after
      scan_other p q after = reads_none _ out after (step none (numbers_other l bytes at (length out - (count + 1)) v next e p q))

      pub scan_more : get_or bytes next 0 ≡ 44 → Scan l bytes from out (set now count v) (next + 1) (count + 1)
      scan_more g =
          record {
            most = omega (arith, s.same);
            same = length-set now count v ∙ s.same;
            rest = left;
            whole = step _ (numbers_more l bytes at (length out - (count + 1)) v next e g)
                ∙ prefixed_before (take count now) v (numbers_from l bytes (next + 1) (length out - (count + 1)))
                ∙ ap (λ (a : List ℕ). prefixed a (numbers_from l bytes (next + 1) (length out - (count + 1)))) (sym stored);
          }

-- ---- a line
pub reads_as : (f g : Found) (out : List ℕ) (answer : Option Counted) (after : List ℕ) → f ≡ g → Reads g out answer after → Reads f out answer after
reads_as f g out answer after e s = subst (λ (x : Found). Reads x out answer after) (sym e) s

module _ (l : Line) (bytes : List ℕ) (from : ℕ) where
  pub line-no-name : stands_at l.name bytes from ≡ false → line_from l bytes from ≡ none
  unfolding line_from
  line-no-name h = ap (λ (t : Bool). cond t (list_from l bytes (from + length l.name)) none) h

  pub line_list : stands_at l.name bytes from ≡ true → line_from l bytes from ≡ list_from l bytes (from + length l.name)
  unfolding line_from
  line_list h = ap (λ (t : Bool). cond t (list_from l bytes (from + length l.name)) none) h

module _ (l : Line) (bytes : List ℕ) (at : ℕ) where
  pub list_numbers : (get_or bytes at 0 ≡ 10 → ⊥) → list_from l bytes at ≡ numbers_from l bytes at l.most
  list_numbers h =
      ap (λ (t : Bool). cond t (cond (eqb l.fewest 0) (found [] (at + 1)) none) (numbers_from l bytes at l.most)) (ne_eqb (get_or bytes at 0) 10 h)

  newline : get_or bytes at 0 ≡ 10 → list_from l bytes at ≡ cond (eqb l.fewest 0) (found [] (at + 1)) none
  newline h =
      ap (λ (t : Bool). cond t (cond (eqb l.fewest 0) (found [] (at + 1)) none) (numbers_from l bytes at l.most)) (eq-eqb (get_or bytes at 0) 10 h)

  pub list_empty : get_or bytes at 0 ≡ 10 → l.fewest ≡ 0 → list_from l bytes at ≡ found [] (at + 1)
  list_empty h f = newline h ∙ ap (λ (t : Bool). cond t (found [] (at + 1)) none) (eq-eqb l.fewest 0 f)

  pub list_few : get_or bytes at 0 ≡ 10 → (l.fewest ≡ 0 → ⊥) → list_from l bytes at ≡ none
  list_few h f = newline h ∙ ap (λ (t : Bool). cond t (found [] (at + 1)) none) (ne_eqb l.fewest 0 f)

-- of a line's fields, only two matter to its numbers
pub numbers_fields : (name : List ℕ) (kind : Kind) (fewest most : ℕ) (bytes : List ℕ) (room at : ℕ)
    → numbers_from (line_of name kind fewest most) bytes at room ≡ numbers_from (line_of [] kind 0 0) bytes at room
unfolding numbers_from behind
numbers_fields name kind fewest most bytes zero at =
    numbers-full (line_of name kind fewest most) bytes at ∙ sym (numbers-full (line_of [] kind 0 0) bytes at)
numbers_fields name kind fewest most bytes (suc room) at =
    go (number_at (line_of [] kind 0 0) bytes at) refl (λ next. numbers_fields name kind fewest most bytes room next)
  where
    go : (d : Option Number) → number_at (line_of [] kind 0 0) bytes at ≡ d
        → ((next : ℕ) → numbers_from (line_of name kind fewest most) bytes next room ≡ numbers_from (line_of [] kind 0 0) bytes next room)
        → numbers_from (line_of name kind fewest most) bytes at (suc room) ≡ numbers_from (line_of [] kind 0 0) bytes at (suc room)
    go None e rest =
        numbers-wrong (line_of name kind fewest most) bytes at room e
        ∙ sym (numbers-wrong (line_of [] kind 0 0) bytes at room e)
    go (Some n) e rest =
        read_with (line_of name kind fewest most) bytes at room (Some n) e
        ∙ ap (λ (f : Found). cond (eqb (get_or bytes n.next 0) 10) (found (n.value ∷ []) (n.next + 1)) (cond (eqb (get_or bytes n.next 0) 44) (before n.value f) none))
        (rest (n.next + 1))
        ∙ sym (read_with (line_of [] kind 0 0) bytes at room (Some n) e)

-- ---- the line that has one number
first_of : (vs : List ℕ) → get_or (vs ++ drop (length vs) (0 ∷ [])) 0 0 ≡ get_or vs 0 0
first_of [] = refl
first_of (v ∷ vs) = refl

pub one_found : (f : Found) (answer : Option Counted) (after : List ℕ) (line : Counted) → Reads f (0 ∷ []) answer after → answer ≡ Some line
    → some_number (get_or after 0 0) line.next ≡ one_of f
one_found (found vs n) answer after line s e =
    let m = same_counted (length vs) n line.count line.next (sym s.answered ∙ e) in
    ap₂ some_number (ap (λ (l : List ℕ). get_or l 0 0) (s.numbers vs n refl) ∙ first_of vs) (sym m.1)
one_found none answer after line s e =
    let k : None ≡ Some line = sym s.answered ∙ e in
    let z : ◌≡◌ {A = ℕ} 0 1 = cc in absurd (omega arith)

pub one-wrong : (f : Found) (answer : Option Counted) (after : List ℕ) → Reads f (0 ∷ []) answer after → answer ≡ None → None ≡ one_of f
one-wrong (found vs n) answer after s e =
    let k : some_counted (length vs) n ≡ None = sym s.answered ∙ e in
    let z : ◌≡◌ {A = ℕ} 0 1 = cc in absurd (omega arith)
one-wrong none answer after s e = refl
