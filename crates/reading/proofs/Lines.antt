-- What `line_from` finds, both ways: numbers and a place exactly where the line with these numbers stands up to that place. Assumes nothing.
use mathlib.Core.Path.{◌≡◌, refl, sym, ap, ap₂, subst, ◌∙◌}
use mathlib.Core.Logic.{⊎_elim}
use mathlib.Core.Bool.{Bool, true, false, cond}
use mathlib.Core.List.{List, [], ◌∷◌, ◌++◌, append_assoc}
use Prim.Native.Nat.{ℕ, zero, suc, ◌+◌, ◌-◌, ◌^◌, ◌≤◌, ◌<◌}
use native.Mathlib.Nat.{add-zero}
use native.Mathlib.Numerals.{add-one}
use native.Mathlib.Omega.{arith}
use borrow.Author.Tests.{eqb-true, eqb-false, eq-eqb, ltb-true}
use lib.Dec.{eqb, ltb}
use lib.ListN.{length, get_or, drop, length-append, length-drop, get_or-append}
use lib.Seq.{drop-cons, drop-drop, drop_at, get_or-drop}
use Rattle.digits.specs.Digits.{decimal, hex, part, is_digit, is_hex, every}
use Rattle.std.specs.Prelude.{Option, Some, None}
use Rattle.digits.specs.declared.Number.{Number}
use Rattle.digits.specs.ReadDecimal.{some_number}
use Rattle.digits.proofs.Bytes.{both, both_of, low-no-digit, digit_range, hex_range}
use Rattle.digits.proofs.Lists.{every-at, every_cons, part-front, part-split}
use Rattle.digits.proofs.Decimals.{decimal-least, decimal-digits}
use Rattle.digits.proofs.Hexes.{hex-length, hex-digits}
use Rattle.digits.proofs.Reading.{decimal-sound, decimal_complete, hex-sound, hex_complete, hex-below}
use Rattle.reading.specs.Grammar.{Line, largest64, number_text, joined, line_text, Right}
use Rattle.reading.specs.ReadLine.{Found, found, none, number_at, before, numbers_from, list_from, stands_at, line_from}
use Rattle.reading.proofs.Steps.{inside_of, stands_cons, stands_nil, number-hex, number-decimal, numbers-wrong, numbers-last, numbers_more, numbers_other, numbers-full, line-no-name, line_list, list_numbers, list_empty, list_few}

-- what the lines of the table have in common: none asks for more than one number, hex holds any 64 bits, and no byte of a name is 0
-- (behind the end of the bytes stand zeros)
pub record Fair (l : Line) : Type 0 where
  pub few : l.fewest ≤ 1
  pub small : l.largest ≤ largest64
  pub bits : l.in_hex ≡ true → l.largest ≡ largest64
  pub letters : every (ltb 0) l.name ≡ true

-- ---- what stands behind a text
module _ (bytes : List ℕ) (at : ℕ) (text rest : List ℕ) (e : drop at bytes ≡ text ++ rest) where
  pub after_text : drop (at + length text) bytes ≡ rest
  after_text = sym (drop-drop (length text) at bytes) ∙ ap (drop (length text)) e ∙ drop_at text rest (length text) refl

  pub text-length : length bytes - at ≡ length text + length rest
  text-length = sym (length-drop at bytes) ∙ ap length e ∙ length-append text rest

  pub behind-text : get_or bytes (at + length text) 0 ≡ get_or rest 0 0
  behind-text =
      ap (λ (n : ℕ). get_or bytes n 0) (sym (add-zero (at + length text))) ∙ sym (get_or-drop (at + length text) bytes 0 0)
      ∙ ap (λ (l : List ℕ). get_or l 0 0) after_text

-- a byte that is not 0 stands in front of the rest
pub byte_first : (bytes : List ℕ) (at b : ℕ) → get_or bytes at 0 ≡ b → 1 ≤ b → drop at bytes ≡ b ∷ drop (at + 1) bytes
byte_first bytes at b e h =
    drop-cons bytes at 0 (inside_of bytes at (omega arith))
    ∙ ap₂ (λ (x n : ℕ). x ∷ drop n bytes) e (sym (add-one at))

first_byte : (bytes : List ℕ) (at b : ℕ) (rest : List ℕ) → drop at bytes ≡ b ∷ rest → get_or bytes at 0 ≡ b
first_byte bytes at b rest e =
    ap (λ (n : ℕ). get_or bytes n 0) (sym (add-zero at)) ∙ sym (get_or-drop at bytes 0 0) ∙ ap (λ (l : List ℕ). get_or l 0 0) e

-- ---- a name
pub stands-sound : (name bytes : List ℕ) (at : ℕ) → every (ltb 0) name ≡ true → stands_at name bytes at ≡ true
    → drop at bytes ≡ name ++ drop (at + length name) bytes
stands-sound [] bytes at p h = ap (λ (n : ℕ). drop n bytes) (sym (add-zero at))
stands-sound (b ∷ bs) bytes at p h =
    let q = every_cons (ltb 0) b bs p in
    let g = both_of (eqb (get_or bytes at 0) b) (stands_at bs bytes (at + 1)) (sym (stands_cons b bs bytes at) ∙ h) in
    let k : (at + 1) + length bs ≡ at + length (b ∷ bs) = omega arith in
    byte_first bytes at b (eqb-true (get_or bytes at 0) b g.0) (ltb-true 0 b q.0)
    ∙ ap (λ (l : List ℕ). b ∷ l) (stands-sound bs bytes (at + 1) q.1 g.1)
    ∙ ap (λ (n : ℕ). (b ∷ bs) ++ drop n bytes) k

pub stands_complete : (name bytes : List ℕ) (at : ℕ) (rest : List ℕ) → drop at bytes ≡ name ++ rest → stands_at name bytes at ≡ true
stands_complete [] bytes at rest e = stands_nil bytes at
stands_complete (b ∷ bs) bytes at rest e =
    stands_cons b bs bytes at
    ∙ both (eqb (get_or bytes at 0) b) (stands_at bs bytes (at + 1)) (eq-eqb (get_or bytes at 0) b (first_byte bytes at b (bs ++ rest) e))
    (stands_complete bs bytes (at + 1) rest (after_text bytes at (b ∷ []) (bs ++ rest) e))

-- ---- a number
-- the number v stands from `at` up to `next`
pub record Numbered (l : Line) (bytes : List ℕ) (at v next : ℕ) : Type 0 where
  pub small : v ≤ l.largest
  pub inside : next ≤ length bytes
  pub text : drop at bytes ≡ number_text l v ++ drop next bytes

module _ (l : Line) (bytes : List ℕ) (fair : Fair l) where
  text_of : (at next : ℕ) (t : Bool) (v : ℕ) → l.in_hex ≡ t → at ≤ next → part at next bytes ≡ cond t (hex v) (decimal v)
      → drop at bytes ≡ number_text l v ++ drop next bytes
  text_of at next t v e s p =
      part-split at next bytes s ∙ ap (λ (x : List ℕ). x ++ drop next bytes) (p ∙ sym (ap (λ (b : Bool). cond b (hex v) (decimal v)) e))

  pub number-sound : (at v next : ℕ) → number_at l bytes at ≡ some_number v next → Numbered l bytes at v next
  number-sound at v next e = go l.in_hex refl
    where
      go : (t : Bool) → l.in_hex ≡ t → Numbered l bytes at v next
      go true t =
          let r = number-hex l bytes at t ∙ e in
          let s = hex-sound bytes at v next r in
          record {
            small = omega (arith, hex-below bytes at v next r, fair.bits t);
            inside = s.inside;
            text = text_of at next true v t s.starts s.text;
          }
      go false t =
          let s = decimal-sound bytes at l.largest v next (omega (arith, fair.small)) (number-decimal l bytes at t ∙ e) in
          record { small = s.small; inside = s.inside; text = text_of at next false v t s.starts s.text }

  -- how a number's text begins, and how long it is
  pub number-first : (v : ℕ) → v ≤ l.largest → (1 ≤ length (number_text l v)) × (48 ≤ get_or (number_text l v) 0 0)
  number-first v h =
      let g = go l.in_hex in (g.0, g.1)
    where
      go : (t : Bool) → (1 ≤ length (cond t (hex v) (decimal v))) × (48 ≤ get_or (cond t (hex v) (decimal v)) 0 0)
      go true =
          let n = hex-length 16 v in (
            omega arith,
            ⊎_elim (λ r. omega arith) (λ r. omega arith) (hex_range (get_or (hex v) 0 0) (every-at is_hex (hex v) (hex-digits 16 v) 0 (omega arith))),
          )
      go false =
          let b : v < 10 ^ 20 = omega (arith, fair.small) in
          let n = decimal-least v b in
          (n, (digit_range (get_or (decimal v) 0 0) (every-at is_digit (decimal v) (decimal-digits v b) 0 (omega arith))).0)

  pub number_complete : (at v b : ℕ) (rest : List ℕ) → v ≤ l.largest → drop at bytes ≡ number_text l v ++ (b ∷ rest) → b < 48
      → number_at l bytes at ≡ some_number v (at + length (number_text l v))
  number_complete at v b rest h e low = go l.in_hex refl
    where
      go : (t : Bool) → l.in_hex ≡ t → number_at l bytes at ≡ some_number v (at + length (number_text l v))
      go true t =
          let w : number_text l v ≡ hex v = ap (λ (b : Bool). cond b (hex v) (decimal v)) t in
          let d : drop at bytes ≡ hex v ++ (b ∷ rest) = e ∙ ap (λ (x : List ℕ). x ++ (b ∷ rest)) w in
          let n = text-length bytes at (hex v) (b ∷ rest) d in
          sym (number-hex l bytes at t)
          ∙ hex_complete bytes at v (at + length (hex v)) (omega (arith, fair.small))
          (record { inside = omega arith; starts = omega arith; text = part-front at bytes (hex v) (b ∷ rest) d })
          ∙ ap (λ (x : List ℕ). some_number v (at + length x)) (sym w)
      go false t =
          let w : number_text l v ≡ decimal v = ap (λ (b : Bool). cond b (hex v) (decimal v)) t in
          let d : drop at bytes ≡ decimal v ++ (b ∷ rest) = e ∙ ap (λ (x : List ℕ). x ++ (b ∷ rest)) w in
          let n = text-length bytes at (decimal v) (b ∷ rest) d in
          sym (number-decimal l bytes at t)
          ∙ decimal_complete bytes at l.largest v (at + length (decimal v)) (omega (arith, fair.small))
          (record {
            inside = omega arith;
            starts = omega arith;
            text = part-front at bytes (decimal v) (b ∷ rest) d;
            small = h;
            ends = ap is_digit (behind-text bytes at (decimal v) (b ∷ rest) d) ∙ low-no-digit b low;
          })
          ∙ ap (λ (x : List ℕ). some_number v (at + length x)) (sym w)

-- ---- numbers by commas
-- the numbers vs stand from `at` up to `next`, and a newline behind them
pub record Listed (l : Line) (bytes : List ℕ) (at room : ℕ) (vs : List ℕ) (next : ℕ) : Type 0 where
  pub some : 1 ≤ length vs
  pub most : length vs ≤ room
  pub largest : (i : ℕ) → i < length vs → get_or vs i 0 ≤ l.largest
  pub inside : next ≤ length bytes
  pub text : drop at bytes ≡ (joined l vs ++ (10 ∷ [])) ++ drop next bytes

abbrev ListSays : Line → List ℕ → ℕ → ℕ → Found → Type 0
ListSays l bytes at room (found vs next) = Listed l bytes at room vs next
ListSays l bytes at room none = ◌≡◌ {A = ℕ} 0 0

joined-one : (l : Line) (v : ℕ) → joined l (v ∷ []) ≡ number_text l v
unfolding joined
joined-one l v = refl

joined-more : (l : Line) (v w : ℕ) (vs : List ℕ) → joined l (v ∷ w ∷ vs) ≡ number_text l v ++ (44 ∷ joined l (w ∷ vs))
unfolding joined
joined-more l v w vs = refl

joined_nil : (l : Line) → joined l [] ≡ []
unfolding joined
joined_nil l = refl

joined-first : (l : Line) (u : ℕ) (us rest : List ℕ) → (x : List ℕ) × (joined l (u ∷ us) ++ rest ≡ number_text l u ++ x)
joined-first l u [] rest = (rest, ap (λ (t : List ℕ). t ++ rest) (joined-one l u))
joined-first l u (w ∷ ws) rest = (
  (44 ∷ joined l (w ∷ ws)) ++ rest,
  ap (λ (t : List ℕ). t ++ rest) (joined-more l u w ws) ∙ append_assoc (number_text l u) (44 ∷ joined l (w ∷ ws)) rest,
)

all_of : (l : Line) (v : ℕ) (vs : List ℕ) → v ≤ l.largest → ((i : ℕ) → i < length vs → get_or vs i 0 ≤ l.largest)
    → (i : ℕ) → i < length (v ∷ vs) → get_or (v ∷ vs) i 0 ≤ l.largest
all_of l v vs p h zero q = p
all_of l v vs p h (suc i) q = h i (omega arith)

module _ (l : Line) (bytes : List ℕ) (fair : Fair l) where
  last_says : (at room v next : ℕ) → Numbered l bytes at v next → get_or bytes next 0 ≡ 10 → Listed l bytes at (suc room) (v ∷ []) (next + 1)
  last_says at room v next n e =
      record {
        some = omega arith;
        most = omega arith;
        largest = all_of l v [] n.small (λ i q. absurd (omega arith));
        inside = omega (arith, inside_of bytes next (omega arith));
        text = n.text ∙ ap (λ (r : List ℕ). number_text l v ++ r) (byte_first bytes next 10 e (omega arith))
            ∙ sym (append_assoc (number_text l v) (10 ∷ []) (drop (next + 1) bytes))
            ∙ ap (λ (t : List ℕ). (t ++ (10 ∷ [])) ++ drop (next + 1) bytes) (sym (joined-one l v));
      }

  more-says : (at room v next : ℕ) → Numbered l bytes at v next → get_or bytes next 0 ≡ 44 → (f : Found) → ListSays l bytes (next + 1) room f
      → ListSays l bytes at (suc room) (before v f)
  more-says at room v next n e none s = refl
  more-says at room v next n e (found [] m) s = absurd (omega (arith, s.some))
  more-says at room v next n e (found (w ∷ ws) m) s =
      record {
        some = omega arith;
        most = omega (arith, s.most);
        largest = all_of l v (w ∷ ws) n.small s.largest;
        inside = s.inside;
        text = n.text
            ∙ ap (λ (r : List ℕ). number_text l v ++ r) (byte_first bytes next 44 e (omega arith) ∙ ap (λ (r : List ℕ). 44 ∷ r) s.text)
            ∙ sym (append_assoc (number_text l v) ((44 ∷ joined l (w ∷ ws)) ++ (10 ∷ [])) (drop m bytes))
            ∙ ap (λ (t : List ℕ). t ++ drop m bytes) (sym (append_assoc (number_text l v) (44 ∷ joined l (w ∷ ws)) (10 ∷ [])))
            ∙ ap (λ (t : List ℕ). (t ++ (10 ∷ [])) ++ drop m bytes) (sym (joined-more l v w ws));
      }

  numbers_say : (room at : ℕ) → ListSays l bytes at room (numbers_from l bytes at room)
  numbers_say zero at = subst (ListSays l bytes at 0) (sym (numbers-full l bytes at)) refl
  numbers_say (suc room) at = go (number_at l bytes at) refl (λ next. numbers_say room next)
    where
      go : (d : Option Number) → number_at l bytes at ≡ d → ((next : ℕ) → ListSays l bytes next room (numbers_from l bytes next room))
          → ListSays l bytes at (suc room) (numbers_from l bytes at (suc room))
      go None e rest = subst (ListSays l bytes at (suc room)) (sym (numbers-wrong l bytes at room e)) refl
      go (Some n) e rest =
          by_byte (eqb (get_or bytes n.next 0) 10) refl (eqb (get_or bytes n.next 0) 44) refl
        where
          by_byte : (t : Bool) → eqb (get_or bytes n.next 0) 10 ≡ t → (u : Bool) → eqb (get_or bytes n.next 0) 44 ≡ u
              → ListSays l bytes at (suc room) (numbers_from l bytes at (suc room))
          by_byte true t u k =
              let b = eqb-true (get_or bytes n.next 0) 10 t in
              subst (ListSays l bytes at (suc room)) (sym (numbers-last l bytes at room n.value n.next e b))
              (last_says at room n.value n.next (number-sound l bytes fair at n.value n.next e) b)
          by_byte false t true k =
              let b = eqb-true (get_or bytes n.next 0) 44 k in
              subst (ListSays l bytes at (suc room)) (sym (numbers_more l bytes at room n.value n.next e b))
              (more-says at room n.value n.next (number-sound l bytes fair at n.value n.next e) b (numbers_from l bytes (n.next + 1) room) (rest (n.next + 1)))
          by_byte false t false k =
              subst (ListSays l bytes at (suc room))
              (sym (numbers_other l bytes at room n.value n.next e (eqb-false (get_or bytes n.next 0) 10 t) (eqb-false (get_or bytes n.next 0) 44 k))) refl

  numbers_complete : (vs : List ℕ) (v room at : ℕ) (rest : List ℕ) → length (v ∷ vs) ≤ room
      → ((i : ℕ) → i < length (v ∷ vs) → get_or (v ∷ vs) i 0 ≤ l.largest) → drop at bytes ≡ joined l (v ∷ vs) ++ (10 ∷ rest)
      → numbers_from l bytes at room ≡ found (v ∷ vs) (at + length (joined l (v ∷ vs)) + 1)
  numbers_complete vs v zero at rest p h e = absurd (omega arith)
  numbers_complete [] v (suc room) at rest p h e =
      let d : drop at bytes ≡ number_text l v ++ (10 ∷ rest) = e ∙ ap (λ (t : List ℕ). t ++ (10 ∷ rest)) (joined-one l v) in
      let n = number_complete l bytes fair at v 10 rest (h 0 (omega arith)) d (omega arith) in
      numbers-last l bytes at room v (at + length (number_text l v)) n (behind-text bytes at (number_text l v) (10 ∷ rest) d)
      ∙ ap (λ (t : List ℕ). found (v ∷ []) (at + length t + 1)) (sym (joined-one l v))
  numbers_complete (w ∷ ws) v (suc room) at rest p h e =
      let t = number_text l v in
      let j = joined l (w ∷ ws) in
      let d : drop at bytes ≡ t ++ (44 ∷ (j ++ (10 ∷ rest))) =
      e ∙ ap (λ (x : List ℕ). x ++ (10 ∷ rest)) (joined-more l v w ws) ∙ append_assoc t (44 ∷ j) (10 ∷ rest) in
      let n = number_complete l bytes fair at v 44 (j ++ (10 ∷ rest)) (h 0 (omega arith)) d (omega arith) in
      let a : drop ((at + length t) + 1) bytes ≡ j ++ (10 ∷ rest) =
      after_text bytes (at + length t) (44 ∷ []) (j ++ (10 ∷ rest)) (after_text bytes at t (44 ∷ (j ++ (10 ∷ rest))) d) in
      let k : (at + length t + 1) + length j + 1 ≡ at + length (joined l (v ∷ w ∷ ws)) + 1 =
      omega (arith, ap length (joined-more l v w ws) ∙ length-append t (44 ∷ j)) in
      numbers_more l bytes at room v (at + length t) n (behind-text bytes at t (44 ∷ (j ++ (10 ∷ rest))) d)
      ∙ ap (before v) (numbers_complete ws w room ((at + length t) + 1) rest (omega arith) (λ i q. h (suc i) (omega arith)) a)
      ∙ ap (found (v ∷ w ∷ ws)) k

  -- a list that is not empty does not begin with a newline
  no_newline : (at u : ℕ) (us rest : List ℕ) → u ≤ l.largest → drop at bytes ≡ joined l (u ∷ us) ++ rest → 48 ≤ get_or bytes at 0
  no_newline at u us rest h e =
      let g = number-first l bytes fair u h in
      let x = joined-first l u us rest in
      let b : get_or bytes at 0 ≡ get_or (number_text l u) 0 0 =
      ap (λ (n : ℕ). get_or bytes n 0) (sym (add-zero at)) ∙ sym (get_or-drop at bytes 0 0) ∙ ap (λ (t : List ℕ). get_or t 0 0) (e ∙ x.1)
      ∙ get_or-append (number_text l u) x.0 0 0 (omega arith) in
      omega arith

-- ---- a line
pub record LineStands (l : Line) (bytes : List ℕ) (from : ℕ) (vs : List ℕ) (next : ℕ) : Type 0 where
  pub right : Right l vs
  pub inside : next ≤ length bytes
  pub text : drop from bytes ≡ line_text l vs ++ drop next bytes

abbrev LineSays : Line → List ℕ → ℕ → Found → Type 0
LineSays l bytes from (found vs next) = LineStands l bytes from vs next
LineSays l bytes from none = ◌≡◌ {A = ℕ} 0 0

module _ (l : Line) (bytes : List ℕ) (fair : Fair l) (from : ℕ) where
  -- the name and what stands behind it
  named : stands_at l.name bytes from ≡ true → (vs : List ℕ) (next : ℕ)
      → drop (from + length l.name) bytes ≡ (joined l vs ++ (10 ∷ [])) ++ drop next bytes → drop from bytes ≡ line_text l vs ++ drop next bytes
  named h vs next e =
      stands-sound l.name bytes from fair.letters h ∙ ap (λ (r : List ℕ). l.name ++ r) e
      ∙ sym (append_assoc l.name (joined l vs ++ (10 ∷ [])) (drop next bytes))

  list_says : stands_at l.name bytes from ≡ true → (f : Found) → ListSays l bytes (from + length l.name) l.most f → LineSays l bytes from f
  list_says h none s = refl
  list_says h (found vs next) s =
      record {
        right = record { fewest = omega (arith, fair.few, s.some); most = s.most; largest = s.largest };
        inside = s.inside;
        text = named h vs next s.text;
      }

  empty_says : stands_at l.name bytes from ≡ true → get_or bytes (from + length l.name) 0 ≡ 10 → l.fewest ≡ 0
      → LineStands l bytes from [] (from + length l.name + 1)
  empty_says h b f =
      let at = from + length l.name in
      record {
        right = record { fewest = omega arith; most = omega arith; largest = λ i q. absurd (omega arith) };
        inside = omega (arith, inside_of bytes at (omega arith));
        text = named h [] (at + 1)
            (byte_first bytes at 10 b (omega arith) ∙ ap (λ (t : List ℕ). (t ++ (10 ∷ [])) ++ drop (at + 1) bytes) (sym (joined_nil l)));
      }

  line-says : LineSays l bytes from (line_from l bytes from)
  line-says =
      go (stands_at l.name bytes from) refl (eqb (get_or bytes (from + length l.name) 0) 10) refl (eqb l.fewest 0) refl
    where
      at : ℕ
      at = from + length l.name

      go : (t : Bool) → stands_at l.name bytes from ≡ t → (u : Bool) → eqb (get_or bytes (from + length l.name) 0) 10 ≡ u
          → (w : Bool) → eqb l.fewest 0 ≡ w → LineSays l bytes from (line_from l bytes from)
      go false t u b w f = subst (LineSays l bytes from) (sym (line-no-name l bytes from t)) refl
      go true t false b w f =
          subst (LineSays l bytes from)
          (sym (line_list l bytes from t ∙ list_numbers l bytes (from + length l.name) (eqb-false (get_or bytes (from + length l.name) 0) 10 b)))
          (list_says t (numbers_from l bytes (from + length l.name) l.most) (numbers_say l bytes fair l.most (from + length l.name)))
      go true t true b true f =
          let c = eqb-true (get_or bytes (from + length l.name) 0) 10 b in
          let g = eqb-true l.fewest 0 f in
          subst (LineSays l bytes from) (sym (line_list l bytes from t ∙ list_empty l bytes (from + length l.name) c g)) (empty_says t c g)
      go true t true b false f =
          subst (LineSays l bytes from)
          (sym (line_list l bytes from t
          ∙ list_few l bytes (from + length l.name) (eqb-true (get_or bytes (from + length l.name) 0) 10 b) (eqb-false l.fewest 0 f)))
          refl

  pub line-sound : (vs : List ℕ) (next : ℕ) → line_from l bytes from ≡ found vs next → LineStands l bytes from vs next
  line-sound vs next e = subst (LineSays l bytes from) e line-says

  pub line_complete : (vs rest : List ℕ) → Right l vs → drop from bytes ≡ line_text l vs ++ rest
      → line_from l bytes from ≡ found vs (from + length (line_text l vs))
  line_complete vs rest r e =
      line_list l bytes from (stands_complete l.name bytes from ((joined l vs ++ (10 ∷ [])) ++ rest) d) ∙ by-numbers vs r a
      ∙ ap (found vs) k
    where
      d : drop from bytes ≡ l.name ++ ((joined l vs ++ (10 ∷ [])) ++ rest)
      d = e ∙ append_assoc l.name (joined l vs ++ (10 ∷ [])) rest

      a : drop (from + length l.name) bytes ≡ joined l vs ++ (10 ∷ rest)
      a = after_text bytes from l.name ((joined l vs ++ (10 ∷ [])) ++ rest) d ∙ append_assoc (joined l vs) (10 ∷ []) rest

      k : from + length l.name + length (joined l vs) + 1 ≡ from + length (line_text l vs)
      k = omega (arith, length-append l.name (joined l vs ++ (10 ∷ [])), length-append (joined l vs) (10 ∷ []))

      by-numbers : (us : List ℕ) → Right l us → drop (from + length l.name) bytes ≡ joined l us ++ (10 ∷ rest)
          → list_from l bytes (from + length l.name) ≡ found us (from + length l.name + length (joined l us) + 1)
      by-numbers [] q b =
          let c : drop (from + length l.name) bytes ≡ 10 ∷ rest = b ∙ ap (λ (t : List ℕ). t ++ (10 ∷ rest)) (joined_nil l) in
          list_empty l bytes (from + length l.name) (first_byte bytes (from + length l.name) 10 rest c) (omega (arith, q.fewest))
          ∙ ap (found []) (omega (arith, ap length (joined_nil l)))
      by-numbers (u ∷ us) q b =
          list_numbers l bytes (from + length l.name)
          (λ z. absurd (omega (arith, no_newline l bytes fair (from + length l.name) u us (10 ∷ rest) (q.largest 0 (omega arith)) b)))
          ∙ numbers_complete l bytes fair us u l.most (from + length l.name) rest q.most q.largest b
