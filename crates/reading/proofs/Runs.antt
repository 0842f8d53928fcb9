-- What `read_run` finds, both ways: a run file's numbers exactly where the bytes are that run file, and a line at fault exactly where it is the
-- first one. Assumes nothing.
use mathlib.Core.Path.{◌≡◌, refl, sym, ap, ap₂, subst, ◌∙◌}
use mathlib.Core.Logic.{◌⊎◌, ⊎_elim}
use mathlib.Core.Bool.{Bool, true, false, cond}
use mathlib.Core.List.{List, [], ◌∷◌, ◌++◌, append_assoc, append-nil}
use Prim.Native.Nat.{ℕ, zero, suc, ◌+◌, ◌≤◌, ◌<◌}
use native.Mathlib.Nat.{eq-or-lt_of_le, le_of_suc-le-suc}
use native.Mathlib.Omega.{arith}
use borrow.Author.Tests.{eqb-true, eqb-false, eq-eqb, ne_eqb, ltb-true, ltb-false}
use lib.Dec.{eqb, ltb}
use lib.ListN.{length, drop, length-append, length-drop, drop_of_length-le}
use lib.Seq.{drop_at, get_or-set_other}
use Rattle.reading.specs.Grammar.{bytes_most, RunNumbers, Line, Right, RightLines, IsRun, numbers_at, line_at, line_count, line_text, text_up_to}
use Rattle.reading.specs.Fault.{Begins, NoLine, FirstFault, wrong, extra, large}
use Rattle.reading.specs.ReadLine.{Found, found, none, line_from}
use Rattle.reading.specs.ReadRun.{Read, run, fault, one, read_lines, read_run}
use Rattle.reading.proofs.Lines.{LineStands, line-sound, line_complete}
use Rattle.reading.proofs.Rest.{each_line, fair, rest_at, rest-start, rest-found, rest-none, rest_end, few_bytes, many_bytes}

-- ---- texts of some lines
text-none : (f : RunNumbers) → text_up_to f 0 ≡ []
unfolding text_up_to
text-none f = refl

text-more : (f : RunNumbers) (i : ℕ) → text_up_to f (suc i) ≡ text_up_to f i ++ line_text (line_at i) (numbers_at f i)
unfolding text_up_to
text-more f i = refl

-- the place of line i
abbrev place : RunNumbers → ℕ → ℕ
place f i = length (text_up_to f i)

place-more : (f : RunNumbers) (i : ℕ) → place f i + length (line_text (line_at i) (numbers_at f i)) ≡ place f (suc i)
place-more f i = sym (ap length (text-more f i) ∙ length-append (text_up_to f i) (line_text (line_at i) (numbers_at f i)))

up_to : (i m : ℕ) → i < suc m → (i ≡ m) ⊎ (i < m)
up_to i m h = eq-or-lt_of_le (le_of_suc-le-suc h)

-- line i stands in the text of more lines
stands_in : (f : RunNumbers) (i m : ℕ) → i < m → (x : List ℕ) × (text_up_to f m ≡ text_up_to f i ++ (line_text (line_at i) (numbers_at f i) ++ x))
stands_in f i zero h = absurd (omega arith)
stands_in f i (suc m) h = ⊎_elim (λ e. last e) (λ l. before (stands_in f i m l)) (up_to i m h)
  where
    last : i ≡ m → (x : List ℕ) × (text_up_to f (suc m) ≡ text_up_to f i ++ (line_text (line_at i) (numbers_at f i) ++ x))
    last e = (
      [],
      ap (λ (k : ℕ). text_up_to f (suc k)) (sym e) ∙ text-more f i
          ∙ ap (λ (t : List ℕ). text_up_to f i ++ t) (sym (append-nil (line_text (line_at i) (numbers_at f i)))),
    )

    before : (x : List ℕ) × (text_up_to f m ≡ text_up_to f i ++ (line_text (line_at i) (numbers_at f i) ++ x))
        → (x : List ℕ) × (text_up_to f (suc m) ≡ text_up_to f i ++ (line_text (line_at i) (numbers_at f i) ++ x))
    before s =
        let t = line_text (line_at i) (numbers_at f i) in
        let u = line_text (line_at m) (numbers_at f m) in (
          s.0 ++ u,
          text-more f m ∙ ap (λ (l : List ℕ). l ++ u) s.1 ∙ append_assoc (text_up_to f i) (t ++ s.0) u
              ∙ ap (λ (l : List ℕ). text_up_to f i ++ l) (append_assoc t s.0 u),
        )

-- ---- m right lines are read as what they are
module _ (bytes : List ℕ) (f : RunNumbers) (m : ℕ) (rest : List ℕ)
    (count : m ≤ line_count) (right : RightLines f m) (text : bytes ≡ text_up_to f m ++ rest) where
  line-found : (i : ℕ) → i < m → line_from (line_at i) bytes (place f i) ≡ found (numbers_at f i) (place f (suc i))
  line-found i h =
      let s = stands_in f i m h in
      let t = line_text (line_at i) (numbers_at f i) in
      let d : drop (place f i) bytes ≡ t ++ (s.0 ++ rest) =
      ap (drop (place f i)) (text ∙ ap (λ (l : List ℕ). l ++ rest) s.1 ∙ append_assoc (text_up_to f i) (t ++ s.0) rest)
      ∙ drop_at (text_up_to f i) ((t ++ s.0) ++ rest) (place f i) refl ∙ append_assoc t s.0 rest in
      line_complete (line_at i) bytes (fair i (omega arith)) (place f i) (numbers_at f i) (s.0 ++ rest) (right i h) d
      ∙ ap (found (numbers_at f i)) (place-more f i)

  read_up_to : (i : ℕ) → i ≤ m → read_lines bytes ≡ rest_at bytes f (place f i) i
  read_up_to zero h = rest-start bytes f ∙ ap (λ (l : List ℕ). rest_at bytes f (length l) 0) (sym (text-none f))
  read_up_to (suc i) h =
      read_up_to i (omega arith)
      ∙ rest-found bytes f i (omega arith) (place f i) (numbers_at f i) (place f (suc i)) (line-found i (omega arith)) refl

  behind-lines : drop (place f m) bytes ≡ rest
  behind-lines = ap (drop (place f m)) text ∙ drop_at (text_up_to f m) rest (place f m) refl

pub run_complete : (bytes : List ℕ) (f : RunNumbers) → IsRun bytes f → read_run bytes ≡ run f
run_complete bytes f r =
    let t : bytes ≡ text_up_to f line_count ++ [] = r.text ∙ sym (append-nil (text_up_to f line_count)) in
    let n : place f line_count ≡ length bytes = sym (ap length r.text) in
    few_bytes bytes r.small ∙ read_up_to bytes f line_count [] (omega arith) r.right t line_count (omega arith)
    ∙ rest_end bytes f (place f line_count)
    ∙ ap (λ (b : Bool). cond b (run f) (fault 8)) (eq-eqb (place f line_count) (length bytes) n)

no_line : (bytes : List ℕ) (i at : ℕ) → i < line_count → NoLine i (drop at bytes) → line_from (line_at i) bytes at ≡ none
no_line bytes i at h absent = go (line_from (line_at i) bytes at) refl
  where
    go : (F : Found) → line_from (line_at i) bytes at ≡ F → F ≡ none
    go none e = refl
    go (found vs next) e = let s = line-sound (line_at i) bytes (fair i h) at vs next e in absurd (absent vs (drop next bytes) s.right s.text)

pub fault_complete : (bytes : List ℕ) (k : ℕ) → FirstFault bytes k → read_run bytes ≡ fault k
fault_complete bytes k (large h) = many_bytes bytes h
fault_complete bytes k (wrong i rest h b absent) =
    let f = b.numbers in
    few_bytes bytes b.small ∙ read_up_to bytes f i rest (omega arith) b.right b.text i (omega arith)
    ∙ rest-none bytes f i h (place f i)
    (no_line bytes i (place f i) h (λ vs after r e. absent vs after r (sym (behind-lines bytes f i rest (omega arith) b.right b.text) ∙ e)))
fault_complete bytes k (extra rest b some) =
    let f = b.numbers in
    let n : length bytes ≡ place f line_count + length rest = ap length b.text ∙ length-append (text_up_to f line_count) rest in
    few_bytes bytes b.small ∙ read_up_to bytes f line_count rest (omega arith) b.right b.text line_count (omega arith)
    ∙ rest_end bytes f (place f line_count)
    ∙ ap (λ (t : Bool). cond t (run f) (fault 8)) (ne_eqb (place f line_count) (length bytes) (λ e. some (no_length rest (omega arith))))
  where
    no_length : (l : List ℕ) → length l ≡ 0 → l ≡ []
    no_length [] h = refl
    no_length (x ∷ xs) h = absurd (omega arith)

-- ---- the other way: what is read is so
-- f with the numbers of line i
record Put (f g : RunNumbers) (i : ℕ) (vs : List ℕ) : Type 0 where
  here : numbers_at g i ≡ vs
  others : (j : ℕ) → (j ≡ i → ⊥) → numbers_at g j ≡ numbers_at f j
  rest : (bytes : List ℕ) (at : ℕ) → rest_at bytes f at i ≡ rest_at bytes g at i

abbrev lists_of : RunNumbers → List (List ℕ)
lists_of f = (f.d ∷ []) ∷ (f.rounds ∷ []) ∷ (f.degree ∷ []) ∷ (f.seed_std ∷ []) ∷ f.starts ∷ f.columns ∷ f.values ∷ []

-- the only number of a line
only : (l : Line) (vs : List ℕ) → 1 ≤ l.fewest → l.most ≤ 1 → Right l vs → one vs ∷ [] ≡ vs
only l [] p q r = absurd (omega (arith, r.fewest))
only l (v ∷ []) p q r = refl
only l (v ∷ w ∷ vs) p q r = absurd (omega (arith, r.most))

-- g is f but for line i
put : (f : RunNumbers) (i : ℕ) → i < line_count → (vs : List ℕ) → Right (line_at i) vs → (g : RunNumbers) × Put f g i vs
put f =
    each_line (λ i. (vs : List ℕ) → Right (line_at i) vs → (g : RunNumbers) × Put f g i vs)
    (λ vs r. (
      record { d = one vs; rounds = f.rounds; degree = f.degree; seed_std = f.seed_std; starts = f.starts; columns = f.columns; values = f.values },
      record { here = only (line_at 0) vs (omega arith) (omega arith) r; others = λ j e. get_or-set_other (lists_of f) 0 j (one vs ∷ []) [] e; rest = λ bytes at. refl },
    ))
    (λ vs r. (
      record { d = f.d; rounds = one vs; degree = f.degree; seed_std = f.seed_std; starts = f.starts; columns = f.columns; values = f.values },
      record { here = only (line_at 1) vs (omega arith) (omega arith) r; others = λ j e. get_or-set_other (lists_of f) 1 j (one vs ∷ []) [] e; rest = λ bytes at. refl },
    ))
    (λ vs r. (
      record { d = f.d; rounds = f.rounds; degree = one vs; seed_std = f.seed_std; starts = f.starts; columns = f.columns; values = f.values },
      record { here = only (line_at 2) vs (omega arith) (omega arith) r; others = λ j e. get_or-set_other (lists_of f) 2 j (one vs ∷ []) [] e; rest = λ bytes at. refl },
    ))
    (λ vs r. (
      record { d = f.d; rounds = f.rounds; degree = f.degree; seed_std = one vs; starts = f.starts; columns = f.columns; values = f.values },
      record { here = only (line_at 3) vs (omega arith) (omega arith) r; others = λ j e. get_or-set_other (lists_of f) 3 j (one vs ∷ []) [] e; rest = λ bytes at. refl },
    ))
    (λ vs r. (
      record { d = f.d; rounds = f.rounds; degree = f.degree; seed_std = f.seed_std; starts = vs; columns = f.columns; values = f.values },
      record { here = refl; others = λ j e. get_or-set_other (lists_of f) 4 j vs [] e; rest = λ bytes at. refl },
    ))
    (λ vs r. (
      record { d = f.d; rounds = f.rounds; degree = f.degree; seed_std = f.seed_std; starts = f.starts; columns = vs; values = f.values },
      record { here = refl; others = λ j e. get_or-set_other (lists_of f) 5 j vs [] e; rest = λ bytes at. refl },
    ))
    (λ vs r. (
      record { d = f.d; rounds = f.rounds; degree = f.degree; seed_std = f.seed_std; starts = f.starts; columns = f.columns; values = vs },
      record { here = refl; others = λ j e. get_or-set_other (lists_of f) 6 j vs [] e; rest = λ bytes at. refl },
    ))

-- lines that are the same have the same text
same_text : (f g : RunNumbers) (i : ℕ) → ((j : ℕ) → j < i → numbers_at g j ≡ numbers_at f j) → text_up_to f i ≡ text_up_to g i
same_text f g zero h = text-none f ∙ sym (text-none g)
same_text f g (suc i) h =
    text-more f i
    ∙ ap₂ (λ (t : List ℕ) (vs : List ℕ). t ++ line_text (line_at i) vs) (same_text f g i (λ j q. h j (omega arith))) (sym (h i (omega arith)))
    ∙ sym (text-more g i)

-- i lines are read, with the numbers of f, and the reader has come to `at`
record Come (bytes : List ℕ) (f : RunNumbers) (i at : ℕ) : Type 0 where
  right : RightLines f i
  inside : at ≤ length bytes
  text : bytes ≡ text_up_to f i ++ drop at bytes

come_more : (bytes : List ℕ) (f g : RunNumbers) (i at : ℕ) (vs : List ℕ) (next : ℕ) → Put f g i vs → LineStands (line_at i) bytes at vs next
    → Come bytes f i at → Come bytes g (suc i) next
come_more bytes f g i at vs next p s c =
    record {
      right = λ j h. ⊎_elim (λ e. subst (λ (k : ℕ). Right (line_at k) (numbers_at g k)) (sym e) (subst (Right (line_at i)) (sym p.here) s.right))
          (λ l. subst (Right (line_at j)) (sym (p.others j (λ e. absurd (omega arith)))) (c.right j l)) (up_to j i h);
      inside = s.inside;
      text = c.text ∙ ap₂ (λ (a b : List ℕ). a ++ b) (same_text f g i (λ j h. p.others j (λ e. absurd (omega arith)))) s.text
          ∙ sym (append_assoc (text_up_to g i) (line_text (line_at i) vs) (drop next bytes))
          ∙ ap (λ (ws : List ℕ). (text_up_to g i ++ line_text (line_at i) ws) ++ drop next bytes) (sym p.here)
          ∙ ap (λ (t : List ℕ). t ++ drop next bytes) (sym (text-more g i));
    }

abbrev Says : List ℕ → Read → Type 0
Says bytes (run f) = IsRun bytes f
Says bytes (fault k) = FirstFault bytes k

module _ (bytes : List ℕ) (small : length bytes ≤ bytes_most) where
  begun : (f : RunNumbers) (i at : ℕ) → Come bytes f i at → Begins bytes i (drop at bytes)
  begun f i at c = record { small = small; numbers = f; right = c.right; text = c.text }

  says_end : (f : RunNumbers) (at : ℕ) → Come bytes f line_count at → Says bytes (rest_at bytes f at line_count)
  says_end f at c = subst (Says bytes) (sym (rest_end bytes f at)) (go (eqb at (length bytes)) refl)
    where
      go : (t : Bool) → eqb at (length bytes) ≡ t → Says bytes (cond t (run f) (fault 8))
      go true e =
          let n : at ≡ length bytes = eqb-true at (length bytes) e in
          record {
            small = small;
            right = c.right;
            text = c.text ∙ ap (λ (l : List ℕ). text_up_to f line_count ++ l) (drop_of_length-le bytes {i = at} (omega arith))
                ∙ append-nil (text_up_to f line_count);
          }
      go false e =
          extra (drop at bytes) (begun f line_count at c)
          (λ z. eqb-false at (length bytes) e (omega (arith, c.inside, ap length z, length-drop at bytes)))

  says_none : (f : RunNumbers) (i at : ℕ) → i < line_count → Come bytes f i at → line_from (line_at i) bytes at ≡ none
      → Says bytes (rest_at bytes f at i)
  says_none f i at h c e =
      subst (Says bytes) (sym (rest-none bytes f i h at e))
      (wrong i (drop at bytes) h (begun f i at c)
      (λ vs after r t. let q = sym e ∙ line_complete (line_at i) bytes (fair i h) at vs after r t in let z : ◌≡◌ {A = ℕ} 0 1 = cc in omega arith))

  says : (n i : ℕ) → n + i ≡ line_count → (f : RunNumbers) (at : ℕ) → Come bytes f i at → Says bytes (rest_at bytes f at i)
  says zero i e f at c =
      let k : line_count ≡ i = omega arith in
      subst (λ (j : ℕ). Come bytes f j at → Says bytes (rest_at bytes f at j)) k (says_end f at) c
  says (suc n) i e f at c =
      go (line_from (line_at i) bytes at) refl (λ g next d. says n (suc i) (omega arith) g next d)
    where
      below : i < line_count
      below = omega arith

      go : (F : Found) → line_from (line_at i) bytes at ≡ F
          → ((g : RunNumbers) (next : ℕ) → Come bytes g (suc i) next → Says bytes (rest_at bytes g next (suc i))) → Says bytes (rest_at bytes f at i)
      go none h rec = says_none f i at below c h
      go (found vs next) h rec =
          let s = line-sound (line_at i) bytes (fair i below) at vs next h in
          let p = put f i below vs s.right in
          subst (Says bytes) (sym (p.1.rest bytes at ∙ rest-found bytes p.0 i below at vs next h p.1.here))
          (rec p.0 next (come_more bytes f p.0 i at vs next p.1 s c))

no-numbers : RunNumbers
no-numbers = record { d = 0; rounds = 0; degree = 0; seed_std = 0; starts = []; columns = []; values = [] }

says_all : (bytes : List ℕ) → Says bytes (read_run bytes)
says_all bytes = go (ltb bytes_most (length bytes)) refl
  where
    go : (t : Bool) → ltb bytes_most (length bytes) ≡ t → Says bytes (read_run bytes)
    go true e = let h = ltb-true bytes_most (length bytes) e in subst (Says bytes) (sym (many_bytes bytes h)) (large h)
    go false e =
        let h = ltb-false bytes_most (length bytes) e in
        subst (Says bytes) (sym (few_bytes bytes h ∙ rest-start bytes no-numbers))
        (says bytes h line_count 0 (omega arith) no-numbers 0
        (record {
          right = λ i q. absurd (omega arith);
          inside = omega arith;
          text = ap (λ (t : List ℕ). t ++ bytes) (sym (text-none no-numbers));
        }))

pub run_sound : (bytes : List ℕ) (f : RunNumbers) → read_run bytes ≡ run f → IsRun bytes f
run_sound bytes f e = subst (Says bytes) e (says_all bytes)

pub fault-sound : (bytes : List ℕ) (k : ℕ) → read_run bytes ≡ fault k → FirstFault bytes k
fault-sound bytes k e = subst (Says bytes) e (says_all bytes)
