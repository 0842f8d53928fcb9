-- Laws of lists that the texts want: a test that every byte passes, a part, and a text put into a list. Assumes nothing.
use mathlib.Core.Path.{◌≡◌, refl, sym, ap, ◌∙◌}
use mathlib.Core.Bool.{Bool, true}
use mathlib.Core.List.{List, [], ◌∷◌, ◌++◌, append_assoc}
use Prim.Native.Nat.{ℕ, zero, suc, ◌+◌, ◌-◌, ◌≤◌, ◌<◌}
use native.Mathlib.Omega.{arith}
use lib.ListN.{length, get_or, set, take, drop, length-append, length-drop, take-append-drop}
use lib.Seq.{length-take-le, take_at, drop_at, set_at, drop-cons, drop-drop, get_or-drop}
use Rattle.digits.specs.Digits.{every, part}
use Rattle.digits.specs.Placed.{put}
use Rattle.digits.proofs.Bytes.{both, both_of}

-- ---- every byte
pub every_append : (f : ℕ → Bool) (xs ys : List ℕ) → every f xs ≡ true → every f ys ≡ true → every f (xs ++ ys) ≡ true
unfolding every
every_append f [] ys p q = q
every_append f (x ∷ xs) ys p q =
    let g = both_of (f x) (every f xs) p in
    both (f x) (every f (xs ++ ys)) g.0 (every_append f xs ys g.1 q)

pub every_one : (f : ℕ → Bool) (x : ℕ) → f x ≡ true → every f (x ∷ []) ≡ true
unfolding every
every_one f x p = both (f x) true p refl

pub every_cons : (f : ℕ → Bool) (x : ℕ) (xs : List ℕ) → every f (x ∷ xs) ≡ true → (f x ≡ true) × (every f xs ≡ true)
unfolding every
every_cons f x xs p = both_of (f x) (every f xs) p

-- the same byte by byte
pub every-at : (f : ℕ → Bool) (xs : List ℕ) → every f xs ≡ true → (i : ℕ) → i < length xs → f (get_or xs i 0) ≡ true
every-at f [] p i h = absurd (omega arith)
every-at f (x ∷ xs) p zero h = (every_cons f x xs p).0
every-at f (x ∷ xs) p (suc i) h = every-at f xs (every_cons f x xs p).1 i (omega arith)

-- ---- a part whose text is known
pub part-front : (from : ℕ) (bytes text rest : List ℕ) → drop from bytes ≡ text ++ rest → part from (from + length text) bytes ≡ text
part-front from bytes text rest e =
    let k : (from + length text) - from ≡ length text = omega arith in
    ap (λ (n : ℕ). take n (drop from bytes)) k ∙ ap (take (length text)) e ∙ take_at text rest (length text) refl

pub part-split : (from next : ℕ) (bytes : List ℕ) → from ≤ next → drop from bytes ≡ part from next bytes ++ drop next bytes
part-split from next bytes h =
    let k : from + (next - from) ≡ next = omega arith in
    sym (take-append-drop (next - from) (drop from bytes))
    ∙ ap (λ (r : List ℕ). part from next bytes ++ r) (drop-drop (next - from) from bytes ∙ ap (λ (n : ℕ). drop n bytes) k)

pub part_length : (from next : ℕ) (bytes : List ℕ) → from ≤ next → next ≤ length bytes → length (part from next bytes) ≡ next - from
part_length from next bytes p q = length-take-le (next - from) (drop from bytes) (rw length-drop (omega arith))

-- ---- a text put into a list
module _ (text : List ℕ) (at : ℕ) (out : List ℕ) (fits : at + length text ≤ length out) where
  head-length : length (take at out) ≡ at
  head-length = length-take-le at out (omega arith)

  pub put-length : length (put text at out) ≡ length out
  put-length =
      length-append (take at out) (text ++ drop (at + length text) out)
      ∙ omega (arith, head-length, length-append text (drop (at + length text) out), length-drop (at + length text) out)

  pub put-drop : drop at (put text at out) ≡ text ++ drop (at + length text) out
  put-drop = drop_at (take at out) (text ++ drop (at + length text) out) at head-length

  pub put-part : part at (at + length text) (put text at out) ≡ text
  put-part = part-front at (put text at out) text (drop (at + length text) out) put-drop

  -- what stands behind the text is what stood there before
  pub put-behind : drop (at + length text) (put text at out) ≡ drop (at + length text) out
  put-behind =
      sym (drop-drop (length text) at (put text at out)) ∙ ap (drop (length text)) put-drop
      ∙ drop_at text (drop (at + length text) out) (length text) refl

  pub put_next : get_or (put text at out) (at + length text) 0 ≡ get_or out (at + length text) 0
  put_next =
      at_drop (put text at out) ∙ ap (λ (l : List ℕ). get_or l 0 0) put-behind ∙ sym (at_drop out)
    where
      at_drop : (l : List ℕ) → get_or l (at + length text) 0 ≡ get_or (drop (at + length text) l) 0 0
      at_drop l =
          let k : (at + length text) ≡ (at + length text) + 0 = omega arith in
          ap (λ (n : ℕ). get_or l n 0) k ∙ sym (get_or-drop (at + length text) l 0 0)

-- a text put where it stands already changes nothing
pub put_same : (from next : ℕ) (bytes text : List ℕ) → from ≤ next → next ≤ length bytes → part from next bytes ≡ text → put text from bytes ≡ bytes
put_same from next bytes text p q e =
    let k : from + length text ≡ next = omega (arith, part_length from next bytes p q, ap length e) in
    ap (λ (n : ℕ). take from bytes ++ (text ++ drop n bytes)) k
    ∙ ap (λ (t : List ℕ). take from bytes ++ (t ++ drop next bytes)) (sym e)
    ∙ ap (λ (r : List ℕ). take from bytes ++ r) (sym (part-split from next bytes p))
    ∙ take-append-drop from bytes

-- one byte more: a text is put, and the byte behind it is set
pub put-more : (text : List ℕ) (at : ℕ) (out : List ℕ) (b : ℕ) → at + length text < length out
    → set (put text at out) (at + length text) b ≡ put (text ++ (b ∷ [])) at out
put-more text at out b h =
    let n = at + length text in
    let hn : length (take at out ++ text) ≡ n = length-append (take at out) text ∙ ap (λ (k : ℕ). k + length text) (length-take-le at out (omega arith)) in
    let m : suc n ≡ at + length (text ++ (b ∷ [])) = omega (arith, length-append text (b ∷ [])) in
    ap (λ (r : List ℕ). set (take at out ++ (text ++ r)) n b) (drop-cons out n 0 h)
    ∙ ap (λ (l : List ℕ). set l n b) (sym (append_assoc (take at out) text (get_or out n 0 ∷ drop (suc n) out)))
    ∙ set_at (take at out ++ text) (get_or out n 0) (drop (suc n) out) b n hn
    ∙ append_assoc (take at out) text (b ∷ drop (suc n) out)
    ∙ ap (λ (r : List ℕ). take at out ++ r) (sym (append_assoc text (b ∷ []) (drop (suc n) out)))
    ∙ ap (λ (k : ℕ). take at out ++ ((text ++ (b ∷ [])) ++ drop k out)) m
