-- The keys of entries: an entry whose key no other has is none of those. And the first entries of a text, with one more line. Assumes nothing.
use mathlib.Core.Path.{◌≡◌, refl, sym, ap, ◌∙◌}
use mathlib.Core.Bool.{false, ◌||◌, false≢true}
use mathlib.Core.List.{List, [], ◌∷◌, ◌++◌, append_assoc}
use Prim.Native.Nat.{ℕ, zero, suc, ◌-◌}
use native.Mathlib.Numerals.{sub-one}
use native.Mathlib.Omega.{arith}
use borrow.Author.Tests.{eq-eqb}
use lib.Dec.{eqb}
use lib.ListN.{length, take}
use lib.Seq.{take_at, take-nil}
use Rattle.digits.proofs.Bytes.{left_or, right_or, neither, settle}
use Rattle.lines.specs.Lines.{holds}
use Rattle.lines.specs.Kinds.{kinds_at}
use Rattle.lines.specs.declared.Kind.{Kind}
use Rattle.lines.specs.declared.Kind.TheVariants as K
use Rattle.market.specs.Market.{Entry, is, has}
use Rattle.market.specs.Passes.{entries_in}
use Rattle.market.proofs.Right.{entry, is-no}
use Rattle.repeated.specs.Blocks.{hits, adding, first_of}
use Rattle.repeated.specs.Tables.{key_of, keys_of}

keys_more : (es : List Entry) (r c : ℕ) → keys_of (es ++ (entry r c ∷ [])) ≡ keys_of es ++ (key_of r c ∷ [])
unfolding keys_of
keys_more [] r c = refl
keys_more (e ∷ es) r c = ap (λ (l : List ℕ). key_of e.row e.column ∷ l) (keys_more es r c)

keys_length : (es : List Entry) → length (keys_of es) ≡ length es
unfolding keys_of
keys_length [] = refl
keys_length (e ∷ es) = omega (arith, keys_length es)

lacks_key : (es : List Entry) (r c : ℕ) → holds (key_of r c) (keys_of es) ≡ false → has es r c ≡ false
unfolding keys_of holds has
lacks_key [] r c h = refl
lacks_key (e ∷ es) r c h =
    neither _ _
    (is-no e r c (λ p q. false≢true (sym h ∙ left_or _ _ (eq-eqb (key_of e.row e.column) (key_of r c) (rw (p, q))))))
    (lacks_key es r c (settle _ (λ t. false≢true (sym h ∙ right_or (eqb (key_of e.row e.column) (key_of r c)) _ t))))

-- ---- one more line

line-more : (seen : List Entry) (x : Kind) (ks : List Kind) → seen ++ entries_in (x ∷ ks) ≡ adding seen x ++ entries_in ks
unfolding entries_in adding
line-more seen K.Blank ks = refl
line-more seen K.Comment ks = refl
line-more seen (K.Entry r c) ks = sym (append_assoc seen (entry r c ∷ []) (entries_in ks))
line-more seen (K.Size r c m) ks = refl
line-more seen K.Other ks = refl

pub record FirstMore (text : List ℕ) (from next count : ℕ) (seen : List Entry) : Type 0 where
  pub first : first_of text from count ≡ seen
  pub whole : entries_in (kinds_at text from) ≡ seen ++ entries_in (kinds_at text next)

-- as many keys are stored as there are entries up to the line's
pub first_more : (text : List ℕ) (from at next : ℕ) (seen : List Entry) (x : Kind) (kept : List ℕ)
    → entries_in (kinds_at text from) ≡ seen ++ entries_in (kinds_at text at) → kinds_at text at ≡ x ∷ kinds_at text next
    → kept ≡ keys_of (adding seen x) → FirstMore text from next (length kept) (adding seen x)
first_more text from at next seen x kept w l s =
    let n : length (adding seen x) ≡ length kept = sym (keys_length (adding seen x)) ∙ ap length (sym s) in
    let e : entries_in (kinds_at text from) ≡ adding seen x ++ entries_in (kinds_at text next) =
    w ∙ ap (λ (ks : List Kind). seen ++ entries_in ks) l ∙ line-more seen x (kinds_at text next) in
    record { first = ap (take (length kept)) e ∙ take_at (adding seen x) (entries_in (kinds_at text next)) (length kept) n; whole = e }

-- ---- the first entries, read again: of those from a place on, `left` count

pub again_none : (left r c : ℕ) {es : List Entry} → es ≡ [] → has (take left es) r c ≡ false
unfolding has
again_none left r c e = rw (e, take-nil {A = Entry} left)

pub again_over : (left r c : ℕ) (es : List Entry) → left ≡ 0 → has (take left es) r c ≡ false
unfolding has
again_over left r c es e = rw e

pub again_here : (left r c : ℕ) {a b : ℕ} {es rest : List Entry} → es ≡ entry a b ∷ rest → (left ≡ 0 → ⊥)
    → has (take left es) r c ≡ (is (entry a b) r c || has (take (left - 1) rest) r c)
unfolding has
again_here zero r c e h = absurd (h refl)
again_here (suc n) r c e h = rw (e, sub-one (suc n))

-- ---- an entry's line: its key is stored, or is none of those that are

module _ (seen : List Entry) (kept : List ℕ) {x : Kind} {r c key : ℕ} (k : x ≡ K.Entry r c) (e : key ≡ key_of r c) (held : kept ≡ keys_of seen) where
  pub line_kept : {more : List ℕ} → more ≡ kept ++ (key ∷ []) → more ≡ keys_of (adding seen x)
  unfolding adding
  line_kept m = m ∙ rw (held, e, k) (sym (keys_more seen r c))

  pub line_new : holds key kept ≡ false → hits seen x ≡ false
  unfolding hits
  line_new h = rw k (lacks_key seen r c (rw (← e, ← held) h))
