-- Laws of the arrays that the numbers are stored in: zeros behind them, and their copies as columns and as floats. Assumes nothing.
use mathlib.Core.Path.{◌≡◌, refl, sym, ap, ap₂, ◌∙◌}
use mathlib.Core.List.{List, [], ◌∷◌, ◌++◌}
use Prim.Native.Nat.{ℕ, zero, suc, ◌+◌, ◌-◌, ◌≤◌, ◌<◌}
use native.Mathlib.Nat.{sub-zero}
use native.Mathlib.Numerals.{add-one}
use native.Mathlib.Omega.{arith}
use lib.Ieee.{Float, of_bits, binary64}
use lib.ListN.{length, get_or, take, drop, set, replicate}
use lib.Seq.{take-suc, take-suc-set, take_all}
use Rattle.reading.specs.ReadLine.{Found, found, none}
use Rattle.reading.specs.ReadRun.{padded, floats_of}
use Rattle.reading.specs.Parts.{Reads}
use Rattle.std.specs.Prelude.{Option, Some, None}
use Rattle.reading.specs.declared.Counted.{Counted}
use Rattle.reading.proofs.Steps.{some_counted, same_counted}

-- ---- zeros
abbrev zeros : ℕ → List ℕ
zeros m = replicate m 0

drop-zeros : (n m : ℕ) → drop n (zeros m) ≡ zeros (m - n)
drop-zeros zero m = ap zeros (sym (sub-zero m))
drop-zeros (suc n) zero = let k : 0 ≡ 0 - suc n = omega arith in ap zeros k
drop-zeros (suc n) (suc m) = let k : m - n ≡ suc m - suc n = omega arith in drop-zeros n m ∙ ap zeros k

zero-at : (m i : ℕ) → get_or (zeros m) i 0 ≡ 0
zero-at zero i = refl
zero-at (suc m) zero = refl
zero-at (suc m) (suc i) = zero-at m i

pub padded-below : (most m : ℕ) (vs : List ℕ) → ((i : ℕ) → i < length vs → get_or vs i 0 ≤ most) → (i : ℕ) → get_or (vs ++ zeros m) i 0 ≤ most
padded-below most m [] h i = omega (arith, zero-at m i)
padded-below most m (v ∷ vs) h zero = h 0 (omega arith)
padded-below most m (v ∷ vs) h (suc i) = padded-below most m vs (λ j q. h (suc j) (omega arith)) i

-- ---- what a line leaves in an array of m zeros
pub record Taken (F : Found) (m count next : ℕ) (after : List ℕ) : Type 0 where
  pub numbers : List ℕ
  pub is : F ≡ found numbers next
  pub counted : count ≡ length numbers
  pub stored : after ≡ padded m numbers

pub taken : (F : Found) (m : ℕ) (answer : Option Counted) (after : List ℕ) (line : Counted) → Reads F (zeros m) answer after
    → answer ≡ Some line → Taken F m line.count line.next after
taken (found vs n) m answer after line s e =
    let k = same_counted (length vs) n line.count line.next (sym s.answered ∙ e) in
    record {
      numbers = vs;
      is = ap (found vs) k.1;
      counted = sym k.0;
      stored = s.numbers vs n refl ∙ ap (λ (l : List ℕ). vs ++ l) (drop-zeros (length vs) m);
    }
taken none m answer after line s e =
    let k : None ≡ Some line = sym s.answered ∙ e in
    let z : ◌≡◌ {A = ℕ} 0 1 = cc in absurd (omega arith)

pub not_taken : (F : Found) (out : List ℕ) (answer : Option Counted) (after : List ℕ) → Reads F out answer after → answer ≡ None → F ≡ none
not_taken (found vs n) out answer after s e =
    let k : some_counted (length vs) n ≡ None = sym s.answered ∙ e in
    let z : ◌≡◌ {A = ℕ} 0 1 = cc in absurd (omega arith)
not_taken none out answer after s e = refl

-- what is no `Some` is `None`
pub not_some : (answer : Option Counted) → ((line : Counted) → answer ≡ Some line → ⊥) → answer ≡ None
not_some (Some line) h = absurd (h line refl)
not_some None h = refl

-- ---- a copy, number by number
pub copy_more : (source copy : List ℕ) (i : ℕ) → i < length source → i < length copy → take i copy ≡ take i source
    → take (i + 1) (set copy i (get_or source i 0)) ≡ take (i + 1) source
copy_more source copy i p q e =
    ap (λ (n : ℕ). take n (set copy i (get_or source i 0))) (add-one i) ∙ take-suc-set copy i (get_or source i 0) q
    ∙ ap (λ (l : List ℕ). l ++ (get_or source i 0 ∷ [])) e ∙ sym (take-suc source i 0 p) ∙ ap (λ (n : ℕ). take n source) (sym (add-one i))

pub copy_all : (source copy : List ℕ) (i : ℕ) → length source ≤ i → length copy ≤ i → take i copy ≡ take i source → copy ≡ source
copy_all source copy i p q e = sym (take_all i copy q) ∙ e ∙ take_all i source p

-- ---- and as floats
floats_more : (vs : List ℕ) (v : ℕ) → floats_of (vs ++ (v ∷ [])) ≡ floats_of vs ++ (of_bits binary64 v ∷ [])
unfolding floats_of
floats_more [] v = refl
floats_more (w ∷ vs) v = ap (λ (l : List Float). of_bits binary64 w ∷ l) (floats_more vs v)

pub floats_step : (bits : List ℕ) (values : List Float) (i : ℕ) (x : Float) → i < length bits → i < length values
    → take i values ≡ floats_of (take i bits) → x ≡ of_bits binary64 (get_or bits i 0) → take (i + 1) (set values i x) ≡ floats_of (take (i + 1) bits)
floats_step bits values i x p q e h =
    ap (λ (n : ℕ). take n (set values i x)) (add-one i) ∙ take-suc-set values i x q
    ∙ ap₂ (λ (l : List Float) (y : Float). l ++ (y ∷ [])) e h ∙ sym (floats_more (take i bits) (get_or bits i 0))
    ∙ ap floats_of (sym (take-suc bits i 0 p)) ∙ ap (λ (n : ℕ). floats_of (take n bits)) (sym (add-one i))

pub floats_all : (bits : List ℕ) (values : List Float) (i : ℕ) → length bits ≤ i → length values ≤ i → take i values ≡ floats_of (take i bits)
    → values ≡ floats_of bits
floats_all bits values i p q e = sym (take_all i values q) ∙ e ∙ ap floats_of (take_all i bits p)
