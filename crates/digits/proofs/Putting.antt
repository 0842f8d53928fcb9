-- Steps of the writers: a digit more at the end of what is put. Assumes nothing.
use mathlib.Core.Path.{◌≡◌, sym, ap, ap₂, ◌∙◌}
use mathlib.Core.Bool.{Bool, true, false, cond}
use mathlib.Core.List.{List, [], ◌∷◌, ◌++◌}
use Prim.Native.Nat.{ℕ, suc, ◌+◌, ◌-◌, ◌/◌, ◌%◌, ◌^◌, ◌≤◌, ◌<◌}
use native.Mathlib.Nat.{add-zero}
use native.Mathlib.Numerals.{add-one}
use native.Mathlib.Omega.{arith}
use lib.ListN.{length, set, take, drop, take-append-drop}
use lib.Seq.{set_split}
use Rattle.digits.specs.Digits.{decimal, hex_of, hex_digit}
use Rattle.digits.specs.Placed.{put, fits_at, placed, written, Writes}
use Rattle.std.specs.Prelude.{Some, None}
use Rattle.digits.proofs.Lists.{put-more}
use Rattle.digits.proofs.Decimals.{decimal-small, decimal-more, decimal_longer}
use Rattle.digits.proofs.Hexes.{hex_nil, hex-more, hex-length}

put_one : (at : ℕ) (out : List ℕ) (b : ℕ) → at < length out → set out at b ≡ put (b ∷ []) at out
put_one at out b h = set_split out at b h ∙ ap (λ (n : ℕ). take at out ++ (b ∷ drop n out)) (sym (add-one at))

put_nil : (at : ℕ) (out : List ℕ) → out ≡ put [] at out
put_nil at out = sym (ap (λ (n : ℕ). take at out ++ drop n out) (add-zero at) ∙ take-append-drop at out)

-- ---- decimals
module _ (x at : ℕ) (out : List ℕ) (room : at + length (decimal x) ≤ length out) where
  pub decimal-first-put : x < 10 → set out at (48 + x) ≡ put (decimal x) at out
  decimal-first-put h =
      let e = decimal-small x h in
      put_one at out (48 + x) (omega (arith, ap length e)) ∙ ap (λ (l : List ℕ). put l at out) (sym e)

  pub decimal-more-put : 10 ≤ x → x < 10 ^ 20 → (before : List ℕ) (last : ℕ) → before ≡ put (decimal (x / 10)) at out → last ≡ at + length (decimal (x / 10))
      → set before last (48 + x % 10) ≡ put (decimal x) at out
  decimal-more-put p q before last e k =
      ap₂ (λ (l : List ℕ) (n : ℕ). set l n (48 + x % 10)) e k
      ∙ put-more (decimal (x / 10)) at out (48 + x % 10) (omega (arith, decimal_longer x p q))
      ∙ ap (λ (l : List ℕ). put l at out) (sym (decimal-more x p q))

-- ---- hex
pub hex-none-put : (m x at : ℕ) (out : List ℕ) → m ≡ 0 → out ≡ put (hex_of m x) at out
hex-none-put m x at out e = put_nil at out ∙ ap (λ (l : List ℕ). put l at out) (sym (ap (λ (k : ℕ). hex_of k x) e ∙ hex_nil x))

pub hex-more-put : (m x at : ℕ) (out before : List ℕ) (b : ℕ) → 1 ≤ m → at + m ≤ length out → before ≡ put (hex_of (m - 1) (x / 16)) at out
    → b ≡ hex_digit (x % 16) → set before (at + (m - 1)) b ≡ put (hex_of m x) at out
hex-more-put m x at out before b p room e d =
    let k : at + (m - 1) ≡ at + length (hex_of (m - 1) (x / 16)) = omega (arith, hex-length (m - 1) (x / 16)) in
    let s : suc (m - 1) ≡ m = omega arith in
    ap₂ (λ (l : List ℕ) (n : ℕ). set l n b) e k
    ∙ put-more (hex_of (m - 1) (x / 16)) at out b (omega (arith, hex-length (m - 1) (x / 16)))
    ∙ ap (λ (n : ℕ). put (hex_of (m - 1) (x / 16) ++ (n ∷ [])) at out) d
    ∙ ap (λ (l : List ℕ). put l at out) (sym (hex-more (m - 1) x) ∙ ap (λ (j : ℕ). hex_of j x) s)

-- ---- the two answers
module _ (text : List ℕ) (at : ℕ) (out : List ℕ) where
  pub writes_short : fits_at text at out ≡ false → Writes text at out None out
  unfolding placed written
  writes_short e = record {
    answered = sym (ap (λ (t : Bool). cond t (Some (at + length text)) None) e);
    bytes = sym (ap (λ (t : Bool). cond t (put text at out) out) e);
  }

  pub writes_to : fits_at text at out ≡ true → (next : ℕ) (after : List ℕ) → next ≡ at + length text → after ≡ put text at out
      → Writes text at out (Some next) after
  unfolding placed written
  writes_to e next after n a = record {
    answered = ap Some n ∙ sym (ap (λ (t : Bool). cond t (Some (at + length text)) None) e);
    bytes = a ∙ sym (ap (λ (t : Bool). cond t (put text at out) out) e);
  }
