-- What was written is read as the same number, and what was read is written as the same bytes. Assumes nothing.
use mathlib.Core.Path.{◌≡◌, refl, sym, ap, ◌∙◌}
use mathlib.Core.Bool.{Bool, true, false, cond}
use mathlib.Core.List.{List}
use Prim.Native.Nat.{ℕ, ◌+◌, ◌^◌, ◌≤◌, ◌<◌}
use native.Mathlib.Omega.{arith}
use borrow.Author.Tests.{leb-true, le-leb}
use lib.Dec.{leb}
use lib.ListN.{length, get_or}
use Rattle.digits.specs.Digits.{decimal, hex, part, is_digit}
use Rattle.digits.specs.ReadDecimal.{some_number, read_decimal}
use Rattle.digits.specs.ReadHex.{read_hex}
use Rattle.digits.specs.Placed.{put, placed, written}
use Rattle.std.specs.Prelude.{Some, None}
use Rattle.digits.proofs.Lists.{part_length, put-length, put-part, put_next, put_same}
use Rattle.digits.proofs.Reading.{decimal-sound, decimal_complete, hex-sound, hex_complete}

-- ---- any text that was written
module _ (text : List ℕ) (at : ℕ) (out : List ℕ) where
  pub written-fits : (next : ℕ) → written text at out ≡ Some next → (at + length text ≤ length out) × (at + length text ≡ next)
  unfolding written
  written-fits next e = go (leb (at + length text) (length out)) refl e
    where
      go : (t : Bool) → leb (at + length text) (length out) ≡ t → cond t (Some (at + length text)) None ≡ Some next
          → (at + length text ≤ length out) × (at + length text ≡ next)
      go true h e = (leb-true (at + length text) (length out) h, cc)
      go false h e = let z : ◌≡◌ {A = ℕ} 0 1 = cc in absurd (omega arith)

  pub fits-written : at + length text ≤ length out → written text at out ≡ Some (at + length text)
  unfolding written
  fits-written h = ap (λ (t : Bool). cond t (Some (at + length text)) None) (le-leb (at + length text) (length out) h)

  pub fits-placed : at + length text ≤ length out → placed text at out ≡ put text at out
  unfolding placed
  fits-placed h = ap (λ (t : Bool). cond t (put text at out) out) (le-leb (at + length text) (length out) h)

-- a text that stands there already
module _ (text bytes : List ℕ) (from next : ℕ) (starts : from ≤ next) (inside : next ≤ length bytes) (stood : part from next bytes ≡ text) where
  same_end : from + length text ≡ next
  same_end = omega (arith, part_length from next bytes starts inside, ap length stood)

  pub same-written : written text from bytes ≡ Some next
  same-written = fits-written text from bytes (omega (arith, same_end)) ∙ ap Some same_end

  pub same-placed : placed text from bytes ≡ bytes
  same-placed = fits-placed text from bytes (omega (arith, same_end)) ∙ put_same from next bytes text starts inside stood

-- what stands in `out` after writing
pub placed-part : (text : List ℕ) (at : ℕ) (out : List ℕ) (next : ℕ) → written text at out ≡ Some next → part at next (placed text at out) ≡ text
placed-part text at out next e =
    let f = written-fits text at out next e in
    ap (λ (n : ℕ). part at n (placed text at out)) (sym f.1) ∙ ap (part at (at + length text)) (fits-placed text at out f.0)
    ∙ put-part text at out f.0

-- ---- decimals: written, then read
pub decimal_back : (x at most : ℕ) (out : List ℕ) (next : ℕ) → written (decimal x) at out ≡ Some next → is_digit (get_or out next 0) ≡ false
    → x ≤ most → most < 10 ^ 20 → read_decimal (placed (decimal x) at out) at most ≡ some_number x next
decimal_back x at most out next e stop small limit =
    let f = written-fits (decimal x) at out next e in
    let p = fits-placed (decimal x) at out f.0 in
    decimal_complete (placed (decimal x) at out) at most x next limit
    (record {
      inside = omega (arith, f.0, f.1, ap length p ∙ put-length (decimal x) at out f.0);
      starts = omega (arith, f.1);
      text = placed-part (decimal x) at out next e;
      small = small;
      ends = ap (λ (l : List ℕ). is_digit (get_or l next 0)) p
          ∙ ap (λ (n : ℕ). is_digit (get_or (put (decimal x) at out) n 0)) (sym f.1)
          ∙ ap is_digit (put_next (decimal x) at out f.0)
          ∙ ap (λ (n : ℕ). is_digit (get_or out n 0)) f.1 ∙ stop;
    })

-- read, then written where it stood, or elsewhere
module _ (bytes : List ℕ) (from most v next : ℕ) (limit : most < 10 ^ 20) (found : read_decimal bytes from most ≡ some_number v next) where
  pub decimal_again : (written (decimal v) from bytes ≡ Some next) × (placed (decimal v) from bytes ≡ bytes)
  decimal_again =
      let s = decimal-sound bytes from most v next limit found in (
        same-written (decimal v) bytes from next s.starts s.inside s.text,
        same-placed (decimal v) bytes from next s.starts s.inside s.text,
      )

  pub decimal_copied : (at : ℕ) (out : List ℕ) (end : ℕ) → written (decimal v) at out ≡ Some end
      → part at end (placed (decimal v) at out) ≡ part from next bytes
  decimal_copied at out end e =
      placed-part (decimal v) at out end e ∙ sym (decimal-sound bytes from most v next limit found).text

-- ---- hex: written, then read
pub hex_back : (x at : ℕ) (out : List ℕ) (next : ℕ) → x < 2 ^ 64 → written (hex x) at out ≡ Some next → read_hex (placed (hex x) at out) at ≡ some_number x next
hex_back x at out next below e =
    let f = written-fits (hex x) at out next e in
    let p = fits-placed (hex x) at out f.0 in
    hex_complete (placed (hex x) at out) at x next below
    (record {
      inside = omega (arith, f.0, f.1, ap length p ∙ put-length (hex x) at out f.0);
      starts = omega (arith, f.1);
      text = placed-part (hex x) at out next e;
    })

module _ (bytes : List ℕ) (from v next : ℕ) (found : read_hex bytes from ≡ some_number v next) where
  pub hex_again : (written (hex v) from bytes ≡ Some next) × (placed (hex v) from bytes ≡ bytes)
  hex_again =
      let s = hex-sound bytes from v next found in (
        same-written (hex v) bytes from next s.starts s.inside s.text,
        same-placed (hex v) bytes from next s.starts s.inside s.text,
      )

  pub hex_copied : (at : ℕ) (out : List ℕ) (end : ℕ) → written (hex v) at out ≡ Some end → part at end (placed (hex v) at out) ≡ part from next bytes
  hex_copied at out end e = placed-part (hex v) at out end e ∙ sym (hex-sound bytes from v next found).text
