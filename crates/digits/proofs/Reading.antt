-- What the readers answer, both ways: a some_number v and a place `next` exactly where v's text stands up to `next`. Assumes nothing.
use mathlib.Core.Path.{◌≡◌, refl, sym, ap, ◌∙◌}
use mathlib.Core.Bool.{Bool, true, false, cond, ◌&&◌}
use mathlib.Core.List.{List, [], ◌∷◌, ◌++◌}
use Prim.Native.Nat.{ℕ, ◌+◌, ◌-◌, ◌^◌, ◌≤◌, ◌<◌}
use native.Mathlib.Nat.{add-zero}
use native.Mathlib.Omega.{arith}
use borrow.Author.Tests.{leb-true, le-leb}
use lib.Dec.{leb}
use lib.ListN.{length, get_or, take, drop, length-append, length-drop}
use lib.Seq.{get_or-drop, length-take-le}
use Rattle.digits.specs.Digits.{decimal, hex, part, is_digit, is_hex, every, digits_of, value_from, hex_from}
use Rattle.digits.specs.ReadDecimal.{some_number, plain, up_to, digits_at, read_decimal, DecimalStands}
use Rattle.digits.specs.ReadHex.{read_hex, HexStands}
use Rattle.std.specs.Prelude.{Option, Some, None}
use Rattle.digits.specs.declared.Number.{Number}
use Rattle.digits.proofs.Bytes.{both, both_of}
use Rattle.digits.proofs.Lists.{part-front, part-split, part_length}
use Rattle.digits.proofs.Runs.{run-every, run-front, run_ends, run_of}
use Rattle.digits.proofs.Decimals.{decimal-digits, decimal-plain, value-decimal, decimal_of_lem}
use Rattle.digits.proofs.Hexes.{hex-length, hex-digits, value-hex, hex_of_lem, from-below}

-- a test that let a result through
kept : (t : Bool) (x : Option Number) (v next : ℕ) → cond t x None ≡ some_number v next → (t ≡ true) × (x ≡ some_number v next)
kept true x v next e = (refl, e)
kept false x v next e = let z : ◌≡◌ {A = ℕ} 0 1 = cc in absurd (omega arith)

-- two that are the same have the same parts
value_in : Option Number → ℕ
value_in (Some n) = n.value
value_in None = 0

next_in : Option Number → ℕ
next_in (Some n) = n.next
next_in None = 0

pub same_number : (v next w behind : ℕ) → some_number v next ≡ some_number w behind → (v ≡ w) × (next ≡ behind)
unfolding value_in next_in
same_number v next w behind e = (ap value_in e, ap next_in e)

-- ---- decimals
plain-some : (ds : List ℕ) → plain ds ≡ true → 1 ≤ length ds
unfolding plain
plain-some [] h = let z : ◌≡◌ {A = ℕ} 0 1 = cc in absurd (omega arith)
plain-some (d ∷ ds) h = omega arith

module _ (bytes : List ℕ) (from most v next : ℕ) (limit : most < 10 ^ 20) where
  -- the run of digits is a decimal
  stands : (ds : List ℕ) → ds ≡ digits_at bytes from → plain ds ≡ true → value_from 0 ds ≤ most → value_from 0 ds ≡ v → from + length ds ≡ next
      → DecimalStands bytes from most v next
  stands ds e p s a b =
      let front : drop from bytes ≡ ds ++ drop (length ds) (drop from bytes) =
      run-front (drop from bytes) ∙ ap (λ (l : List ℕ). l ++ drop (length l) (drop from bytes)) (sym e) in
      let n : length ds + length (drop (length ds) (drop from bytes)) ≡ length (drop from bytes) =
      sym (ap length front ∙ length-append ds (drop (length ds) (drop from bytes))) in
      let digits : every is_digit ds ≡ true = ap (every is_digit) e ∙ run-every (drop from bytes) in
      record {
        inside = omega (arith, plain-some ds p, length-drop from bytes);
        starts = omega arith;
        text = ap (λ (k : ℕ). part from k bytes) (sym b) ∙ part-front from bytes ds (drop (length ds) (drop from bytes)) front
            ∙ sym (decimal_of_lem ds digits p (omega arith)) ∙ ap decimal a;
        small = omega arith;
        ends = ap (λ (k : ℕ). is_digit (get_or bytes k 0)) (sym b) ∙ ap is_digit (sym (get_or-drop from bytes (length ds) 0))
            ∙ ap (λ (l : List ℕ). is_digit (get_or (drop from bytes) (length l) 0)) e ∙ run_ends (drop from bytes);
      }

  pub decimal-sound : read_decimal bytes from most ≡ some_number v next → DecimalStands bytes from most v next
  unfolding read_decimal
  decimal-sound h =
      let a = kept (plain (digits_at bytes from)) (up_to most (digits_at bytes from) from) v next h in
      let b = kept (leb (value_from 0 (digits_at bytes from)) most) (some_number (value_from 0 (digits_at bytes from)) (from + length (digits_at bytes from))) v next a.1 in
      let same = same_number (value_from 0 (digits_at bytes from)) (from + length (digits_at bytes from)) v next b.1 in
      stands (digits_at bytes from) refl a.0 (leb-true (value_from 0 (digits_at bytes from)) most b.0) same.0 same.1

  pub decimal_complete : DecimalStands bytes from most v next → read_decimal bytes from most ≡ some_number v next
  unfolding read_decimal
  decimal_complete s =
      let below : v < 10 ^ 20 = omega (arith, s.small) in
      let rest : is_digit (get_or (drop next bytes) 0 0) ≡ false =
      ap is_digit (get_or-drop next bytes 0 0) ∙ ap (λ (k : ℕ). is_digit (get_or bytes k 0)) (add-zero next) ∙ s.ends in
      let run : digits_at bytes from ≡ decimal v =
      ap digits_of (part-split from next bytes s.starts) ∙ ap (λ (l : List ℕ). digits_of (l ++ drop next bytes)) s.text
      ∙ run_of (decimal v) (drop next bytes) (decimal-digits v below) rest in
      let value : value_from 0 (decimal v) ≡ v = value-decimal v below in
      let behind : from + length (decimal v) ≡ next = omega (arith, part_length from next bytes s.starts s.inside, ap length s.text, s.starts) in
      ap (λ (ds : List ℕ). cond (plain ds) (up_to most ds from) None) run
      ∙ ap (λ (t : Bool). cond t (up_to most (decimal v) from) None) (decimal-plain v below)
      ∙ ap (λ (k : ℕ). cond (leb k most) (some_number k (from + length (decimal v))) None) value
      ∙ ap (λ (t : Bool). cond t (some_number v (from + length (decimal v))) None) (le-leb v most s.small)
      ∙ ap (some_number v) behind

-- ---- hex
module _ (bytes : List ℕ) (from v next : ℕ) where
  pub hex-sound : read_hex bytes from ≡ some_number v next → HexStands bytes from v next
  unfolding read_hex
  hex-sound h =
      let ds = take 16 (drop from bytes) in
      let a = kept (leb (from + 16) (length bytes) && every is_hex ds) (some_number (hex_from 0 ds) (from + 16)) v next h in
      let t = both_of (leb (from + 16) (length bytes)) (every is_hex ds) a.0 in
      let same = same_number (hex_from 0 ds) (from + 16) v next a.1 in
      let value : hex_from 0 ds ≡ v = same.0 in
      let behind : from + 16 ≡ next = same.1 in
      let room : from + 16 ≤ length bytes = leb-true (from + 16) (length bytes) t.0 in
      let wide : next - from ≡ 16 = omega arith in
      let n : length ds ≡ 16 = ap (λ (k : ℕ). length (take k (drop from bytes))) (sym wide) ∙ part_length from next bytes (omega arith) (omega arith) ∙ wide in
      record {
        inside = omega arith;
        starts = omega arith;
        text = ap (λ (k : ℕ). take k (drop from bytes)) wide ∙ sym (hex_of_lem ds n t.1) ∙ ap hex value;
      }

  pub hex_complete : v < 2 ^ 64 → HexStands bytes from v next → read_hex bytes from ≡ some_number v next
  unfolding read_hex
  hex_complete below s =
      let behind : from + 16 ≡ next = omega (arith, part_length from next bytes s.starts s.inside, ap length s.text, hex-length 16 v, s.starts) in
      let wide : 16 ≡ next - from = omega arith in
      let ds : take 16 (drop from bytes) ≡ hex v = ap (λ (k : ℕ). take k (drop from bytes)) wide ∙ s.text in
      let passed : (leb (from + 16) (length bytes) && every is_hex (hex v)) ≡ true =
      both (leb (from + 16) (length bytes)) (every is_hex (hex v)) (le-leb (from + 16) (length bytes) (omega (arith, s.inside))) (hex-digits 16 v) in
      ap (λ (l : List ℕ). cond (leb (from + 16) (length bytes) && every is_hex l) (some_number (hex_from 0 l) (from + 16)) None) ds
      ∙ ap (λ (t : Bool). cond t (some_number (hex_from 0 (hex v)) (from + 16)) None) passed
      ∙ ap (λ (k : ℕ). some_number k (from + 16)) (value-hex 16 v below)
      ∙ ap (some_number v) behind

-- what is read fits 64 bits
pub hex-below : (bytes : List ℕ) (from v next : ℕ) → read_hex bytes from ≡ some_number v next → v < 2 ^ 64
unfolding read_hex
hex-below bytes from v next h =
    let ds = take 16 (drop from bytes) in
    let a = kept (leb (from + 16) (length bytes) && every is_hex ds) (some_number (hex_from 0 ds) (from + 16)) v next h in
    let t = both_of (leb (from + 16) (length bytes)) (every is_hex ds) a.0 in
    let same = same_number (hex_from 0 ds) (from + 16) v next a.1 in
    let value : hex_from 0 ds ≡ v = same.0 in
    let room : from + 16 ≤ length bytes = leb-true (from + 16) (length bytes) t.0 in
    let n : length ds ≡ 16 = length-take-le 16 (drop from bytes) (rw length-drop (omega arith)) in
    let b : hex_from 0 ds < 16 ^ (0 + length ds) = from-below 0 0 ds (omega arith) t.1 in
    let w : 16 ^ (0 + length ds) ≡ 2 ^ 64 = ap (λ (k : ℕ). 16 ^ (0 + k)) n in
    omega arith

-- ---- where a text stands, it is the only one
pub decimal-once : (bytes : List ℕ) (from most v next w behind : ℕ) → most < 10 ^ 20 → DecimalStands bytes from most v next
    → DecimalStands bytes from most w behind → (v ≡ w) × (next ≡ behind)
decimal-once bytes from most v next w behind limit a b =
    let p = decimal_complete bytes from most v next limit a in
    let q = decimal_complete bytes from most w behind limit b in
    same_number v next w behind (sym p ∙ q)
