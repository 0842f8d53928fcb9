-- How long each text is, and its steps. Assumes nothing.
use mathlib.Core.Path.{◌≡◌, refl, sym, ap, ◌∙◌}
use mathlib.Core.List.{List, [], ◌∷◌, ◌++◌, append_assoc}
use Prim.Native.Nat.{ℕ, zero, suc, ◌+◌, ◌*◌, ◌≤◌}
use native.Mathlib.Numerals.{add-one}
use native.Mathlib.Omega.{arith}
use mathlib.Core.Bool.{true, false≢true}
use lib.Ieee.{Float, nan, inf, fin, is_nan, binary64, to_bits}
use lib.ListN.{length, length-append}
use Rattle.definition.specs.SpectralEmbedding.{Counts}
use Rattle.digits.specs.Digits.{decimal}
use Rattle.digits.proofs.Decimals.{decimal-most}
use Rattle.digits.proofs.Hexes.{hex-length}
use Rattle.printing.specs.Printed.{labelled, answer_name, n_name, passes_name, refreshed_name, zeroed_name, isolated_name, head_text}
use Rattle.printing.specs.Printed.{bits_text, number_text, numbers_text, row_name, row_text, rows_text}

-- ---- bits
-- for `#[tactic(auto, using(..))]` on `bits_of`: the pattern of a NaN, so that its must-fail edit, which writes another, meets the false fact
pub nan_pattern : (x : Float) → is_nan x ≡ true → 0x7ff8_0000_0000_0000 ≡ to_bits binary64 x
unfolding to_bits is_nan
nan_pattern nan h = refl
nan_pattern (inf s) h = absurd (false≢true h)
nan_pattern (fin s m e) h = absurd (false≢true h)

pub bits-length : (x : Float) → length (bits_text x) ≡ 16
bits-length x = hex-length 16 (to_bits binary64 x)

-- ---- a name with its number
pub labelled-length : (name : List ℕ) (v : ℕ) → length (labelled name v) ≡ length name + (length (decimal v) + 1)
labelled-length name v =
    length-append name (decimal v ++ (10 ∷ [])) ∙ ap (λ (n : ℕ). length name + n) (length-append (decimal v) (10 ∷ []))

pub labelled-most : (name : List ℕ) (v : ℕ) → length (labelled name v) ≤ length name + 21
labelled-most name v = omega (arith, labelled-length name v, decimal-most v)

-- two of them
abbrev pub pair : List ℕ → ℕ → List ℕ → ℕ → List ℕ
pair first x second y = labelled first x ++ labelled second y

pub pair_most : (first : List ℕ) (x : ℕ) (second : List ℕ) (y : ℕ) → length (pair first x second y) ≤ length first + length second + 42
pair_most first x second y =
    omega (arith, length-append (labelled first x) (labelled second y), labelled-most first x, labelled-most second y)

-- the head is three pairs
pub head-pairs : (n : ℕ) (t : Counts)
    → pair answer_name 0 n_name n
    ++ (pair passes_name t.passes refreshed_name t.refreshed ++ pair zeroed_name t.zeroed isolated_name t.isolated) ≡ head_text n t
unfolding head_text
head-pairs n t =
    append_assoc (labelled answer_name 0) (labelled n_name n) _
    ∙ ap (λ (r : List ℕ). labelled answer_name 0 ++ (labelled n_name n ++ r))
    (append_assoc (labelled passes_name t.passes) (labelled refreshed_name t.refreshed) _)

pub head-most : (n : ℕ) (t : Counts) → length (head_text n t) ≤ 168
head-most n t =
    let rest = pair passes_name t.passes refreshed_name t.refreshed ++ pair zeroed_name t.zeroed isolated_name t.isolated in
    omega (
      arith,
      ap length (head-pairs n t),
      length-append (pair answer_name 0 n_name n) rest,
      length-append (pair passes_name t.passes refreshed_name t.refreshed) (pair zeroed_name t.zeroed isolated_name t.isolated),
      pair_most answer_name 0 n_name n,
      pair_most passes_name t.passes refreshed_name t.refreshed,
      pair_most zeroed_name t.zeroed isolated_name t.isolated,
    )

-- ---- a row's numbers
number-most : (c : ℕ) (x : Float) → length (number_text c x) ≤ 17
unfolding number_text
number-most zero x = omega (arith, bits-length x)
number-most (suc c) x = omega (arith, bits-length x)

pub numbers-none : (row : ℕ → Float) → numbers_text row 0 ≡ []
unfolding numbers_text
numbers-none row = refl

step : (row : ℕ → Float) (c : ℕ) → numbers_text row c ++ number_text c (row c) ≡ numbers_text row (suc c)
unfolding numbers_text number_text
step row zero = refl
step row (suc c) = refl

pub numbers_more : (row : ℕ → Float) (c : ℕ) → numbers_text row c ++ number_text c (row c) ≡ numbers_text row (c + 1)
numbers_more row c = step row c ∙ ap (numbers_text row) (sym (add-one c))

pub numbers-most : (row : ℕ → Float) (m : ℕ) → length (numbers_text row m) ≤ 17 * m
numbers-most row zero = omega (arith, ap length (numbers-none row))
numbers-most row (suc m) =
    omega (arith, ap length (step row m), length-append (numbers_text row m) (number_text m (row m)), number-most m (row m), numbers-most row m)

-- ---- the rows
pub row-most : (row : ℕ → Float) (d : ℕ) → length (row_text row d) ≤ 17 * d + 5
row-most row d =
    omega (arith, length-append row_name (numbers_text row d ++ (10 ∷ [])), length-append (numbers_text row d) (10 ∷ []), numbers-most row d)

pub rows_none : (seed : ℕ → ℕ → Float) (d : ℕ) → rows_text seed d 0 ≡ []
unfolding rows_text
rows_none seed d = refl

rows_step : (seed : ℕ → ℕ → Float) (d m : ℕ) → rows_text seed d m ++ row_text (seed m) d ≡ rows_text seed d (suc m)
unfolding rows_text
rows_step seed d m = refl

pub rows_more : (seed : ℕ → ℕ → Float) (d m : ℕ) → rows_text seed d m ++ row_text (seed m) d ≡ rows_text seed d (m + 1)
rows_more seed d m = rows_step seed d m ∙ ap (rows_text seed d) (sym (add-one m))

pub rows-most : (seed : ℕ → ℕ → Float) (d m : ℕ) → d ≤ 7 → length (rows_text seed d m) ≤ 124 * m
rows-most seed d zero h = omega (arith, ap length (rows_none seed d))
rows-most seed d (suc m) h =
    omega (arith, ap length (rows_step seed d m), length-append (rows_text seed d m) (row_text (seed m) d), row-most (seed m) d, rows-most seed d m h)
