-- The definitions at work, by computing: texts byte by byte, and the order of the tests. Assumes nothing.
use mathlib.Core.Path.{◌≡◌, refl}
use mathlib.Core.Bool.{false}
use mathlib.Core.List.{List, [], ◌∷◌}
use Prim.Native.Nat.{ℕ, zero, suc}
use lib.IntN.{pos}
use lib.Ieee.{Float, fin, nan, to_bits}
use Rattle.definition.specs.Refusals.{accepted, refused, or_else, test_dims}
use Rattle.definition.specs.SpectralEmbedding.{Counts}
use Rattle.digits.specs.Digits.{decimal_of, hex_of, hex_digit}
use Rattle.printing.specs.Printed.{refusal_text, head_text, numbers_text, row_text, rows_text, seed_text}
use Rattle.printing.specs.Answer.{test_seed, test_printed}

-- ---- document 01's sample output: one row of one number, 0; the counts 2, 9, 9 and 0
sample_counts : Counts
sample_counts = record { passes = 2; refreshed = 9; zeroed = 9; isolated = 0 }

sample : List ℕ
sample =
    97 ∷ 110 ∷ 115 ∷ 119 ∷ 101 ∷ 114 ∷ 61 ∷ 48 ∷ 10 ∷
    110 ∷ 61 ∷ 49 ∷ 10 ∷
    112 ∷ 97 ∷ 115 ∷ 115 ∷ 101 ∷ 115 ∷ 61 ∷ 50 ∷ 10 ∷
    114 ∷ 101 ∷ 102 ∷ 114 ∷ 101 ∷ 115 ∷ 104 ∷ 101 ∷ 100 ∷ 61 ∷ 57 ∷ 10 ∷
    122 ∷ 101 ∷ 114 ∷ 111 ∷ 101 ∷ 100 ∷ 61 ∷ 57 ∷ 10 ∷
    105 ∷ 115 ∷ 111 ∷ 108 ∷ 97 ∷ 116 ∷ 101 ∷ 100 ∷ 61 ∷ 48 ∷ 10 ∷
    114 ∷ 111 ∷ 119 ∷ 61 ∷ 48 ∷ 48 ∷ 48 ∷ 48 ∷ 48 ∷ 48 ∷ 48 ∷ 48 ∷ 48 ∷ 48 ∷ 48 ∷ 48 ∷ 48 ∷ 48 ∷ 48 ∷ 48 ∷ 10 ∷ []

sample_text : seed_text 1 1 sample_counts (λ i c. fin false 0 (pos 0)) ≡ sample
unfolding seed_text head_text rows_text numbers_text decimal_of hex_of hex_digit to_bits sample_counts sample
sample_text = refl

-- ---- a row of 0 and a NaN: `row=0000000000000000,7ff8000000000000`
two : ℕ → Float
two zero = fin false 0 (pos 0)
two (suc c) = nan

two-text : row_text two 2
    ≡ 114 ∷ 111 ∷ 119 ∷ 61 ∷ 48 ∷ 48 ∷ 48 ∷ 48 ∷ 48 ∷ 48 ∷ 48 ∷ 48 ∷ 48 ∷ 48 ∷ 48 ∷ 48 ∷ 48 ∷ 48 ∷ 48 ∷ 48 ∷ 44
    ∷ 55 ∷ 102 ∷ 102 ∷ 56 ∷ 48 ∷ 48 ∷ 48 ∷ 48 ∷ 48 ∷ 48 ∷ 48 ∷ 48 ∷ 48 ∷ 48 ∷ 48 ∷ 48 ∷ 10 ∷ []
unfolding numbers_text hex_of hex_digit to_bits two
two-text = refl

-- ---- a refusal: `answer=17`, `at=3`
refusal-text : refusal_text 17 3 ≡ 97 ∷ 110 ∷ 115 ∷ 119 ∷ 101 ∷ 114 ∷ 61 ∷ 49 ∷ 55 ∷ 10 ∷ 97 ∷ 116 ∷ 61 ∷ 51 ∷ 10 ∷ []
unfolding refusal_text decimal_of
refusal-text = refl

-- ---- the second writer's tests, where several would refuse: D, no rows, too many rows, a short seed; none of them for a refusal
order-dims : test_seed 8 0 0 ≡ refused 1 0
unfolding test_seed test_dims or_else
order-dims = refl

order-none : test_seed 7 0 0 ≡ refused 2 0
unfolding test_seed test_dims or_else
order-none = refl

order-rows : test_seed 7 65 0 ≡ refused 17 0
unfolding test_seed test_dims or_else
order-rows = refl

order-short : test_seed 7 64 447 ≡ refused 11 9
unfolding test_seed test_dims or_else
order-short = refl

order-taken : test_seed 7 64 448 ≡ accepted
unfolding test_seed test_dims or_else
order-taken = refl

order-refusal : test_printed (refused 17 3) 8 0 0 ≡ accepted
unfolding test_printed
order-refusal = refl
