-- How long the text of a run file is: what passes the tests fits a run file. Assumes nothing.
use mathlib.Core.Path.{◌≡◌, refl, ap}
use mathlib.Core.Bool.{true, false}
use mathlib.Core.Logic.{⊎_elim}
use mathlib.Core.List.{List, [], ◌∷◌}
use Prim.Native.Nat.{ℕ, suc, ◌+◌, ◌*◌, ◌/◌, ◌≤◌, ◌<◌}
use native.Mathlib.Nat.{mul-suc, mul-one}
use native.Mathlib.Omega.{arith}
use lib.Ieee.{Float, binary64, to_bits}
use lib.ListN.{length, get_or, length-append}
use Rattle.definition.specs.Numbers.{Params}
use Rattle.definition.proofs.Tests.{lt_or_ge}
use Rattle.digits.specs.Digits.{decimal}
use Rattle.digits.proofs.Decimals.{decimal-small, decimal_longer, decimal-most}
use Rattle.digits.proofs.Hexes.{hex-length}
use Rattle.reading.specs.Grammar.{Line, d_line, rounds_line, degree_line, seed_std_line, starts_line, columns_line, values_line, number_text, joined, text_up_to}
use Rattle.files.specs.RunText.{bits_of, run_text}
use Rattle.files.specs.RoundTrip.{TextFits}
use Rattle.files.proofs.Floats.{length-bits}
use Rattle.files.proofs.Sized.{sized, file_passed, graph_of_lem}

-- a number below 100 has two digits at most
decimal-two : (n : ℕ) → n < 100 → length (decimal n) ≤ 2
decimal-two n h =
    ⊎_elim (λ l. omega (arith, ap length (decimal-small n l)))
    (λ l. omega (arith, decimal_longer n l (omega arith), ap length (decimal-small (n / 10) (omega arith)))) (lt_or_ge n 10)

-- numbers of m bytes at most, by commas
joined-most : (l : Line) (m : ℕ) (vs : List ℕ) → ((i : ℕ) → i < length vs → length (number_text l (get_or vs i 0)) ≤ m)
    → length (joined l vs) ≤ (m + 1) * length vs
unfolding joined
joined-most l m [] h = omega arith
joined-most l m (v ∷ []) h = omega (arith, h 0 (omega arith), mul-one (m + 1))
joined-most l m (v ∷ w ∷ vs) h =
    omega (
      arith,
      length-append (number_text l v) (44 ∷ joined l (w ∷ vs)),
      h 0 (omega arith),
      mul-suc (m + 1) (length (w ∷ vs)),
      joined-most l m (w ∷ vs) (λ i q. h (suc i) (omega arith)),
    )

-- decimals have 20 digits at most, bits 16
decimals_most : (l : Line) → l.in_hex ≡ false → (vs : List ℕ) → length (joined l vs) ≤ 21 * length vs
decimals_most l e vs = joined-most l 20 vs (λ i q. rw e (decimal-most (get_or vs i 0)))

hexes_most : (l : Line) → l.in_hex ≡ true → (vs : List ℕ) → length (joined l vs) ≤ 17 * length vs
hexes_most l e vs = joined-most l 16 vs (λ i q. rw e (omega (arith, hex-length 16 (get_or vs i 0))))

-- ---- the seven lines: 20 digits for a decimal, 2 for a column, 16 for bits
pub text-fits : (d : ℕ) (params : Params) (starts columns : List ℕ) (values : List Float) → TextFits d params starts columns values
unfolding run_text text_up_to
text-fits d params starts columns values passed =
    let s = sized d params starts columns values passed in
    let g = graph_of_lem d params starts columns values (file_passed d params starts columns values passed) in
    let few = joined-most columns_line 2 columns (λ i q. decimal-two (get_or columns i 0) (omega (arith, g.below.below i (omega arith) q))) in
    simp length-append
    (omega (
      arith,
      length-bits values,
      decimals_most d_line refl (d ∷ []),
      decimals_most rounds_line refl (params.rounds ∷ []),
      decimals_most degree_line refl (params.degree ∷ []),
      hexes_most seed_std_line refl (to_bits binary64 params.seed_std ∷ []),
      decimals_most starts_line refl starts,
      few,
      hexes_most values_line refl (bits_of values),
    ))
