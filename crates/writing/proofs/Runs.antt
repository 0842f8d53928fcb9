-- The seven lines as four and three, and four texts one behind another. Assumes nothing.
use mathlib.Core.Path.{◌≡◌, refl, sym, ap, ◌∙◌}
use mathlib.Core.List.{List, [], ◌∷◌, ◌++◌, append_assoc}
use Prim.Native.Nat.{ℕ, ◌+◌, ◌≤◌}
use native.Mathlib.Omega.{arith}
use lib.Ieee.{Float}
use lib.ListN.{length, length-append}
use Rattle.definition.specs.Numbers.{Params}
use Rattle.digits.specs.Digits.{decimal}
use Rattle.printing.specs.Printed.{bits_text}
use Rattle.digits.proofs.Lists.{put-length}
use Rattle.printing.proofs.Putting.{Put, put_then}
use Rattle.reading.specs.Grammar.{d_line, rounds_line, degree_line, seed_std_line, starts_line, columns_line, values_line, joined, line_text, text_up_to}
use Rattle.files.specs.RunText.{bits_of, run_text}
use Rattle.printing.specs.Items.{joined_by}
use Rattle.writing.specs.Putting.{line_by, head_text}
use Rattle.writing.proofs.Lines.{line-decimal, line-bits}

-- ---- four texts
abbrev pub four : List ℕ → List ℕ → List ℕ → List ℕ → List ℕ
four a b c d = a ++ (b ++ (c ++ d))

pub four_length : (a b c d : List ℕ) → length (four a b c d) ≡ length a + (length b + (length c + length d))
four_length a b c d =
    omega (arith, length-append a (b ++ (c ++ d)), length-append b (c ++ d), length-append c d)

-- what was put is as long as what was there
kept : (a : List ℕ) (at : ℕ) (out : List ℕ) {next : ℕ} {after : List ℕ} → at + length a ≤ length out → Put a at out next after → length after ≡ length out
kept a at out h p = ap length p.1 ∙ put-length a at out h

pub put_four : (a b c d : List ℕ) (at : ℕ) (out : List ℕ) {n₁ n₂ n₃ n₄ : ℕ} {o₁ o₂ o₃ o₄ : List ℕ} → at + length (four a b c d) ≤ length out
    → Put a at out n₁ o₁ → Put b n₁ o₁ n₂ o₂ → Put c n₂ o₂ n₃ o₃ → Put d n₃ o₃ n₄ o₄ → Put (four a b c d) at out n₄ o₄
put_four a b c d at out {n₁} {n₂} {n₃} {n₄} {o₁} {o₂} h p q r s =
    let n = four_length a b c d in
    let k₁ = kept a at out (omega (arith, n)) p in
    let k₂ = kept b n₁ o₁ (omega (arith, n, p.0, k₁)) q in
    put_then a (b ++ (c ++ d)) at out (omega (arith, n)) p
    (put_then b (c ++ d) n₁ o₁ (omega (arith, n, p.0, k₁)) q
    (put_then c d n₂ o₂ (omega (arith, n, p.0, q.0, k₁, k₂)) r s))

-- ---- lines 1 to 4
module _ (d : ℕ) (params : Params) where
  abbrev pub head_lines : List ℕ
  head_lines =
      four (line_by decimal d_line.name (d ∷ [])) (line_by decimal rounds_line.name (params.rounds ∷ [])) (line_by decimal degree_line.name (params.degree ∷ []))
      (line_by bits_text seed_std_line.name (params.seed_std ∷ []))

  pub head-lines : head_lines ≡ head_text d params
  unfolding head_text text_up_to joined joined_by
  head-lines =
      let l₁ = line_by decimal d_line.name (d ∷ []) in
      let l₂ = line_by decimal rounds_line.name (params.rounds ∷ []) in
      let l₃ = line_by decimal degree_line.name (params.degree ∷ []) in
      let l₄ = line_by bits_text seed_std_line.name (params.seed_std ∷ []) in
      sym (append_assoc l₁ l₂ (l₃ ++ l₄)) ∙ sym (append_assoc (l₁ ++ l₂) l₃ l₄)

  pub head-length : length (head_text d params)
      ≡ length (line_by decimal d_line.name (d ∷ []))
      + (length (line_by decimal rounds_line.name (params.rounds ∷ []))
      + (length (line_by decimal degree_line.name (params.degree ∷ [])) + length (line_by bits_text seed_std_line.name (params.seed_std ∷ []))))
  head-length =
      ap length (sym head-lines)
      ∙ four_length (line_by decimal d_line.name (d ∷ [])) (line_by decimal rounds_line.name (params.rounds ∷ []))
      (line_by decimal degree_line.name (params.degree ∷ [])) (line_by bits_text seed_std_line.name (params.seed_std ∷ []))

  -- ---- and all seven
  module _ (starts columns : List ℕ) (values : List Float) where
    abbrev pub run_lines : List ℕ
    run_lines =
        four (head_text d params) (line_by decimal starts_line.name starts) (line_by decimal columns_line.name columns) (line_by bits_text values_line.name values)

    pub run-lines : run_lines ≡ run_text d params starts columns values
    unfolding head_text text_up_to run_text
    run-lines =
        let h = head_text d params in
        let l₅ = line_text starts_line starts in
        let l₆ = line_text columns_line columns in
        let l₇ = line_text values_line (bits_of values) in
        ap (λ (t : List ℕ). four h t (line_by decimal columns_line.name columns) (line_by bits_text values_line.name values)) (line-decimal starts_line refl starts)
        ∙ ap (λ (t : List ℕ). four h l₅ t (line_by bits_text values_line.name values)) (line-decimal columns_line refl columns)
        ∙ ap (λ (t : List ℕ). four h l₅ l₆ t) (line-bits values_line refl values)
        ∙ sym (append_assoc h l₅ (l₆ ++ l₇)) ∙ sym (append_assoc (h ++ l₅) l₆ l₇)

    pub run_length : length (run_text d params starts columns values)
        ≡ length (head_text d params)
        + (length (line_by decimal starts_line.name starts) + (length (line_by decimal columns_line.name columns) + length (line_by bits_text values_line.name values)))
    run_length =
        ap length (sym run-lines)
        ∙ four_length (head_text d params) (line_by decimal starts_line.name starts) (line_by decimal columns_line.name columns) (line_by bits_text values_line.name values)
