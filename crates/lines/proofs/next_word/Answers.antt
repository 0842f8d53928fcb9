-- behind the blanks in front the first word stands, if any does.
use mathlib.Core.Path.{◌≡◌, sym, ap₂, ◌∙◌}
use mathlib.Core.List.{List, ◌∷◌}
use Prim.Native.Nat.{ℕ}
use native.Mathlib.Omega.{arith}
use borrow.Author.Tests.{eqb-false}
use lib.ListN.{length}
use Rattle.lines.specs.Lines.{words_of}
use Rattle.lines.proofs.Words.{no_words, word-most, word-front}
use Rattle.lines.proofs.next_word.Goals as goal

pub returns-then-is_empty : goal.returns-then-is_empty
returns-then-is_empty c = c.behind_blanks-words.ensures.words ∙ no_words _ (sym c.is_empty.ensures ∙ c.if-is_empty.true)

pub split_at-requires : goal.split_at-requires
split_at-requires c = word-most _ _ c.word_length.ensures

pub returns : goal.returns
returns c =
    let words = c.behind_blanks-words.result.now in
    let some : length words ≡ 0 → ⊥ = eqb-false _ _ (sym c.is_empty.ensures ∙ c.if-is_empty.false) in
    c.behind_blanks-words.ensures.words
    ∙ word-front words _ c.word_length.ensures (c.behind_blanks-words.ensures.here (omega arith))
    ∙ ap₂ (λ (v w : List ℕ). v ∷ words_of w) (sym c.split_at.ensures.front) (sym c.split_at.ensures.back)
