-- each way out is a case of `numbers_in`.
use mathlib.Core.Path.{sym, ◌∙◌}
use native.Mathlib.Omega.{arith}
use borrow.Author.Tests.{eqb-false}
use Rattle.lines.proofs.Words.{no_words, first_word}
use Rattle.lines.proofs.Numbers.{says-nothing, first-wrong, says-one, second-wrong, says-entry, third-wrong, says-more, says-size}
use Rattle.lines.proofs.read_numbers.Goals as goal

pub returns-then-is_empty : goal.returns-then-is_empty
returns-then-is_empty c = says-nothing _ (c.behind_blanks-words.ensures.words ∙ no_words _ (sym c.is_empty.ensures ∙ c.if-is_empty.true))

pub returns-in_err-row : goal.returns-in_err-row
returns-in_err-row c =
    let first = c.in_err-row.ensures in
    rw c.from_residual.ensures (first-wrong _ _ _ (c.behind_blanks-words.ensures.words ∙ first.first) first.number)

pub returns-then-is_empty-2 : goal.returns-then-is_empty-2
returns-then-is_empty-2 c =
    says-one _ _ _ (c.behind_blanks-words.ensures.words ∙ c.in_ok-row.ensures.first)
    (c.behind_blanks-words-2.ensures.words ∙ no_words _ (sym c.is_empty-2.ensures ∙ c.if-is_empty-2.true))

pub returns-in_err-column : goal.returns-in_err-column
returns-in_err-column c =
    let row = c.in_ok-row.ensures in
    let second = c.in_err-column.ensures in
    rw c.from_residual-in_err-column.ensures
    (second-wrong _ _ _ (c.behind_blanks-words.ensures.words ∙ row.first) _ row.number _ _ (c.behind_blanks-words-2.ensures.words ∙ second.first) second.number)

pub returns-then-is_empty-3 : goal.returns-then-is_empty-3
returns-then-is_empty-3 c =
    let row = c.in_ok-row.ensures in
    let column = c.in_ok-column.ensures in
    says-entry _ _ _ (c.behind_blanks-words.ensures.words ∙ row.first) _ row.number
    _ _ (c.behind_blanks-words-2.ensures.words ∙ column.first) _ column.number
    (c.behind_blanks-words-3.ensures.words ∙ no_words _ (sym c.is_empty-3.ensures ∙ c.if-is_empty-3.true))

pub returns-in_err-entries : goal.returns-in_err-entries
returns-in_err-entries c =
    let row = c.in_ok-row.ensures in
    let column = c.in_ok-column.ensures in
    let third = c.in_err-entries.ensures in
    rw c.from_residual-in_err-entries.ensures
    (third-wrong _ _ _ (c.behind_blanks-words.ensures.words ∙ row.first) _ row.number
    _ _ (c.behind_blanks-words-2.ensures.words ∙ column.first) _ column.number
    _ _ (c.behind_blanks-words-3.ensures.words ∙ third.first) third.number)

pub returns-then-not-is_empty : goal.returns-then-not-is_empty
returns-then-not-is_empty c =
    let row = c.in_ok-row.ensures in
    let column = c.in_ok-column.ensures in
    let some = eqb-false _ _ (sym c.is_empty-4.ensures ∙ c.if-not-is_empty.true) in
    says-more _ _ _ (c.behind_blanks-words.ensures.words ∙ row.first) _ row.number
    _ _ (c.behind_blanks-words-2.ensures.words ∙ column.first) _ column.number
    _ _ (c.behind_blanks-words-3.ensures.words ∙ c.in_ok-entries.ensures.first)
    _ _ (c.behind_blanks-words-4.ensures.words ∙ first_word _ (c.behind_blanks-words-4.ensures.here (omega (arith, some))))

pub returns : goal.returns
returns c =
    let row = c.in_ok-row.ensures in
    let column = c.in_ok-column.ensures in
    let entries = c.in_ok-entries.ensures in
    says-size _ _ _ (c.behind_blanks-words.ensures.words ∙ row.first) _ row.number
    _ _ (c.behind_blanks-words-2.ensures.words ∙ column.first) _ column.number
    _ _ (c.behind_blanks-words-3.ensures.words ∙ entries.first)
    _ entries.number (c.behind_blanks-words-4.ensures.words ∙ no_words _ (sym c.is_empty-4.ensures ∙ c.if-not-is_empty.false))
