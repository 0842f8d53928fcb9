-- each way out is a case of `kind_of`.
use mathlib.Core.Path.{refl, sym, ◌∙◌}
use mathlib.Core.Bool.{true, false}
use borrow.Author.Tests.{lt-ltb, le-ltb}
use Rattle.lines.proofs.Numbers.{kind_by_lem, says_or}
use Rattle.lines.proofs.kind_of.Goals as goal

pub returns-then-line-gt-BYTES_MOST : goal.returns-then-line-gt-BYTES_MOST
returns-then-line-gt-BYTES_MOST c = sym (kind_by_lem _ true _ _ (lt-ltb _ _ c.if-line-gt-BYTES_MOST.true) refl refl)

pub returns-then-not-begins_comment : goal.returns-then-not-begins_comment
returns-then-not-begins_comment c =
    says_or _ _ _ c.read_numbers.ensures c.unwrap_or.ensures
    ∙ sym (kind_by_lem _ false false _ (le-ltb _ _ c.if-line-gt-BYTES_MOST.false) (sym c.begins_comment.ensures ∙ c.if-not-begins_comment.true) refl)

pub returns-then-holds_return : goal.returns-then-holds_return
returns-then-holds_return c = sym (kind_by_lem _ false true true (le-ltb _ _ c.if-line-gt-BYTES_MOST.false) (sym c.begins_comment.ensures ∙ c.if-not-begins_comment.false) (sym c.holds_return.ensures ∙ c.if-holds_return.true))

pub returns : goal.returns
returns c = sym (kind_by_lem _ false true false (le-ltb _ _ c.if-line-gt-BYTES_MOST.false) (sym c.begins_comment.ensures ∙ c.if-not-begins_comment.false) (sym c.holds_return.ensures ∙ c.if-holds_return.false))
