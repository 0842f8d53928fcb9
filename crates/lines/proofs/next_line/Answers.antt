use mathlib.Core.Path.{sym, ◌∙◌}
use borrow.Author.Tests.{ltb-true, ltb-false}
use Rattle.std.proofs.lemmas.List.{get_or_read}
use Rattle.lines.proofs.Ends.{ends_nowhere, ends_newline, ends_return}
use Rattle.lines.proofs.next_line.Goals as goal

pub returns-in-None : goal.returns-in-None
returns-in-None c = ends_nowhere _ _ (ltb-false _ _ (sym c.in-None.ensures.lookup.0))

pub returns-in-Some-eq10 : goal.returns-in-Some-eq10
returns-in-Some-eq10 c =
    let a = c.in-Some-eq10 in
    let h = ltb-true _ _ (sym a.ensures.lookup.0) in
    ends_newline _ _ h (sym (get_or_read c.args.text.now _ _ h a.ensures.lookup.1 0) ∙ a.field-0-test)

pub returns-in-Some : goal.returns-in-Some
returns-in-Some c =
    let a = c.in-Some in
    let h = ltb-true _ _ (sym a.ensures.lookup.0) in
    ends_return _ _ h (λ e. a.field-0-test.1 (get_or_read c.args.text.now _ _ h a.ensures.lookup.1 0 ∙ e))
