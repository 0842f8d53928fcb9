-- digits, a blank and digits up to where a line goes on no further are the line.
use mathlib.Core.Path.{sym, ◌∙◌}
use native.Mathlib.Omega.{arith}
use Rattle.lines.proofs.Plain.{plain_read}
use Rattle.lines.proofs.read_plain.Goals as goal

pub next_line-next-requires : goal.next_line-next-requires
next_line-next-requires c = (c.read_digits-second.ensures.within (omega (arith, c.if-text-blank.false)), sym c.line_goes_on.ensures ∙ c.if-line_goes_on.false)

pub returns : goal.returns
returns c =
    plain_read _ _ _ _ _ _ c.read_digits-first.ensures c.read_digits-second.ensures c.if-blank-at.false c.if-text-blank.false
    (sym c.is_blank.ensures ∙ c.if-not-is_blank.false) c.if-end-from.false c.if-end-at-gt-BYTES_MOST.false
    (sym c.line_goes_on.ensures ∙ c.if-line_goes_on.false) _ c.next_line-next.ensures
