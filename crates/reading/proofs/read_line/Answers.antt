use mathlib.Core.Path.{refl, sym, ◌∙◌}
use mathlib.Core.List.{[]}
use Prim.Native.Nat.{◌+◌}
use lib.ListN.{length}
use Rattle.reading.specs.Parts.{line_of}
use Rattle.reading.proofs.Steps.{line-no-name, line_list, list_numbers, list_empty, list_few, numbers_fields, reads_none, reads_found, reads_as}
use Rattle.reading.proofs.read_line.Goals as goal

pub returns-then-not-stands_at : goal.returns-then-not-stands_at
returns-then-not-stands_at c = reads_none _ _ _ (line-no-name _ _ _ (sym c.stands_at.ensures ∙ c.if-not-stands_at.true))

pub returns-then-byte_at-ne10 : goal.returns-then-byte_at-ne10
returns-then-byte_at-ne10 c =
    let a = c.args in
    let l = line_of a.name.now a.kind a.fewest (length a.out.now) in
    let at = a.from + length a.name.now in
    reads_as _ _ _ _ _
    (line_list l _ _ (sym c.stands_at.ensures ∙ c.if-not-stands_at.false)
    ∙ list_numbers l a.bytes.now at (λ e. c.if-byte_at-ne10.true (c.byte_at.ensures ∙ e))
    ∙ numbers_fields a.name.now a.kind a.fewest (length a.out.now) a.bytes.now (length a.out.now) at)
    c.read_numbers.ensures

pub returns-then-fewest-ne0 : goal.returns-then-fewest-ne0
returns-then-fewest-ne0 c =
    let a = c.args in
    let l = line_of a.name.now a.kind a.fewest (length a.out.now) in
    let at = a.from + length a.name.now in
    reads_none _ _ _
    (line_list l _ _ (sym c.stands_at.ensures ∙ c.if-not-stands_at.false)
    ∙ list_few l a.bytes.now at (sym c.byte_at.ensures ∙ c.if-byte_at-ne10.false) c.if-fewest-ne0.true)

pub returns : goal.returns
returns c =
    let a = c.args in
    let l = line_of a.name.now a.kind a.fewest (length a.out.now) in
    let at = a.from + length a.name.now in
    reads_found _ _ _ _ _ []
    (line_list l _ _ (sym c.stands_at.ensures ∙ c.if-not-stands_at.false)
    ∙ list_empty l a.bytes.now at (sym c.byte_at.ensures ∙ c.if-byte_at-ne10.false) c.if-fewest-ne0.false)
    refl refl
