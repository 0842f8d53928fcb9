-- The part that it lends comes back as the first numbers of the row.
use mathlib.Core.Path.{◌≡◌, sym, ap, ◌∙◌}
use Prim.Native.Nat.{ℕ, ◌+◌, ◌-◌}
use native.Mathlib.Omega.{arith}
use lib.ListN.{get_or, take, drop}
use lib.Ieee.{nan}
use lib.Seq.{length-take-le}
use Rattle.std.proofs.lemmas.List.{get_or-take}
use Rattle.definition.proofs.Fill.{fill_part}
use Rattle.definition.proofs.Parts.{part_length}
use Rattle.rows.proofs.Passes.{copied}
use Rattle.rows.proofs.pass.put_row.Goals as goal

pub returns : goal.returns
returns c =
    let to = c.args.to in
    let k = c.args.k in
    let row = c.args.row.now in
    let out = c.args.out.now in
    fill_part to (to + k) (λ i. get_or (take k row) i nan) _ out (omega arith) (omega arith)
    (λ i h. let e : to + i - to ≡ i = omega arith in get_or-take k row i nan (omega arith) ∙ ap (λ (j : ℕ). get_or row j nan) (sym e))
    (c.copy_from_slice.ensures.after
    ∙ copied nan (take (to + k - to) (drop to out)) (take k row)
    (length-take-le k row (omega arith) ∙ sym (part_length to (to + k) out (omega arith) ∙ omega arith)))
