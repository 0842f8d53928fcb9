-- The part that it lends comes back as the first sums.
use mathlib.Core.Path.{◌≡◌, sym, ap, ◌∙◌}
use Prim.Native.Nat.{ℕ, ◌+◌, ◌-◌}
use native.Mathlib.Omega.{arith}
use lib.ListN.{get_or, take, drop}
use lib.Ieee.{nan}
use lib.Seq.{length-take-le}
use Rattle.std.proofs.lemmas.List.{get_or-take}
use Rattle.definition.proofs.Parts.{part_length}
use Rattle.definition.proofs.Fill.{fill_part}
use Rattle.sums.proofs.Partials.{copied}
use Rattle.sums.proofs.put.put_partial.Goals as goal

pub returns : goal.returns
returns c =
    let base = c.args.base in
    let w = c.args.width in
    let sums = c.args.sums.now in
    let partials = c.args.partials.now in
    fill_part base (base + w) (λ i. get_or (take w sums) i nan) _ partials (omega arith) (omega arith)
    (λ i h. let e : base + i - base ≡ i = omega arith in get_or-take w sums i nan (omega arith) ∙ ap (λ (j : ℕ). get_or sums j nan) (sym e))
    (c.copy_from_slice.ensures.after
    ∙ copied nan (take (base + w - base) (drop base partials)) (take w sums)
    (length-take-le w sums (omega arith) ∙ sym (part_length base (base + w) partials (omega arith) ∙ omega arith)))
