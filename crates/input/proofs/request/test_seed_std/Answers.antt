use mathlib.Core.Path.{ap, ◌∙◌}
use mathlib.Core.Bool.{Bool, not}
use Rattle.definition.specs.Arith.{is_finite}
use Rattle.definition.specs.Refusals.{given, test_seed_std}
use Rattle.input.proofs.Flags.{and_decided, and_open}
use Rattle.input.proofs.request.test_seed_std.Goals as goal
use Rattle.input.proofs.request.test_seed_std.Goals.{then-s, else-s}

pub returns : goal.returns
unfolding test_seed_std
returns c =
    let finite = is_finite c.args.s in
    c.refuse_if.ensures
    ∙ ap (λ (b : Bool). given (not b) 10 0) (elim c.if-s.branch [ then-s w ↦ and_open finite w.if-s.true (w.refuse_if-is ∙ w.is_finite.ensures) | else-s w ↦ and_decided finite w.if-s.false w.refuse_if-is ])
