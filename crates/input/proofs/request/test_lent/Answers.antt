use mathlib.Core.Path.{ap, ◌∙◌}
use mathlib.Core.List.{List}
use Prim.Native.Nat.{ℕ}
use Rattle.definition.specs.Memory.{wholes_of}
use Rattle.definition.specs.Refusals.{given_first, test_lent}
use Rattle.input.specs.Said.{short}
use Rattle.input.proofs.request.test_lent.Goals as goal

pub lent_sizes-requires : goal.lent_sizes-requires
lent_sizes-requires c = c.requires

pub returns : goal.returns
unfolding test_lent
returns c = c.test_enough.ensures ∙ ap (λ (s : List ℕ). given_first (short (wholes_of c.args.lent) (wholes_of s)) 0 11 11) c.lent_sizes.ensures
