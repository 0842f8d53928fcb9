-- The roots are the one column of a block of width 1.
use mathlib.Core.Path.{◌≡◌, ap, ◌∙◌}
use Prim.Native.Nat.{◌+◌, ◌*◌}
use native.Mathlib.Omega.{arith}
use lib.Ieee.{binary64}
use Rattle.definition.specs.Arith.{ieee64}
use Rattle.definition.specs.Root.{root_of}
use Rattle.definition.specs.SpectralEmbedding.{root_norm}
use Rattle.definition.proofs.Sums.{sum_cong}
use Rattle.sums.proofs.root_norm.Goals as goal

pub returns : goal.returns
unfolding root_norm
returns c =
    c.root.ensures
    ∙ ap (root_of binary64) (c.square_sum.ensures
    ∙ sum_cong ieee64 _ _ 0 c.args.n (λ i l u. let e : i * 1 + 0 ≡ i = omega arith in rw e))
