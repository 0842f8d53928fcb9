-- The total at place 0 of each chunk's partial.
use mathlib.Core.Path.{◌≡◌, ap, ◌∙◌}
use Prim.Native.Nat.{◌+◌, ◌*◌}
use native.Mathlib.Omega.{arith}
use lib.Ieee.{nan, binary64}
use lib.ListN.{get_or}
use Rattle.definition.specs.Arith.{ieee64}
use Rattle.definition.specs.Root.{root_of}
use Rattle.definition.specs.ChunkedColumnReduce.{sum_up}
use Rattle.definition.proofs.Sums.{sum_cong}
use Rattle.machine.specs.Closing.{norm_of, total_at}
use Rattle.closing.proofs.reduced.Partials.norm.Goals as goal

pub returns : goal.returns
unfolding norm_of total_at
returns c =
    let k = c.args.self.asked.dims + 8 in
    (rw c.width.ensures at c.total_norm.ensures)
    ∙ ap (root_of binary64)
    (ap (sum_up ieee64 (λ h. get_or c.args.self.numbers.now (h * (k * k)) nan) 0) c.chunk_count-chunks.ensures
    ∙ sum_cong ieee64 _ _ 0 _ (λ h l u. let e : h * (k * k) + 0 ≡ h * (k * k) = omega arith in rw e))
