-- What is gathered from the row's view is what the lists' entries gather.
use mathlib.Core.Path.{◌∙◌}
use lib.ListN.{replicate}
use Rattle.definition.specs.Arith.{ieee64}
use Rattle.definition.specs.Memory.{block_of}
use Rattle.definition.proofs.Fill.{fill_cong}
use Rattle.rows.proofs.Passes.{own-gathered}
use Rattle.rows.proofs.pass.gather.Goals as goal

pub returns : goal.returns
returns c =
    let h = c.new.ensures in
    c.gather_view.ensures
    ∙ fill_cong 0 c.args.k _ _ (replicate 15 ieee64.zero) (λ i l u w. own-gathered ieee64 (block_of ieee64.none c.args.n c.args.k c.args.v.now) c.requires h.0 h.1 i)
