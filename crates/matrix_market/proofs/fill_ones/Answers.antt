use native.Mathlib.Omega.{arith}
use lib.ListN.{length-take}
use Rattle.market.specs.Graph.{one}
use Rattle.placing.proofs.Filling.{fill_front}
use Rattle.matrix_market.proofs.fill_ones.Goals as goal

pub returns : goal.returns
returns c =
    let a = c.args in
    fill_front one a.count one a.values.now (c.fill.ensures.after (λ y h. cc)) (omega (arith, length-take a.count a.values.now)) c.requires
