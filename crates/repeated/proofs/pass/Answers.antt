use Rattle.repeated.proofs.Filling.{filled_met}
use Rattle.repeated.proofs.pass.Goals as goal

pub returns : goal.returns
returns c = filled_met _ _ _ _ _ _ _ c.fill-f.ensures c.meet-end.ensures
