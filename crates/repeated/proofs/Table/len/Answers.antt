use mathlib.Core.Path.{sym, ap, ◌∙◌}
use lib.ListN.{length}
use Rattle.repeated.proofs.Chains.{stored-length}
use Rattle.repeated.proofs.Table.len.Goals as goal

pub returns : goal.returns
returns c = sym (stored-length c.self.inside.keys c.self.inside.count) ∙ ap length c.self.view_is
