use Rattle.repeated.proofs.Chains.{stored-none}
use Rattle.repeated.proofs.Table.clear.Goals as goal

pub returns : goal.returns
returns c = stored-none _
