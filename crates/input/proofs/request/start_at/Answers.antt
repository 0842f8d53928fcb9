use mathlib.Core.Path.{sym}
use lib.ListN.{get_or-eq_default}
use Rattle.input.proofs.request.start_at.Goals as goal

pub returns-else-i-starts : goal.returns-else-i-starts
returns-else-i-starts c = sym (get_or-eq_default c.args.starts.now 0 c.if-i-starts.false)
