use mathlib.Core.Path.{sym, ◌∙◌}
use Rattle.digits.proofs.Scans.{hex-short}
use Rattle.digits.proofs.read_hex.Goals as goal

pub returns-then-not-has_room : goal.returns-then-not-has_room
returns-then-not-has_room c = hex-short c.args.bytes.now c.args.from (sym c.has_room.ensures ∙ c.if-not-has_room.true)
