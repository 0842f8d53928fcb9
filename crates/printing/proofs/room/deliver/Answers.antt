use native.Mathlib.Omega.{arith}
use Rattle.printing.proofs.Leaving.{leaves_room, leaves_short}
use Rattle.printing.proofs.room.deliver.Goals as goal

pub returns-then-out-text : goal.returns-then-out-text
returns-then-out-text c = let a = c.args in leaves_short a.text.now a.out.now c.if-out-text.true

pub returns : goal.returns
returns c =
    let a = c.args in
    leaves_room a.text.now a.out.now (omega (arith, c.if-out-text.false)) c.put_text.ensures
