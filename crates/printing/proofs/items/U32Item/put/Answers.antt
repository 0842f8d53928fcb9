use mathlib.Core.Path.{ap, subst}
use Prim.Native.Nat.{ℕ}
use native.Mathlib.Omega.{arith}
use lib.ListN.{length}
use Rattle.digits.specs.Digits.{decimal}
use Rattle.printing.proofs.Putting.{Put}
use Rattle.printing.proofs.items.U32Item.put.Goals as goal

pub put-requires : goal.put-requires
put-requires c = omega (arith, c.requires, ap (λ (v : ℕ). length (decimal v)) c.from.ensures)

pub returns : goal.returns
returns c = subst (λ (v : ℕ). Put (decimal v) c.args.at c.args.out.now c.put.result c.put.new.out) c.from.ensures c.put.ensures
