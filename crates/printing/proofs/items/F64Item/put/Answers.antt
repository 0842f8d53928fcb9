use mathlib.Core.Path.{subst}
use Prim.Native.Nat.{ℕ}
use native.Mathlib.Omega.{arith}
use Rattle.digits.specs.Digits.{hex}
use Rattle.digits.proofs.Hexes.{hex-length}
use Rattle.printing.proofs.Putting.{Put, written-put, written-some}
use Rattle.printing.proofs.Texts.{bits-length}
use Rattle.printing.proofs.items.F64Item.put.Goals as goal

-- every hex text of 16 digits fits where that of x does
pub unwrap-requires : goal.unwrap-requires
unwrap-requires c = written-some _ _ _ _ _ (omega (arith, c.requires, bits-length c.args.self, hex-length 16 c.bits_of.result)) c.write_hex.ensures

pub returns : goal.returns
returns c =
    subst (λ (v : ℕ). Put (hex v) c.args.at c.args.out.now c.unwrap.result c.write_hex.new.out) c.bits_of.ensures
    (written-put _ _ _ _ _ (omega (arith, c.requires, bits-length c.args.self, hex-length 16 c.bits_of.result)) c.write_hex.ensures _ c.unwrap.ensures)
