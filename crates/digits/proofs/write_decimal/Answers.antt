use mathlib.Core.Path.{sym, ap, ◌∙◌}
use Prim.Native.Nat.{ℕ, ◌+◌}
use lib.Dec.{leb}
use lib.ListN.{length}
use Rattle.digits.proofs.Putting.{writes_short, writes_to}
use Rattle.digits.proofs.write_decimal.Goals as goal

pub returns-then-not-has_room : goal.returns-then-not-has_room
returns-then-not-has_room c =
    writes_short _ _ _ (ap (λ (n : ℕ). leb (c.args.at + n) (length c.args.out.now)) (sym c.decimal_length.ensures) ∙ sym c.has_room.ensures ∙ c.if-not-has_room.true)

pub returns : goal.returns
returns c =
    let fits = ap (λ (n : ℕ). leb (c.args.at + n) (length c.args.out.now)) (sym c.decimal_length.ensures) ∙ sym c.has_room.ensures ∙ c.if-not-has_room.false in
    writes_to _ _ _ fits _ _ c.put_decimal.ensures.0 c.put_decimal.ensures.1
