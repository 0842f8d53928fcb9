use mathlib.Core.List.{[], ◌∷◌, ◌++◌}
use native.Mathlib.Omega.{arith}
use Rattle.digits.specs.Digits.{decimal}
use Rattle.digits.proofs.Decimals.{decimal-most}
use Rattle.printing.proofs.Putting.{put_then, written-put, written-some}
use Rattle.printing.proofs.put_labelled.Goals as goal

pub unwrap-next-requires : goal.unwrap-next-requires
unwrap-next-requires c = written-some _ _ _ _ _ (omega (arith, decimal-most c.args.x)) c.write_decimal.ensures

pub put_text-requires : goal.put_text-requires
put_text-requires c =
    let most = decimal-most c.args.x in
    omega (arith, (written-put _ _ _ _ _ (omega arith) c.write_decimal.ensures _ c.unwrap-next.ensures).0)

pub returns : goal.returns
returns c =
    let named = c.put_text-named in
    let text = decimal c.args.x in
    let most = decimal-most c.args.x in
    put_then c.args.name.now (text ++ (10 ∷ [])) c.args.at c.args.out.now (omega arith) named.ensures
    (put_then text (10 ∷ []) named.result named.new.out (omega arith)
    (written-put text _ _ _ _ (omega arith) c.write_decimal.ensures _ c.unwrap-next.ensures) c.put_text.ensures)
