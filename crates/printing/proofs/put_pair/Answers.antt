use native.Mathlib.Omega.{arith}
use Rattle.printing.specs.Printed.{labelled}
use Rattle.printing.proofs.Putting.{put_then}
use Rattle.printing.proofs.Texts.{labelled-most}
use Rattle.printing.proofs.put_pair.Goals as goal

pub put_labelled-requires : goal.put_labelled-requires
put_labelled-requires c =
    let args = c.args in
    omega (arith, c.put_labelled-next.ensures.0, labelled-most args.first.now args.x)

pub returns : goal.returns
returns c =
    let args = c.args in
    let one = c.put_labelled-next in
    let two = c.put_labelled in
    let most = labelled-most args.first.now args.x in
    put_then (labelled args.first.now args.x) (labelled args.second.now args.y) args.at args.out.now (omega arith) one.ensures two.ensures
