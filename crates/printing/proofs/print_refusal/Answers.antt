use mathlib.Core.Path.{◌≡◌}
use Prim.Native.Nat.{◌+◌}
use native.Mathlib.Omega.{arith}
use lib.ListN.{length}
use Rattle.printing.specs.Printed.{answer_name, at_name, refusal_text}
use Rattle.printing.proofs.Texts.{pair, pair_most}
use Rattle.printing.proofs.print_refusal.Goals as goal

pub returns : goal.returns
unfolding refusal_text
returns c =
    let args = c.args in
    let done = c.put_pair in
    let e : done.result ≡ 0 + length (pair answer_name args.number at_name args.place) = done.ensures.0 in
    (omega arith, omega (arith, pair_most answer_name args.number at_name args.place), done.ensures.1)
