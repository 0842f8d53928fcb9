use mathlib.Core.Path.{◌≡◌}
use Prim.Native.Nat.{ℕ, ◌+◌, ◌*◌}
use native.Mathlib.Omega.{arith}
use lib.Ieee.{Float, nan}
use lib.ListN.{length, get_or}
use Rattle.state.specs.Said.{counts_in}
use Rattle.printing.specs.Printed.{head_text, rows_text, seed_text}
use Rattle.printing.proofs.Putting.{put_then}
use Rattle.printing.proofs.Texts.{rows-most}
use Rattle.printing.proofs.print_seed.Goals as goal

pub returns : goal.returns
unfolding seed_text
returns c =
    let args = c.args in
    let head = c.put_head-head in
    let done = c.put_rows in
    let t = counts_in args.counts in
    let rows : ℕ → ℕ → Float = λ j k. get_or args.seed.now (j * args.d + k) nan in
    let most = rows-most rows args.d args.n (omega arith) in
    let n : head.result ≡ 0 + length (head_text args.n t) = omega (arith, head.ensures.0) in
    let whole = put_then (head_text args.n t) (rows_text rows args.d args.n) 0 args.out.now (omega arith) (n, head.ensures.2) done.ensures in
    (omega (arith, whole.0), omega (arith, done.ensures.0, head.ensures.1), whole.1)
