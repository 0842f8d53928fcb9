use mathlib.Core.Path.{◌≡◌, subst}
use mathlib.Core.List.{List, ◌++◌}
use Prim.Native.Nat.{ℕ, ◌+◌}
use native.Mathlib.Omega.{arith}
use lib.ListN.{length}
use Rattle.state.specs.Said.{counts_in}
use Rattle.printing.specs.Printed.{answer_name, n_name, passes_name, refreshed_name, zeroed_name, isolated_name}
use Rattle.printing.proofs.Putting.{Put, put_then}
use Rattle.printing.proofs.Texts.{pair, pair_most, head-pairs}
use Rattle.printing.proofs.put_head.Goals as goal

pub put_pair-b-requires : goal.put_pair-b-requires
put_pair-b-requires c =
    let n = c.args.n in
    let one = c.put_pair-a in
    let e : one.result ≡ 0 + length (pair answer_name 0 n_name n) = one.ensures.0 in
    omega (arith, pair_most answer_name 0 n_name n)

pub put_pair-requires : goal.put_pair-requires
put_pair-requires c =
    let args = c.args in
    let one = c.put_pair-a in
    let two = c.put_pair-b in
    let b : List ℕ = pair passes_name args.counts.passes refreshed_name args.counts.refreshed in
    let e : one.result ≡ 0 + length (pair answer_name 0 n_name args.n) = one.ensures.0 in
    let f : two.result ≡ one.result + length b = two.ensures.0 in
    omega (arith, pair_most answer_name 0 n_name args.n, pair_most passes_name args.counts.passes refreshed_name args.counts.refreshed)

pub returns : goal.returns
returns c =
    let args = c.args in
    let t = counts_in args.counts in
    let one = c.put_pair-a in
    let two = c.put_pair-b in
    let three = c.put_pair in
    let a : List ℕ = pair answer_name 0 n_name args.n in
    let b : List ℕ = pair passes_name t.passes refreshed_name t.refreshed in
    let d : List ℕ = pair zeroed_name t.zeroed isolated_name t.isolated in
    let p : Put a 0 args.out.now one.result one.new.out = one.ensures in
    let q : Put b one.result one.new.out two.result two.new.out = two.ensures in
    let r : Put d two.result two.new.out three.result three.new.out = three.ensures in
    let most-a = pair_most answer_name 0 n_name args.n in
    let most-b = pair_most passes_name t.passes refreshed_name t.refreshed in
    let most-d = pair_most zeroed_name t.zeroed isolated_name t.isolated in
    let whole =
    subst (λ (text : List ℕ). Put text 0 args.out.now three.result three.new.out) (head-pairs args.n t)
    (put_then a (b ++ d) 0 args.out.now (omega (arith, c.requires)) p
    (put_then b d one.result one.new.out (omega (arith, c.requires, one.auto.out)) q r)) in
    (omega (arith, whole.0), omega (arith, p.0, q.0, r.0), whole.1)
