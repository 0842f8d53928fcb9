use mathlib.Core.Path.{◌≡◌}
use Prim.Native.Nat.{◌-◌, ◌+◌}
use native.Mathlib.Omega.{arith}
use Rattle.definition.specs.Arith.{ieee64}
use Rattle.sums.proofs.Partials.{raised-none, raised-more, raised_to}
use Rattle.sums.proofs.row.add_terms.Goals as goal

pub loop-q-init : goal.loop-q-init
loop-q-init g c = λ f h. raised-none ieee64 _ _ _ _ (omega arith)

pub loop-q-preserved : goal.loop-q-preserved
loop-q-preserved g c =
    λ f h.
    let l = c.loop-q in
    let a = c.args in
    let e : a.at + l.q - a.at ≡ l.q = omega arith in
    raised_to ieee64 _ _ _ (raised-more ieee64 _ _ _ _ (omega arith) (l.invariant f h) (rw (e, h _ _ c.term.ensures))) (omega arith)

pub returns : goal.returns
returns g c = λ f h. raised_to ieee64 _ _ _ (c.loop-q.invariant f h) (omega arith)
