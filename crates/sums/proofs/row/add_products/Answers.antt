use Rattle.std.proofs.Common.{rules}
use lib.ListN.{get_or}
use lib.Ieee.{nan}
use mathlib.Core.Path.{◌≡◌, sym, ap}
use Prim.Native.Nat.{ℕ, ◌*◌, ◌+◌}
use native.Mathlib.Omega.{arith}
use Rattle.definition.specs.Arith.{ieee64}
use Rattle.definition.proofs.Places.{row_next}
use Rattle.sums.proofs.Partials.{row_in, column_in_lem, raised-none, raised-next, raised_to}
use Rattle.sums.proofs.row.add_products.Goals as goal
use Rattle.sums.proofs.row.add_products.Goals.{In-loop-p}

pub loop-p-init : goal.loop-p-init
loop-p-init c = (omega arith, raised-none ieee64 _ _ _ _ (omega arith))

pub loop-p-preserved : goal.loop-p-preserved
loop-p-preserved c =
    let l = c.loop-p in
    let k = c.args.k in (
      omega arith,
      raised_to ieee64 0 _ _
          (raised-next ieee64 0 (l.p * k) (l.p * k + k) _ _ _ (omega arith) (omega arith) l.invariant.1 (c.add_terms.ensures (ieee64.mul (get_or c.args.v.now (c.args.from + l.p) nan)) (λ x y e. search rules))
          (λ q u v. rw (row_in k l.p q u v, column_in_lem k l.p q u v)))
          (sym (row_next l.p k)),
    )

pub returns : goal.returns
returns c =
    let k = c.args.k in
    let e : c.loop-p.p ≡ k = omega arith in
    raised_to ieee64 0 _ _ c.loop-p.invariant.1 (ap (λ (x : ℕ). x * k) e)
