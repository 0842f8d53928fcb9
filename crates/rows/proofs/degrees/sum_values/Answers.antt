use mathlib.Core.Path.{◌≡◌, sym, ap, ap₂, ◌∙◌}
use Prim.Native.Nat.{◌+◌}
use native.Mathlib.Omega.{arith}
use Rattle.definition.specs.Arith.{ieee64}
use Rattle.definition.specs.ChunkedColumnReduce.{sum_up}
use Rattle.definition.specs.Memory.{vector_of}
use Rattle.definition.proofs.Parts.{part_at, part_length}
use Rattle.definition.proofs.Sums.{sum-none, sum_more}
use Rattle.rows.proofs.degrees.sum_values.Goals as goal

pub loop-value-init : goal.loop-value-init
loop-value-init c = let e : c.args.a + 0 ≡ c.args.a = omega arith in rw e (sym (sum-none ieee64 _ _))

pub loop-value-preserved : goal.loop-value-preserved
loop-value-preserved c =
    let a = c.args.a in
    let i = c.loop-value.value-index in
    let f = vector_of ieee64.none c.args.values.now in
    let e : a + i + 1 ≡ a + (i + 1) = omega arith in
    ap₂ ieee64.add c.loop-value.invariant (part_at a c.args.e c.args.values.now i ieee64.none (omega (arith, part_length a c.args.e c.args.values.now c.requires.1)))
    ∙ sym (sum_more ieee64 f a (a + i) (omega arith)) ∙ ap (sum_up ieee64 f a) e
