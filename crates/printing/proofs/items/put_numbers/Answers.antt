use mathlib.Core.Path.{refl, sym, subst}
use mathlib.Core.List.{List}
use Prim.Native.Nat.{ℕ}
use native.Mathlib.Omega.{arith}
use lib.ListN.{take}
use lib.Seq.{take_all}
use Rattle.printing.proofs.Putting.{Put, put-none, put_then}
use Rattle.printing.specs.Items.{joined_by, item_text}
use Rattle.printing.proofs.Commas.{joined-none, more-at, room-at}
use Rattle.printing.proofs.items.put_numbers.Goals as goal

pub loop-i-init : goal.loop-i-init
loop-i-init g c =
    let a = c.args in
    (refl, subst (λ (text : List ℕ). Put text a.at a.out.now a.at a.out.now) (sym (joined-none g.T.Item.text a.numbers.now)) (put-none a.at a.out.now))

pub put_item-next-requires : goal.put_item-next-requires
put_item-next-requires g c =
    let loop = c.loop-i in
    let room = room-at g.T.Item.text c.args.numbers.now loop.i c.index-numbers-i.result c.loop-i-test.true c.index-numbers-i.is in
    omega (arith, c.requires, loop.invariant.0, loop.invariant.1.0, room)

pub loop-i-preserved : goal.loop-i-preserved
loop-i-preserved g c =
    let a = c.args in
    let f = g.T.Item.text in
    let loop = c.loop-i in
    let put = c.put_item-next in
    let x = c.index-numbers-i in
    let room = room-at f a.numbers.now loop.i x.result c.loop-i-test.true x.is in (
      omega arith,
      subst (λ (text : List ℕ). Put text a.at a.out.now put.result put.new.out) (more-at f a.numbers.now loop.i x.result c.loop-i-test.true x.is)
          (put_then (joined_by f (take loop.i a.numbers.now)) (item_text loop.i (f x.result)) a.at a.out.now (omega (arith, c.requires, room)) loop.invariant.1 put.ensures),
    )

pub returns : goal.returns
returns g c =
    let a = c.args in
    let loop = c.loop-i in
    subst (λ xs. Put (joined_by g.T.Item.text xs) a.at a.out.now loop.next loop.out) (take_all loop.i a.numbers.now (omega arith)) loop.invariant.1
