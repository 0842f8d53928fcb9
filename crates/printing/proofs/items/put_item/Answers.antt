use mathlib.Core.Path.{sym, ap, subst, ◌∙◌}
use mathlib.Core.List.{List, [], ◌∷◌}
use Prim.Native.Nat.{ℕ}
use native.Mathlib.Omega.{arith}
use lib.ListN.{length}
use Rattle.printing.proofs.Putting.{Put, put_then}
use Rattle.printing.specs.Items.{item_text}
use Rattle.printing.proofs.Commas.{item_first, item_later}
use Rattle.printing.proofs.items.put_item.Goals as goal

pub put-requires : goal.put-requires
put-requires g c =
    let text = g.T.Item.text c.args.x in
    omega (arith, c.requires, ap length (item_first text ∙ ap (λ (n : ℕ). item_text n text) (sym c.if-i-eq0.true)))

pub returns-then-i-eq0 : goal.returns-then-i-eq0
returns-then-i-eq0 g c =
    let a = c.args in
    let text = g.T.Item.text a.x in
    let e = item_first text ∙ ap (λ (n : ℕ). item_text n text) (sym c.if-i-eq0.true) in
    subst (λ (t : List ℕ). Put t a.at a.out.now c.put.result c.put.new.out) e c.put.ensures

pub put_text-next-requires : goal.put_text-next-requires
put_text-next-requires g c = omega (arith, c.requires, ap length (item_later c.args.i (g.T.Item.text c.args.x) c.if-i-eq0.false))

pub put-requires-2 : goal.put-requires-2
put-requires-2 g c =
    omega (arith, c.requires, c.put_text-next.ensures.0, c.put_text-next.auto.out, ap length (item_later c.args.i (g.T.Item.text c.args.x) c.if-i-eq0.false))

pub returns : goal.returns
returns g c =
    let a = c.args in
    let text = g.T.Item.text a.x in
    let e = item_later a.i text c.if-i-eq0.false in
    let comma = c.put_text-next in
    let end = c.put-2 in
    subst (λ (t : List ℕ). Put t a.at a.out.now end.result end.new.out) e
    (put_then (44 ∷ []) text a.at a.out.now (omega (arith, c.requires, ap length e)) comma.ensures end.ensures)
