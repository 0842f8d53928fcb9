use mathlib.Core.List.{List, [], ◌∷◌, ◌++◌}
use Prim.Native.Nat.{ℕ}
use native.Mathlib.Omega.{arith}
use Rattle.printing.proofs.Putting.{put_then}
use Rattle.printing.specs.Items.{joined_by}
use Rattle.writing.proofs.Lines.{line-length}
use Rattle.writing.proofs.put_line.Goals as goal

pub put_text-named-requires : goal.put_text-named-requires
put_text-named-requires g c = omega (arith, c.requires, line-length g.T.Item.text c.args.name.now c.args.numbers.now)

pub put_numbers-next-requires : goal.put_numbers-next-requires
put_numbers-next-requires g c =
    omega (arith, c.requires, c.put_text-named.ensures.0, c.put_text-named.auto.out, line-length g.T.Item.text c.args.name.now c.args.numbers.now)

pub put_text-requires : goal.put_text-requires
put_text-requires g c =
    omega (
      arith,
      c.requires,
      c.put_text-named.ensures.0,
      c.put_text-named.auto.out,
      c.put_numbers-next.ensures.0,
      c.put_numbers-next.auto.out,
      line-length g.T.Item.text c.args.name.now c.args.numbers.now,
    )

pub returns : goal.returns
returns g c =
    let a = c.args in
    let n = line-length g.T.Item.text a.name.now a.numbers.now in
    let named = c.put_text-named in
    let list : List ℕ = joined_by g.T.Item.text a.numbers.now in
    put_then a.name.now (list ++ (10 ∷ [])) a.at a.out.now (omega (arith, c.requires, n)) named.ensures
    (put_then list (10 ∷ []) named.result named.new.out (omega (arith, c.requires, n, named.ensures.0, named.auto.out)) c.put_numbers-next.ensures c.put_text.ensures)
