use mathlib.Core.List.{List, [], ◌∷◌, ◌++◌}
use mathlib.Core.Path.{ap, subst}
use Prim.Native.Nat.{ℕ, ◌+◌, ◌*◌}
use native.Mathlib.Omega.{arith}
use lib.Ieee.{Float, nan}
use lib.ListN.{length, get_or}
use Rattle.printing.specs.Printed.{row_name, numbers_text}
use Rattle.printing.proofs.Putting.{Put, put_then}
use Rattle.printing.proofs.Commas.{part-numbers}
use Rattle.printing.proofs.Texts.{numbers-most}
use Rattle.printing.proofs.put_row.Goals as goal

pub put_numbers-next-requires : goal.put_numbers-next-requires
put_numbers-next-requires c =
    let args = c.args in
    let row : ℕ → Float = λ k. get_or args.seed.now (args.i * args.d + k) nan in
    let part = part-numbers args.seed.now (args.i * args.d) args.d c.requires.0 in
    omega (arith, ap length part, c.requires, c.put_text-named.ensures.0, c.put_text-named.auto.out, numbers-most row args.d)

pub put_text-requires : goal.put_text-requires
put_text-requires c =
    let args = c.args in
    let row : ℕ → Float = λ k. get_or args.seed.now (args.i * args.d + k) nan in
    let part = part-numbers args.seed.now (args.i * args.d) args.d c.requires.0 in
    omega (
      arith,
      ap length part,
      c.requires,
      c.put_text-named.ensures.0,
      c.put_text-named.auto.out,
      c.put_numbers-next.ensures.0,
      c.put_numbers-next.auto.out,
      numbers-most row args.d,
    )

pub returns : goal.returns
returns c =
    let args = c.args in
    let named = c.put_text-named in
    let numbers = c.put_numbers-next in
    let end = c.put_text in
    let row : ℕ → Float = λ k. get_or args.seed.now (args.i * args.d + k) nan in
    let most = numbers-most row args.d in
    let part = part-numbers args.seed.now (args.i * args.d) args.d c.requires.0 in
    let p : Put row_name args.at args.out.now named.result named.new.out = named.ensures in
    let q : Put (numbers_text row args.d) named.result named.new.out numbers.result numbers.new.out =
    subst (λ (text : List ℕ). Put text named.result named.new.out numbers.result numbers.new.out) part numbers.ensures in
    put_then row_name (numbers_text row args.d ++ (10 ∷ [])) args.at args.out.now (omega arith) p
    (put_then (numbers_text row args.d) (10 ∷ []) named.result named.new.out (omega arith) q end.ensures)
