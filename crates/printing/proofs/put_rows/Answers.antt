use mathlib.Core.Path.{◌≡◌, refl, sym, subst}
use mathlib.Core.List.{List}
use Prim.Native.Nat.{ℕ, ◌+◌, ◌*◌}
use native.Mathlib.Omega.{arith}
use lib.Ieee.{Float, nan}
use lib.ListN.{get_or}
use Rattle.definition.proofs.Places.{row_end}
use Rattle.printing.specs.Printed.{row_text, rows_text}
use Rattle.printing.proofs.Putting.{Put, put-none, put_then}
use Rattle.printing.proofs.Texts.{rows_none, rows_more, rows-most}
use Rattle.printing.proofs.put_rows.Goals as goal

pub loop-i-init : goal.loop-i-init
loop-i-init c =
    let args = c.args in
    let rows : ℕ → ℕ → Float = λ j k. get_or args.seed.now (j * args.d + k) nan in
    let none = put-none args.at args.out.now in
    (omega arith, refl, subst (λ (text : List ℕ). Put text args.at args.out.now args.at args.out.now) (sym (rows_none rows args.d)) none)

pub put_row-next-requires : goal.put_row-next-requires
put_row-next-requires c =
    let args = c.args in
    let i = c.loop-i.i in
    let most = rows-most (λ j k. get_or args.seed.now (j * args.d + k) nan) args.d i (omega arith) in
    (omega (arith, row_end i args.d args.n (omega arith)), omega arith)

pub loop-i-preserved : goal.loop-i-preserved
loop-i-preserved c =
    let args = c.args in
    let loop = c.loop-i in
    let put = c.put_row-next in
    let rows : ℕ → ℕ → Float = λ j k. get_or args.seed.now (j * args.d + k) nan in
    let most = rows-most rows args.d loop.i (omega arith) in (
      omega arith,
      omega arith,
      subst (λ (text : List ℕ). Put text args.at args.out.now put.result put.new.out) (rows_more rows args.d loop.i)
          (put_then (rows_text rows args.d loop.i) (row_text (rows loop.i) args.d) args.at args.out.now (omega arith) loop.invariant.2 put.ensures),
    )

pub shape_of-out : goal.shape_of-out
shape_of-out c = c.loop-i.invariant.1

pub returns : goal.returns
returns c =
    let args = c.args in
    let loop = c.loop-i in
    let e : loop.i ≡ args.n = omega arith in
    subst (λ (m : ℕ). Put (rows_text (λ (j k : ℕ). get_or args.seed.now (j * args.d + k) nan) args.d m) args.at args.out.now loop.next loop.out) e loop.invariant.2
