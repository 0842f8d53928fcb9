use mathlib.Core.Path.{ap, subst}
use mathlib.Core.List.{List, [], ◌∷◌}
use Prim.Native.Nat.{ℕ}
use native.Mathlib.Omega.{arith}
use lib.ListN.{length}
use Rattle.digits.specs.Digits.{decimal}
use Rattle.input.specs.Said.{params_of}
use Rattle.printing.proofs.Putting.{Put}
use Rattle.printing.specs.Printed.{bits_text}
use Rattle.reading.specs.Grammar.{d_line, rounds_line, degree_line, seed_std_line}
use Rattle.writing.specs.Putting.{line_by}
use Rattle.writing.proofs.Runs.{put_four, head-lines, head-length}
use Rattle.writing.proofs.put_head.Goals as goal

pub put_line-at1-requires : goal.put_line-at1-requires
put_line-at1-requires c = omega (arith, c.requires, head-length c.args.d (params_of c.args.params))

pub put_line-at2-requires : goal.put_line-at2-requires
put_line-at2-requires c =
    omega (arith, c.requires, head-length c.args.d (params_of c.args.params), c.put_line-at1.ensures.0, c.put_line-at1.auto.out)

pub put_line-at3-requires : goal.put_line-at3-requires
put_line-at3-requires c =
    omega (
      arith,
      c.requires,
      head-length c.args.d (params_of c.args.params),
      c.put_line-at1.ensures.0,
      c.put_line-at1.auto.out,
      c.put_line-at2.ensures.0,
      c.put_line-at2.auto.out,
    )

pub put_line-requires : goal.put_line-requires
put_line-requires c =
    omega (
      arith,
      c.requires,
      head-length c.args.d (params_of c.args.params),
      c.put_line-at1.ensures.0,
      c.put_line-at1.auto.out,
      c.put_line-at2.ensures.0,
      c.put_line-at2.auto.out,
      c.put_line-at3.ensures.0,
      c.put_line-at3.auto.out,
    )

pub returns : goal.returns
returns c =
    let a = c.args in
    let p = params_of a.params in
    let m = ap length (head-lines a.d p) in
    let end = c.put_line in
    subst (λ (text : List ℕ). Put text 0 a.out.now end.result end.new.out) (head-lines a.d p)
    (put_four (line_by decimal d_line.name (a.d ∷ [])) (line_by decimal rounds_line.name (p.rounds ∷ [])) (line_by decimal degree_line.name (p.degree ∷ []))
    (line_by bits_text seed_std_line.name (p.seed_std ∷ [])) 0 a.out.now
    (omega (arith, c.requires, m)) c.put_line-at1.ensures c.put_line-at2.ensures c.put_line-at3.ensures end.ensures)
