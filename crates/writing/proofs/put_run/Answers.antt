use mathlib.Core.Path.{ap, subst}
use mathlib.Core.List.{List}
use Prim.Native.Nat.{ℕ}
use native.Mathlib.Omega.{arith}
use lib.ListN.{length}
use Rattle.digits.specs.Digits.{decimal}
use Rattle.input.specs.Said.{params_of}
use Rattle.printing.proofs.Putting.{Put}
use Rattle.printing.specs.Printed.{bits_text}
use Rattle.reading.specs.Grammar.{starts_line, columns_line, values_line}
use Rattle.writing.specs.Putting.{line_by, head_text}
use Rattle.writing.proofs.Runs.{put_four, run-lines, run_length}
use Rattle.writing.proofs.put_run.Goals as goal

pub put_head-at4-requires : goal.put_head-at4-requires
put_head-at4-requires c =
    let a = c.args in
    let g = a.graph in
    omega (arith, c.requires, run_length a.d (params_of a.params) g.starts.now g.columns.now g.values.now)

pub put_line-at5-requires : goal.put_line-at5-requires
put_line-at5-requires c =
    let a = c.args in
    let g = a.graph in
    omega (arith, c.requires, run_length a.d (params_of a.params) g.starts.now g.columns.now g.values.now, c.put_head-at4.ensures.0, c.put_head-at4.auto.out)

pub put_line-at6-requires : goal.put_line-at6-requires
put_line-at6-requires c =
    let a = c.args in
    let g = a.graph in
    omega (
      arith,
      c.requires,
      run_length a.d (params_of a.params) g.starts.now g.columns.now g.values.now,
      c.put_head-at4.ensures.0,
      c.put_head-at4.auto.out,
      c.put_line-at5.ensures.0,
      c.put_line-at5.auto.out,
    )

pub put_line-requires : goal.put_line-requires
put_line-requires c =
    let a = c.args in
    let g = a.graph in
    omega (
      arith,
      c.requires,
      run_length a.d (params_of a.params) g.starts.now g.columns.now g.values.now,
      c.put_head-at4.ensures.0,
      c.put_head-at4.auto.out,
      c.put_line-at5.ensures.0,
      c.put_line-at5.auto.out,
      c.put_line-at6.ensures.0,
      c.put_line-at6.auto.out,
    )

pub returns : goal.returns
returns c =
    let a = c.args in
    let g = a.graph in
    let p = params_of a.params in
    let m = ap length (run-lines a.d p g.starts.now g.columns.now g.values.now) in
    let end = c.put_line in
    subst (λ (text : List ℕ). Put text 0 a.out.now end.result end.new.out) (run-lines a.d p g.starts.now g.columns.now g.values.now)
    (put_four (head_text a.d p) (line_by decimal starts_line.name g.starts.now) (line_by decimal columns_line.name g.columns.now) (line_by bits_text values_line.name g.values.now) 0 a.out.now
    (omega (arith, c.requires, m)) c.put_head-at4.ensures c.put_line-at5.ensures c.put_line-at6.ensures end.ensures)
