use native.Mathlib.Omega.{arith}
use Rattle.files.specs.RunText.{run_text, test_run, test_write}
use Rattle.files.proofs.Fits.{text-fits}
use Rattle.input.specs.Said.{params_of}
use Rattle.input.proofs.Verdicts.{passed}
use Rattle.printing.proofs.Leaving.{leaves_refused, leaves_tested, put_front, put_count}
use Rattle.writing.proofs.write_run.Goals as goal

pub returns-in_err-test_run : goal.returns-in_err-test_run
unfolding test_write
returns-in_err-test_run c =
    let a = c.args in
    let g = a.graph in
    let p = params_of a.params in
    leaves_refused (test_run a.d p g.starts.now g.columns.now g.values.now) (run_text a.d p g.starts.now g.columns.now g.values.now) a.out.now
    _ _ c.from_residual.ensures.1 c.in_err-test_run.ensures

pub put_run-end-requires : goal.put_run-end-requires
put_run-end-requires c =
    let a = c.args in
    let g = a.graph in
    let p = params_of a.params in
    omega (arith, text-fits a.d p g.starts.now g.columns.now g.values.now (passed c.in_ok-test_run.ensures), c.blank-text.ensures)

pub slice_bounds-text-end : goal.slice_bounds-text-end
slice_bounds-text-end c =
    let a = c.args in
    let g = a.graph in
    let fits = text-fits a.d (params_of a.params) g.starts.now g.columns.now g.values.now (passed c.in_ok-test_run.ensures) in
    omega (arith, fits, c.put_run-end.ensures.0, c.put_run-end.auto.out, c.blank-text.ensures)

pub slice_bounds-deliver-end : goal.slice_bounds-deliver-end
slice_bounds-deliver-end c =
    let a = c.args in
    let g = a.graph in
    put_count (run_text a.d (params_of a.params) g.starts.now g.columns.now g.values.now) c.blank-text.result (omega (arith, c.put_run-end.ensures.0)) c.put_run-end.ensures.1

pub returns : goal.returns
unfolding test_write
returns c =
    let a = c.args in
    let g = a.graph in
    let p = params_of a.params in
    let text = run_text a.d p g.starts.now g.columns.now g.values.now in
    let made = put_front text c.blank-text.result {end = c.put_run-end.result} (omega (arith, c.put_run-end.ensures.0)) c.put_run-end.ensures.1 in
    leaves_tested (test_run a.d p g.starts.now g.columns.now g.values.now) text a.out.now c.in_ok-test_run.ensures made c.deliver.ensures
