use native.Mathlib.Omega.{arith}
use lib.ListN.{length}
use Rattle.input.specs.Said.{verdict_of}
use Rattle.input.proofs.Verdicts.{passed}
use Rattle.state.specs.Said.{counts_in}
use Rattle.printing.specs.Answer.{test_printed, answer_text, test_answer}
use Rattle.printing.proofs.Leaving.{leaves_refused, leaves_tested, put_front, put_count}
use Rattle.printing.proofs.answer.write_answer.Goals as goal

pub returns-in_err-test_printed : goal.returns-in_err-test_printed
unfolding test_answer
returns-in_err-test_printed c =
    let a = c.args in
    let v = verdict_of a.verdict in
    leaves_refused (test_printed v a.d a.n (length a.seed.now)) (answer_text v a.d a.n (counts_in a.counts) a.seed.now) a.out.now
    _ _ c.from_residual.ensures.1 c.in_err-test_printed.ensures

pub print_answer-end-requires : goal.print_answer-end-requires
print_answer-end-requires c = (passed c.in_ok-test_printed.ensures, omega arith)

pub slice_bounds-deliver-end : goal.slice_bounds-deliver-end
slice_bounds-deliver-end c =
    let a = c.args in
    let text = answer_text (verdict_of a.verdict) a.d a.n (counts_in a.counts) a.seed.now in
    put_count text _ c.print_answer-end.ensures.0 c.print_answer-end.ensures.2

pub returns : goal.returns
unfolding test_answer
returns c =
    let a = c.args in
    let v = verdict_of a.verdict in
    leaves_tested (test_printed v a.d a.n (length a.seed.now)) (answer_text v a.d a.n (counts_in a.counts) a.seed.now) a.out.now
    c.in_ok-test_printed.ensures (put_front _ _ c.print_answer-end.ensures.0 c.print_answer-end.ensures.2) c.deliver.ensures
