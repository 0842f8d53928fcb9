use Rattle.input.specs.Said.{verdict_of}
use Rattle.state.specs.Said.{counts_in}
use Rattle.printing.proofs.Answers.{seed_passed, refusal-says, seed-says}
use Rattle.printing.proofs.Leaving.{same_text}
use Rattle.printing.proofs.answer.print_answer.Goals as goal

pub returns-then-verdict-ne0 : goal.returns-then-verdict-ne0
returns-then-verdict-ne0 c =
    let a = c.args in
    same_text a.out.now (refusal-says (verdict_of a.verdict) a.d a.n (counts_in a.counts) a.seed.now c.if-verdict-ne0.true) c.print_refusal.ensures

pub print_seed-requires : goal.print_seed-requires
print_seed-requires c =
    let a = c.args in
    let ok = seed_passed (verdict_of a.verdict) a.d a.n c.if-verdict-ne0.false c.requires.0 in
    record { n_bound = (ok.rows, ok.dims, ok.long); room_in_bounds = c.requires.1 }

pub returns : goal.returns
returns c =
    let a = c.args in
    same_text a.out.now (seed-says (verdict_of a.verdict) a.d a.n (counts_in a.counts) a.seed.now c.if-verdict-ne0.false) c.print_seed.ensures
