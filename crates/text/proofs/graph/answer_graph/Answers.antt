use Rattle.input.specs.Said.{params_of}
use Rattle.text.proofs.Small.{is-written, answers}
use Rattle.text.proofs.graph.answer_graph.Goals as goal

pub unwrap-requires : goal.unwrap-requires
unwrap-requires c =
    let a = c.args in
    let g = a.graph in
    is-written a.d (params_of a.params) g.starts.now g.columns.now g.values.now c.embed-embedded.ensures a.out.now _
    c.row_count.ensures c.requires.0 c.requires.2 c.write_answer.ensures

pub returns : goal.returns
returns c =
    let a = c.args in
    let g = a.graph in
    answers a.d (params_of a.params) g.starts.now g.columns.now g.values.now c.embed-embedded.ensures a.out.now _
    c.row_count.ensures c.requires.0 c.requires.2 c.write_answer.ensures c.unwrap.ensures
