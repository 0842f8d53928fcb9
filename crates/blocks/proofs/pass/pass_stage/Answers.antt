use mathlib.Core.Path.{◌≡◌, sym, ◌∙◌}
use native.Mathlib.Omega.{arith}
use Rattle.machine.specs.Work.{free_block}
use Rattle.numbers.specs.Answers.{multipliers_of}
use Rattle.state.specs.Said.{asked_in, lent_in, lists_in}
use Rattle.blocks.proofs.Passes.{free_of, apart_first, apart_second, apart_third, pass-lent}
use Rattle.blocks.proofs.pass.pass_stage.Goals as goal

pub returns-in-0 : goal.returns-in-0
returns-in-0 c =
    let a = c.args in
    let g = a.edges in
    let h = g.chunk in
    let p = h.progress in
    let e : free_block p.current a.previous ≡ 0 = sym c.free_block.ensures ∙ c.in-0.is in
    λ columns values v0 partials output.
    let m = lent_in g.op.inverse.now v0 g.op.columns.now g.op.weights.now a.block0.now a.block1.now a.block2.now partials output in
    pass-lent (asked_in h.asked) (multipliers_of a.by) p.current a.previous (lists_in g.op.starts.now columns values) h.number m 0 e
    (apart_first a.block1.now m p.current a.previous h.progress_ready.current c.requires.previous_bound e) c.pass_block.ensures

pub returns-in-1 : goal.returns-in-1
returns-in-1 c =
    let a = c.args in
    let g = a.edges in
    let h = g.chunk in
    let p = h.progress in
    let e : free_block p.current a.previous ≡ 1 = sym c.free_block.ensures ∙ c.in-1.is in
    λ columns values v0 partials output.
    let m = lent_in g.op.inverse.now v0 g.op.columns.now g.op.weights.now a.block0.now a.block1.now a.block2.now partials output in
    pass-lent (asked_in h.asked) (multipliers_of a.by) p.current a.previous (lists_in g.op.starts.now columns values) h.number m 1 e
    (apart_second a.block2.now m p.current a.previous h.progress_ready.current c.requires.previous_bound e) c.pass_block-in-1.ensures

pub returns-in_default : goal.returns-in_default
returns-in_default c =
    let a = c.args in
    let g = a.edges in
    let h = g.chunk in
    let p = h.progress in
    let e : free_block p.current a.previous ≡ 2 = omega (arith, c.free_block.ensures, (free_of p.current a.previous h.progress_ready.current c.requires.previous_bound).below) in
    λ columns values v0 partials output.
    let m = lent_in g.op.inverse.now v0 g.op.columns.now g.op.weights.now a.block0.now a.block1.now a.block2.now partials output in
    pass-lent (asked_in h.asked) (multipliers_of a.by) p.current a.previous (lists_in g.op.starts.now columns values) h.number m 2 e
    (apart_third a.block1.now m p.current a.previous h.progress_ready.current c.requires.previous_bound e) c.pass_block-in_default.ensures
