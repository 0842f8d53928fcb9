-- Each arm is one stage's work in the whole lent memory.
use mathlib.Core.Path.{◌≡◌, refl}
use mathlib.Core.Logic.{⊎_elim}
use Rattle.definition.specs.Arith.{ieee64}
use Rattle.machine.specs.State.{Lists, State, Lent}
use Rattle.machine.specs.Work.{work_by, work}
use Rattle.state.specs.declared.stage.Stage.{Stage}
use Rattle.state.specs.declared.stage.Stage.TheVariants as at
use Rattle.state.specs.Said.{asked_in, lists_of, lent_in}
use Rattle.state.specs.Stages.{stage_in, StageAt}
use Rattle.stages.specs.Parts.{parts_of}
use Rattle.stages.proofs.Arms.{pass-by, arm}
use Rattle.stages.proofs.stage_work.Goals as goal
use Rattle.stages.proofs.stage_work.Goals.{Start}

-- the parts of the state as they came
abbrev parts : Start → State ieee64
parts s = parts_of s.args.parts

-- the graph and the lent memory as they came
abbrev graph : Start → Lists ieee64
graph s = lists_of s.args.graph

abbrev lent : Start → Lent ieee64
lent s =
    let a = s.args in
    lent_in a.inverse.now a.v0.now a.edge_columns.now a.edge_weights.now a.block0.now a.block1.now a.block2.now a.partials.now
    a.output.now

-- the work of the stage t is what is asked, where that is the state's
at_stage : (s : Start) (t : Stage) {r : Stage} {after : Lent ieee64} → StageAt s.args.parts.progress.stage r → r ≡ t
    → after ≡ work_by ieee64 (stage_in t) (parts s) (graph s) s.args.h (lent s)
    → after ≡ work ieee64 (parts s) (graph s) s.args.h (lent s)
at_stage s t e p w = arm (parts s) (graph s) s.args.h (lent s) t e p w

pub returns-in-Degrees : goal.returns-in-Degrees
returns-in-Degrees c =
    let s = (goal.at.returns-in-Degrees c).Start in
    let m = lent s in
    at_stage s at.Degrees c.from-stage.ensures c.in-Degrees.is
    (c.degrees_stage.ensures (graph s).columns m.edge_columns m.edge_weights m.block0 m.block1 m.block2 m.partials m.output)

pub returns-in-Edges : goal.returns-in-Edges
returns-in-Edges c =
    let s = (goal.at.returns-in-Edges c).Start in
    let m = lent s in
    at_stage s at.Edges c.from-stage.ensures c.in-Edges.is
    (c.edges_stage.ensures m.v0 m.block0 m.block1 m.block2 m.partials m.output)

pub returns-in-V0 : goal.returns-in-V0
returns-in-V0 c =
    let s = (goal.at.returns-in-V0 c).Start in
    let m = lent s in
    at_stage s at.V0 c.from-stage.ensures c.in-V0.is
    (c.v0_stage.ensures m.inverse m.edge_columns m.edge_weights m.block0 m.block1 m.block2 m.partials m.output)

pub returns-in-StartBlock : goal.returns-in-StartBlock
returns-in-StartBlock c =
    let s = (goal.at.returns-in-StartBlock c).Start in
    let m = lent s in
    at_stage s at.StartBlock c.from-stage.ensures c.in-StartBlock.is
    (c.start_stage.ensures m.inverse m.v0 m.edge_columns m.edge_weights m.block1 m.block2 m.partials m.output)

pub returns-in-NormBefore : goal.returns-in-NormBefore
returns-in-NormBefore c =
    let s = (goal.at.returns-in-NormBefore c).Start in
    let m = lent s in
    let done = c.norm_stage.ensures m.inverse m.v0 m.edge_columns m.edge_weights m.output in
    ⊎_elim (λ k. at_stage s at.NormBefore c.from-stage.ensures k done) (λ k. at_stage s at.NormAfter c.from-stage.ensures k done) c.in-NormBefore.is

pub returns-in-FirstDots : goal.returns-in-FirstDots
returns-in-FirstDots c =
    let s = (goal.at.returns-in-FirstDots c).Start in
    let m = lent s in
    let done = c.dots_stage.ensures m.inverse m.edge_columns m.edge_weights m.output in
    ⊎_elim (λ k. at_stage s at.FirstDots c.from-stage.ensures k done) (λ k. at_stage s at.SecondDots c.from-stage.ensures k done) c.in-FirstDots.is

pub returns-in-FirstSubtract : goal.returns-in-FirstSubtract
returns-in-FirstSubtract c =
    let s = (goal.at.returns-in-FirstSubtract c).Start in
    let m = lent s in
    let done = c.subtract_stage.ensures m.inverse m.edge_columns m.edge_weights m.partials m.output in
    ⊎_elim (λ k. at_stage s at.FirstSubtract c.from-stage.ensures k done) (λ k. at_stage s at.SecondSubtract c.from-stage.ensures k done) c.in-FirstSubtract.is

pub returns-in-Write : goal.returns-in-Write
returns-in-Write c =
    let s = (goal.at.returns-in-Write c).Start in
    let m = lent s in
    at_stage s at.Write c.from-stage.ensures c.in-Write.is
    (c.write_stage.ensures m.inverse m.v0 m.edge_columns m.edge_weights m.partials m.output)

pub returns-in-Products : goal.returns-in-Products
returns-in-Products c =
    let s = (goal.at.returns-in-Products c).Start in
    let m = lent s in
    at_stage s at.Products c.from-stage.ensures c.in-Products.is
    (c.products_stage.ensures m.inverse m.v0 m.edge_columns m.edge_weights m.output)

pub returns-in-Rotate : goal.returns-in-Rotate
returns-in-Rotate c =
    let s = (goal.at.returns-in-Rotate c).Start in
    let m = lent s in
    at_stage s at.Rotate c.from-stage.ensures c.in-Rotate.is
    (c.rotate_stage.ensures m.v0 m.edge_columns m.edge_weights m.partials)

pub returns-in-Sums : goal.returns-in-Sums
returns-in-Sums c =
    let s = (goal.at.returns-in-Sums c).Start in
    let m = lent s in
    at_stage s at.Sums c.from-stage.ensures c.in-Sums.is
    (c.sums_stage.ensures m.inverse m.v0 m.edge_columns m.edge_weights m.block0 m.block1 m.block2)

pub returns-in-Centre : goal.returns-in-Centre
returns-in-Centre c =
    let s = (goal.at.returns-in-Centre c).Start in
    let m = lent s in
    at_stage s at.Centre c.from-stage.ensures c.in-Centre.is
    (c.centre_stage.ensures m.inverse m.v0 m.edge_columns m.edge_weights m.block0 m.block1 m.block2 m.partials)

pub returns-in-Squares : goal.returns-in-Squares
returns-in-Squares c =
    let s = (goal.at.returns-in-Squares c).Start in
    let m = lent s in
    at_stage s at.Squares c.from-stage.ensures c.in-Squares.is
    (c.squares_stage.ensures m.inverse m.v0 m.edge_columns m.edge_weights m.block0 m.block1 m.block2)

pub returns-in-Scale : goal.returns-in-Scale
returns-in-Scale c =
    let s = (goal.at.returns-in-Scale c).Start in
    let m = lent s in
    at_stage s at.Scale c.from-stage.ensures c.in-Scale.is
    (c.scale_stage.ensures m.inverse m.v0 m.edge_columns m.edge_weights m.block0 m.block1 m.block2 m.partials)

pub returns-in-FilterPass : goal.returns-in-FilterPass
returns-in-FilterPass c =
    let s = (goal.at.returns-in-FilterPass c).Start in
    let m = lent s in
    let p = c.args.parts.progress in
    at_stage s at.FilterPass c.from-stage.ensures c.in-FilterPass.is
    (pass-by (asked_in c.args.parts.asked) p.current p.previous (graph s) s.args.h m c.filter_by-by.ensures
    (c.pass_stage.ensures (graph s).columns (graph s).values m.v0 m.partials m.output))

pub returns-in-PlainPass : goal.returns-in-PlainPass
returns-in-PlainPass c =
    let s = (goal.at.returns-in-PlainPass c).Start in
    let m = lent s in
    let p = c.args.parts.progress in
    at_stage s at.PlainPass c.from-stage.ensures c.in-PlainPass.is
    (pass-by (asked_in c.args.parts.asked) p.current p.current (graph s) s.args.h m c.plain_multipliers-by.ensures
    (c.pass_stage-in-PlainPass.ensures (graph s).columns (graph s).values m.v0 m.partials m.output))

pub returns-in-Empty : goal.returns-in-Empty
returns-in-Empty c =
    let s = (goal.at.returns-in-Empty c).Start in
    ⊎_elim (λ k. at_stage s at.Empty c.from-stage.ensures k refl) (λ k. at_stage s at.Ended c.from-stage.ensures k refl) c.in-Empty.is
