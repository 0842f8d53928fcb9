use mathlib.Core.Path.{sym, ap, ◌∙◌}
use Rattle.market.specs.Market.{Read}
use Rattle.matrix_market.specs.Outcome.{outcome_of}
use Rattle.matrix_market.proofs.Outcomes.{out_fault}
use Rattle.matrix_market.proofs.read_matrix_market.Goals as goal

pub read_right-requires : goal.read_right-requires
read_right-requires c = c.in-Ok.ensures.counted

pub returns-in-Ok : goal.returns-in-Ok
returns-in-Ok c =
    let a = c.args in
    c.read_right.ensures
    ∙ sym (ap (λ (r : Read). outcome_of r a.starts.now a.columns.now a.values.now) c.in-Ok.ensures.is)

pub returns-in-Err : goal.returns-in-Err
returns-in-Err c =
    let a = c.args in
    out_fault _ a.starts.now a.columns.now a.values.now
    ∙ sym (ap (λ (r : Read). outcome_of r a.starts.now a.columns.now a.values.now) c.in-Err.ensures.is)
