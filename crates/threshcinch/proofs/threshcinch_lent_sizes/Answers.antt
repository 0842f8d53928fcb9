use mathlib.Core.Path.{sym, ap, ◌∙◌}
use Rattle.definition.specs.Refusals.{Verdict}
use Rattle.input.proofs.Verdicts.{kept}
use Rattle.threshcinch.proofs.Told.{no_sizes, all_sizes, allowed}
use Rattle.threshcinch.proofs.threshcinch_lent_sizes.Goals as goal

pub returns-then-is_err : goal.returns-then-is_err
returns-then-is_err c =
    let a = c.args in
    let t = c.test_sizes-tested in
    record {
      verdict_value = c.from-verdict.ensures ∙ t.ensures;
      lengths_value = sym (no_sizes a.d a.rounds a.rows a.entries t.result (sym c.is_err.ensures.value ∙ c.if-is_err.true) t.ensures);
    }

pub lent_sizes-lengths-requires : goal.lent_sizes-lengths-requires
lent_sizes-lengths-requires c =
    let a = c.args in
    let t = c.test_sizes-tested in
    allowed a.d a.rounds a.rows a.entries (sym (ap (λ (v : Verdict). v.number) t.ensures) ∙ kept t.result (sym c.is_err.ensures.value ∙ c.if-is_err.false))

pub returns : goal.returns
returns c =
    let a = c.args in
    let t = c.test_sizes-tested in
    record {
      verdict_value = c.from-verdict.ensures ∙ t.ensures;
      lengths_value = c.lent_sizes-lengths.ensures ∙ sym (all_sizes a.d a.rounds a.rows a.entries t.result (sym c.is_err.ensures.value ∙ c.if-is_err.false) t.ensures);
    }
