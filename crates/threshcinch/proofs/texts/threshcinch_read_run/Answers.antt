use mathlib.Core.Path.{ap, ◌∙◌}
use Rattle.input.specs.declared.Verdict.{Verdict}
use Rattle.input.proofs.Determined.{verdict-once}
use Rattle.threshcinch.specs.Texts.{told_with, run_told}
use Rattle.threshcinch.proofs.texts.threshcinch_read_run.Goals as goal

pub returns : goal.returns
returns c =
    let r = c.read_run-file in
    ap (λ (v : Verdict). told_with v r.result) (verdict-once _ _ (c.from-verdict.ensures ∙ c.test_text-tested.ensures)) ∙ ap run_told r.ensures
