use mathlib.Core.Path.{ap, ◌∙◌}
use Prim.Native.Nat.{ℕ}
use Rattle.held.specs.Marks.{cleared}
use Rattle.run.proofs.stage_end.close_stage.Goals as goal

pub returns : goal.returns
unfolding cleared
returns c =
    record {
      result_value = c.close_stage.ensures.result_value;
      marks_after = c.clear_marks.ensures ∙ ap (λ (n : ℕ). cleared n c.args.marks.now) c.chunk_count.ensures;
      ritz_record_after = c.close_stage.ensures.ritz_record_after;
    }
