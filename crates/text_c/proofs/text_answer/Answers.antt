use mathlib.Core.Path.{ap, ◌∙◌}
use Prim.Native.Nat.{ℕ}
use Rattle.std.specs.Prelude.{Option}
use Rattle.std.specs.Option.{unwrap_or}
use Rattle.text.proofs.Held.{length-is}
use Rattle.text_c.proofs.text_answer.Goals as goal

pub returns : goal.returns
returns c = (
  c.unwrap_or.ensures ∙ ap (λ (o : Option ℕ). unwrap_or o 0) c.answer.ensures.0 ∙ length-is c.args.bytes.now c.args.out.now,
  c.answer.ensures.1,
)
