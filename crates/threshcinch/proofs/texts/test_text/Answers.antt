use mathlib.Core.Path.{sym, ap}
use mathlib.Core.Bool.{Bool}
use Rattle.input.specs.Said.{verdict_of}
use Rattle.threshcinch.specs.Texts.{text_verdict}
use Rattle.threshcinch.proofs.texts.test_text.Goals as goal

pub returns-then-is_right : goal.returns-then-is_right
returns-then-is_right c = sym (ap (λ (b : Bool). verdict_of (text_verdict b c.args.line)) c.if-is_right.true)

pub returns-else-is_right : goal.returns-else-is_right
returns-else-is_right c = sym (ap (λ (b : Bool). verdict_of (text_verdict b c.args.line)) c.if-is_right.false)
