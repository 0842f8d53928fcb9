-- word by word
use mathlib.Core.Path.{◌∙◌}
use Rattle.lines.specs.Lines.{words_of}
use Rattle.lines.proofs.Banners.{behind, behind_last}
use Rattle.lines.proofs.behind_words.Goals as goal

pub returns-in_err-line-2 : goal.returns-in_err-line-2
returns-in_err-line-2 c = rw c.from_residual-in_err-line-2.ensures (behind _ _ _ c.in_ok-line.ensures _ ∙ c.in_err-line-2.ensures _)

pub returns-in_err-line-3 : goal.returns-in_err-line-3
returns-in_err-line-3 c =
    rw c.from_residual-in_err-line-3.ensures
    (behind _ _ _ c.in_ok-line.ensures _ ∙ behind _ _ _ c.in_ok-line-2.ensures _ ∙ c.in_err-line-3.ensures _)

pub returns : goal.returns
returns c = behind_last _ _ _ (λ r. words_of r.now) _
    (behind _ _ _ c.in_ok-line.ensures _ ∙ behind _ _ _ c.in_ok-line-2.ensures _ ∙ behind _ _ _ c.in_ok-line-3.ensures _) c.behind_word-4.ensures
