use mathlib.Core.Path.{sym, ◌∙◌}
use Rattle.lines.specs.Lines.{words_of}
use Rattle.lines.proofs.Banners.{are_end}
use Rattle.lines.proofs.are_words.Goals as goal

pub returns : goal.returns
returns c = are_end _ (λ r. r.0.now) (λ r. words_of r.1.now) _ _ c.next_word.ensures c.is_none.ensures ∙ sym c.in-Some.ensures
