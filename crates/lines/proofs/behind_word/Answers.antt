use Rattle.lines.proofs.Banners.{same_word, fails-none, fails-other}
use Rattle.lines.proofs.behind_word.Goals as goal
use mathlib.Core.Path.{◌∙◌}

pub returns-in_err-word : goal.returns-in_err-word
returns-in_err-word c = rw c.from_residual.ensures (fails-none _ _ c.in_err-word.ensures)

pub returns-then-not-eq_ignore_ascii_case : goal.returns-then-not-eq_ignore_ascii_case
returns-then-not-eq_ignore_ascii_case c =
    fails-other _ _ _ _ c.in_ok-word.ensures (same_word _ _ _ c.requires c.eq_ignore_ascii_case.ensures.test ∙ c.if-not-eq_ignore_ascii_case.true)

pub returns : goal.returns
returns c = record {
  word = c.in_ok-word.word.now;
  first = c.in_ok-word.ensures;
  passes = same_word _ _ _ c.requires c.eq_ignore_ascii_case.ensures.test ∙ c.if-not-eq_ignore_ascii_case.false;
}
