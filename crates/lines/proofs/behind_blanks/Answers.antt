use mathlib.Core.Path.{sym}
use Rattle.lines.proofs.Words.{blanks-most, blanks-words, blanks-word}
use Rattle.lines.proofs.behind_blanks.Goals as goal

pub split_at-requires : goal.split_at-requires
split_at-requires c = blanks-most _ _ c.blanks_before.ensures

pub returns : goal.returns
returns c = rw c.split_at.ensures.back (record {
  words = sym (blanks-words _ _ c.blanks_before.ensures);
  here = blanks-word _ _ c.blanks_before.ensures;
})
