-- each way out is a case of `is_banner`.
use mathlib.Core.Path.{refl, sym, ap, ◌∙◌}
use mathlib.Core.Bool.{false}
use borrow.Author.Tests.{lt-leb}
use Rattle.lines.specs.Banner.{are_words}
use Rattle.lines.specs.Lines.{words_of}
use Rattle.lines.specs.Parts.{four_tests}
use Rattle.lines.proofs.Words.{word-most}
use Rattle.lines.proofs.Banners.{banner-by, other-word, banner-word}
use Rattle.lines.proofs.is_banner.Goals as goal

pub returns-then-line-gt-BYTES_MOST : goal.returns-then-line-gt-BYTES_MOST
returns-then-line-gt-BYTES_MOST c = sym (banner-by _ false _ _ (lt-leb _ _ c.if-line-gt-BYTES_MOST.true) refl refl)

pub split_at-requires : goal.split_at-requires
split_at-requires c = word-most _ _ c.word_length.ensures

pub returns-then-ne : goal.returns-then-ne
returns-then-ne c = sym (other-word _ _ c.word_length.ensures (rw (c.as_slice.ensures, c.split_at.ensures.front) at c.if-ne.ensures))

pub returns : goal.returns
returns c =
    c.are_words.ensures ∙ ap (λ w. are_words four_tests (words_of w)) c.split_at.ensures.back
    ∙ sym (banner-word _ _ c.word_length.ensures c.if-line-gt-BYTES_MOST.false (rw (c.as_slice.ensures, c.split_at.ensures.front) at c.if-ne.ensures))
