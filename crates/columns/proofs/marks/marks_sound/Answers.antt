-- What `all` answers is whether the first mark above 1 is none of the c.
use Rattle.std.proofs.Common.{rules, tests, ◌∙◌}
use Rattle.std.proofs.lemmas.Iterator.{YieldsList-from_slice}
use Rattle.std.proofs.lemmas.Iterator.Search.{all_from_yields_List}
use Rattle.columns.proofs.Firsts.{sound_take}
use Rattle.columns.proofs.marks.marks_sound.Goals as goal

pub returns : goal.returns
returns c =
    all_from_yields_List _ _ _ c.all.result c.all.ensures.ran (YieldsList-from_slice _ c.iter.ensures.rest) (λ x b q k. search (rules, tests))
    ∙ sound_take c.args.marks.now c.args.c c.requires
