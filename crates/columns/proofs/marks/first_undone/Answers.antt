-- What `position` found, or c, is the first chunk that is not done.
use Rattle.std.proofs.Common.{rules, tests, Option, ap, ◌∙◌, take, eqb, ℕ}
use Rattle.std.specs.Option.{unwrap_or}
use Rattle.std.proofs.lemmas.Iterator.{YieldsList-from_slice}
use Rattle.std.proofs.lemmas.Iterator.Search.{position_from_yields_List}
use lib.Seq.{length-take-le}
use Rattle.columns.proofs.Firsts.{position_first, first_or}
use Rattle.columns.proofs.marks.first_undone.Goals as goal

pub returns : goal.returns
returns c =
    let k = c.args.c in
    let marks = c.args.marks.now in
    c.unwrap_or.ensures
    ∙ ap (λ (o : Option ℕ). unwrap_or o k)
    (position_from_yields_List (λ mark. eqb mark 0) _ _ c.position.result c.position.ensures.ran (YieldsList-from_slice _ c.iter.ensures.rest) (λ x b q k. search (rules, tests)))
    ∙ first_or (λ mark. eqb mark 0) (take k marks) k (length-take-le k marks c.requires)
    ∙ position_first (λ mark. eqb mark 0) marks k c.requires
