use mathlib.Core.Path.{sym, ap, ◌∙◌}
use Rattle.repeated.specs.Blocks.{hits, first_of}
use Rattle.market.specs.Market.{has}
use Rattle.market.proofs.Entries.{other_of}
use Rattle.repeated.proofs.Repeats.{no_entry}
use Rattle.repeated.proofs.Keys.{line_new}
use Rattle.repeated.proofs.among.Goals as goal

pub returns-in_default : goal.returns-in_default
returns-in_default c = sym (no_entry _ _ (other_of _ c.in_default.not-Entry)).0

pub returns-then-look_up : goal.returns-then-look_up
unfolding hits
returns-then-look_up c =
    c.among_first.ensures
    ∙ ap (λ n. has (first_of c.args.text.now c.args.block n) c.in-Entry.row c.in-Entry.column) c.len.ensures
    ∙ sym (ap (hits _) c.in-Entry.is)

pub returns : goal.returns
returns c = sym (line_new _ _ c.in-Entry.is c.key_of.ensures c.requires.1 (c.look_up.ensures c.if-look_up.false))
