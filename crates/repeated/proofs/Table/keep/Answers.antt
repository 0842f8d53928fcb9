use mathlib.Core.Path.{sym, ap, ◌∙◌}
use Rattle.repeated.specs.Tables.{keys_of}
use Rattle.market.proofs.Entries.{other_of}
use Rattle.repeated.proofs.Repeats.{no_entry}
use Rattle.repeated.proofs.Keys.{line_kept}
use Rattle.repeated.proofs.Table.keep.Goals as goal

pub returns-in-Entry : goal.returns-in-Entry
returns-in-Entry c = λ seen h. line_kept seen _ c.in-Entry.is c.key_of.ensures h c.store.ensures

pub returns-in_default : goal.returns-in_default
returns-in_default c = λ seen h. h ∙ ap keys_of (sym (no_entry seen _ (other_of _ c.in_default.not-Entry)).1)
