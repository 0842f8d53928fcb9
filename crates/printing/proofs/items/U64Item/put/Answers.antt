use Rattle.printing.proofs.Putting.{written-put, written-some}
use Rattle.printing.proofs.items.U64Item.put.Goals as goal

pub unwrap-requires : goal.unwrap-requires
unwrap-requires c = written-some _ _ _ _ _ c.requires c.write_decimal.ensures

pub returns : goal.returns
returns c = written-put _ _ _ _ _ c.requires c.write_decimal.ensures _ c.unwrap.ensures
