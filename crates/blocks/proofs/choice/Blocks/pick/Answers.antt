use native.Mathlib.Omega.{arith}
use borrow.Author.Rules.{rules}
use Rattle.blocks.specs.Chosen.{chosen}
use Rattle.blocks.proofs.Chosen.{chosen-third}
use Rattle.blocks.proofs.choice.Blocks.pick.Goals as goal

pub returns-in-0 : goal.returns-in-0
unfolding chosen
returns-in-0 c = search rules

pub returns-in-1 : goal.returns-in-1
unfolding chosen
returns-in-1 c = search rules

pub returns-in_default : goal.returns-in_default
returns-in_default c = chosen-third c.args.number _ _ _ (omega arith)
