-- Contracts that speak of `ending_of r` or `multipliers_of r` leave one r only. Assumes nothing.
use Rattle.std.proofs.Common.{◌≡◌, sym, refl, ap, ◌∙◌}
use Rattle.definition.specs.Arith.{ieee64}
use Rattle.definition.specs.MatvecCombine as Matvec
use Rattle.definition.specs.OrthonormalizeBlock as Block
use Rattle.numbers.specs.declared.Multipliers.{Multipliers}
use Rattle.numbers.specs.declared.Ending.{Ending}
use Rattle.numbers.specs.declared.Ending.TheVariants.{Kept, Refreshed, Zeroed}
use Rattle.numbers.specs.Answers.{multipliers_of, ending_of}

pub multipliers-once : (a b : Multipliers) → multipliers_of a ≡ multipliers_of b → a ≡ b
multipliers-once a b h = ap back h
  where
    back : Matvec.Multipliers ieee64 → Multipliers
    back m = record { of_mv = m.of_mv; of_v = m.of_v; of_prev = m.of_prev }

abbrev ending_back : Block.Ending ieee64 → Ending
ending_back (Block.kept norm) = Kept norm
ending_back Block.refreshed = Refreshed
ending_back Block.zeroed = Zeroed

ending_back_lem : (e : Ending) → ending_back (ending_of e) ≡ e
ending_back_lem (Kept norm) = refl
ending_back_lem Refreshed = refl
ending_back_lem Zeroed = refl

pub ending-once : (a b : Ending) → ending_of a ≡ ending_of b → a ≡ b
ending-once a b h = sym (ending_back_lem a) ∙ ap ending_back h ∙ ending_back_lem b
