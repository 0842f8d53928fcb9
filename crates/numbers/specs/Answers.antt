-- The code's answers as document 01's, and the two halves of `next_bound`. Definitions only.
use Rattle.std.specs.Prelude.{cond}
use Rattle.definition.specs.Arith.{Arith, ieee64}
use Rattle.definition.specs.MatvecCombine as Matvec
use Rattle.definition.specs.OrthonormalizeBlock as Block
use Rattle.numbers.specs.declared.Multipliers.{Multipliers}
use Rattle.numbers.specs.declared.Ending.{Ending}
use Rattle.numbers.specs.declared.Ending.TheVariants.{Kept, Refreshed, Zeroed}

abbrev pub multipliers_of : Multipliers → Matvec.Multipliers ieee64
multipliers_of m = record { of_mv = m.of_mv; of_v = m.of_v; of_prev = m.of_prev }

-- kept with its norm, refreshed, or zeroed
abbrev pub ending_of : Ending → Block.Ending ieee64
ending_of (Kept norm) = Block.kept norm
ending_of Refreshed = Block.refreshed
ending_of Zeroed = Block.zeroed

-- x raised to a least value, and lowered to a largest; a NaN becomes that value
abbrev pub raised : (A : Arith) → A.F → A.F → A.F
raised A x least = cond (A.lt least x) x least

abbrev pub lowered : (A : Arith) → A.F → A.F → A.F
lowered A x most = cond (A.lt x most) x most
