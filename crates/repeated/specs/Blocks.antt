-- What a look for some entries in the lines behind them finds. Definitions only.
use Rattle.std.specs.Prelude.{Bool, false, cond, List, [], ◌∷◌, ◌++◌, ℕ, suc, leb, take}
use Rattle.lines.specs.Kinds.{kinds_at}
use Rattle.lines.specs.declared.Kind.{Kind}
use Rattle.lines.specs.declared.Kind.TheVariants as K
use Rattle.market.specs.Market.{Entry, has}
use Rattle.market.specs.Passes.{entries_in}

-- so many entries of a text, from a place on
abbrev pub first_of : List ℕ → ℕ → ℕ → List Entry
first_of text from count = take count (entries_in (kinds_at text from))

-- whether a line's entry is among some; and those with it behind them
unfoldable pub hits : List Entry → Kind → Bool
hits seen K.Blank = false
hits seen K.Comment = false
hits seen (K.Entry r c) = has seen r c
hits seen (K.Size r c m) = false
hits seen K.Other = false

unfoldable pub adding : List Entry → Kind → List Entry
adding seen K.Blank = seen
adding seen K.Comment = seen
adding seen (K.Entry r c) = seen ++ (record { row = r; column = c } ∷ [])
adding seen (K.Size r c m) = seen
adding seen K.Other = seen

-- from line k on, up to line `limit`: the first line whose entry is one of those seen; or `limit`
unfoldable pub meet_from : List Entry → ℕ → ℕ → List Kind → ℕ
meet_from seen k limit [] = limit
meet_from seen k limit (x ∷ ks) = cond (leb limit k) limit (cond (hits seen x) k (meet_from seen (suc k) limit ks))
