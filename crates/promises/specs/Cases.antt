-- "Numbers to check", with the case that speaks of calls: one chunk, offered twice: 13; chunk 1: 12. Definitions only.
use Rattle.std.specs.Prelude.{List, [], ◌∷◌, ◌++◌, ℕ, Float, replicate}
use Rattle.std.specs.Float.{binary64}
use Rattle.std.specs.Float.Ieee.{of_bits}
use Rattle.definition.specs.Arith.{ieee64}
use Rattle.definition.specs.Cases as definition
use Rattle.definition.specs.Cases.{Case, case, says}
use Rattle.definition.specs.Numbers.{defaults}
use Rattle.held.specs.Calls.{chunk}
use Rattle.machine.specs.State.{Lists, Lent}
use Rattle.machine.specs.Calls.{Outcome, open_call}
use Rattle.promises.specs.Promises.{call_on}

-- one row with no entries, D = 1, the default parameters, and just enough memory
abbrev pub one_row : Lists ieee64
one_row = record { starts = 0 ∷ 0 ∷ []; columns = []; values = [] }

abbrev pub zeros : ℕ → List Float
zeros n = replicate n (of_bits binary64 0)

abbrev pub enough : Lent ieee64
enough = record { inverse = zeros 1; v0 = zeros 1; edge_columns = []; edge_weights = []; block0 = zeros 9; block1 = zeros 9; block2 = zeros 9; partials = zeros 81; output = zeros 1; ritz_record = zeros 50 }

abbrev pub begun : Outcome ieee64
begun = open_call ieee64 1 defaults one_row enough (0 ∷ [])

abbrev pub offered : Outcome ieee64
offered = call_on ieee64 one_row (chunk 0) begun

unfoldable pub cases : List Case
cases =
    definition.cases
    ++ case 10 (says begun.verdict 0 0)
    ∷ case 10 (says offered.verdict 0 0)
    ∷ case 10 (says (call_on ieee64 one_row (chunk 0) offered).verdict 13 0)
    ∷ case 10 (says (call_on ieee64 one_row (chunk 1) offered).verdict 12 1)
    ∷ case 10 (says (call_on ieee64 one_row (chunk 1) begun).verdict 12 1)
    ∷ []
