-- What was read of a Matrix Market file, as a host is told it. Definitions only.
use Rattle.std.specs.Prelude.{List, ℕ, Float, Result, Ok, Err}
use Rattle.input.specs.declared.refusal.Refusal.{Refusal}
use Rattle.input.specs.Said.{verdict_of, refusal_of}
use Rattle.matrix_market.specs.Outcome.{Outcome, outcome, Room, room}
use Rattle.matrix_market.specs.declared.Lengths.{Lengths}
use Rattle.matrix_market.specs.declared.Size.{Size}
use Rattle.threshcinch.specs.declared.markets.MarketRead.{MarketRead}
use Rattle.threshcinch.specs.declared.markets.MarketSizes.{MarketSizes}

abbrev pub outcome_in : MarketRead → List ℕ → List ℕ → List Float → Outcome
outcome_in r starts columns values = outcome (verdict_of r.verdict) r.rows r.entries starts columns values

abbrev pub room_in : MarketSizes → Room
room_in r = room (verdict_of r.verdict) r.starts r.entries

-- the reader's answers as C gets them: zeros with a refusal
abbrev pub read_told : Result Size Refusal → MarketRead
read_told (Ok s) = record { verdict = record { number = 0; place = 0 }; rows = s.rows; entries = s.entries }
read_told (Err r) = record { verdict = record { number = (refusal_of r).number; place = (refusal_of r).place }; rows = 0; entries = 0 }

abbrev pub sizes_told : Result Lengths Refusal → MarketSizes
sizes_told (Ok l) = record { verdict = record { number = 0; place = 0 }; starts = l.starts; entries = l.entries }
sizes_told (Err r) = record { verdict = record { number = (refusal_of r).number; place = (refusal_of r).place }; starts = 0; entries = 0 }
