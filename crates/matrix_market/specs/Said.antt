-- The crate's own types as the definitions have them, and what its inner functions ask and answer. Definitions only.
use Rattle.std.specs.Prelude.{List, [], ◌≡◌, ℕ, ◌+◌, ◌≤◌, Result, Ok, Err, Float, length}
use Rattle.definition.specs.Numbers.{rows_most, entries_most}
use Rattle.definition.specs.Refusals.{accepted}
use Rattle.input.specs.declared.refusal.Refusal.{Refusal}
use Rattle.input.specs.Said.{refusal_of}
use Rattle.lines.specs.Kinds.{kinds_at}
use Rattle.market.specs.Market.{Entry, Read, market, fault, body}
use Rattle.market.specs.Graph.{placed_of, with_starts, with_columns, with_values}
use Rattle.market.specs.Passes.{entries_in}
use Rattle.matrix_market.specs.Outcome.{Outcome, outcome, Room, room}
use Rattle.matrix_market.specs.declared.Lengths.{Lengths}
use Rattle.matrix_market.specs.declared.Size.{Size}
use Rattle.matrix_market.specs.declared.Tested.{Tested}

-- what the readers answer, with the lent lists; zeros with a refusal
abbrev pub outcome_in : Result Size Refusal → List ℕ → List ℕ → List Float → Outcome
outcome_in (Ok s) starts columns values = outcome accepted s.rows s.entries starts columns values
outcome_in (Err r) starts columns values = outcome (refusal_of r) 0 0 starts columns values

abbrev pub room_in : Result Lengths Refusal → Room
room_in (Ok l) = room accepted l.starts l.entries
room_in (Err r) = room (refusal_of r) 0 0

-- the entries behind the size line, which ends before `at`
abbrev pub entries_at : List ℕ → ℕ → List Entry
entries_at text at = entries_in (kinds_at text at)

-- what a text was found to be
abbrev pub read_told : List ℕ → Result Tested ℕ → Read
read_told text (Ok t) = market t.n (entries_at text t.at)
read_told text (Err k) = fault k

-- a right text, with its entries behind `at`
pub record Behind (text : List ℕ) (n at : ℕ) : Type 0 where
  pub m : ℕ
  pub k : ℕ
  pub is : body n m [] k (kinds_at text at) ≡ market n (entries_at text at)
  pub within : at ≤ length text

pub record Counted (text : List ℕ) (n at entries doubles : ℕ) : Type 0 where
  pub behind : Behind text n at
  pub placed : placed_of n (entries_at text at) ≡ entries + doubles
  pub few : entries ≤ length text
  pub doubled : doubles ≤ entries

abbrev pub CountedBy : List ℕ → Result Tested ℕ → Type 0
CountedBy text (Ok t) = Counted text t.n t.at t.entries t.doubles
CountedBy text (Err k) = Unit

pub record Tests (read : Read) (text : List ℕ) (r : Result Tested ℕ) : Type 0 where
  pub is : read ≡ read_told text r
  pub counted : CountedBy text r

-- what placing asks
pub record Ready (text : List ℕ) (n at : ℕ) (starts columns values : ℕ) : Type 0 where
  pub behind : Behind text n at
  pub rows : n ≤ rows_most
  pub placed : placed_of n (entries_at text at) ≤ entries_most
  pub starts-room : n + 1 ≤ starts
  pub columns-room : placed_of n (entries_at text at) ≤ columns
  pub values-room : placed_of n (entries_at text at) ≤ values

-- what placing leaves
pub record Placed (n : ℕ) (es : List Entry) (starts columns : List ℕ) (values : List Float) (starts' columns' : List ℕ) (values' : List Float) : Type 0 where
  pub starts_are : starts' ≡ with_starts n es starts
  pub columns_are : columns' ≡ with_columns n es columns
  pub values_are : values' ≡ with_values n es values
