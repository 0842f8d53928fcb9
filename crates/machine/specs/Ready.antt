-- What an accepted call has shown: what a chunk's work and a stage's closing may rest on. Definitions only; `proofs.Ready` shows them of every accepted call.
use Rattle.std.specs.Prelude.{◌≡◌, true, List, ℕ, ◌+◌, ◌*◌, ◌≤◌, ◌<◌, length, get_or}
use Rattle.definition.specs.Arith.{Arith}
use Rattle.definition.specs.Numbers.{first_row, dims_most, rows_most, entries_most, rounds_most, degree_most}
use Rattle.definition.specs.Requirements.{Starts, Columns}
use Rattle.definition.specs.SpectralEmbedding.{Counts}
use Rattle.machine.specs.State.{Asked, wide, chunk_count, order_room, Lists, Progress, State, Lent}
use Rattle.machine.specs.Ranges.{reads_starts, reads_edges}

pub record AskedReady (a : Asked) : Type 0 where
  pub dims-least : 1 ≤ a.dims
  pub dims-most : a.dims ≤ dims_most
  pub rows-least : 1 ≤ a.rows
  pub rows-most : a.rows ≤ rows_most
  pub entries-most : a.entries ≤ entries_most
  pub rounds-least : 1 ≤ a.rounds
  pub rounds-most : a.rounds ≤ rounds_most
  pub degree-least : 1 ≤ a.degree
  pub degree-most : a.degree ≤ degree_most

pub record CountsReady (a : Asked) (t : Counts) : Type 0 where
  pub passes : t.passes ≤ a.rounds * (a.degree + 1)
  pub refreshed : t.refreshed ≤ a.rounds * wide a
  pub zeroed : t.zeroed ≤ a.rounds * wide a
  pub isolated : t.isolated ≤ a.rows

module _ (A : Arith) where
  pub record ProgressReady (a : Asked) (p : Progress A) : Type 0 where
    pub round : p.round < a.rounds
    pub pass : p.pass < a.degree
    pub column : p.column < wide a
    pub attempt : p.attempt ≤ 1
    pub current : p.current < 3
    pub previous : p.previous < 3

  pub record StateReady (s : State A) : Type 0 where
    pub asked : AskedReady s.asked
    pub progress : ProgressReady s.asked s.progress
    pub counts : CountsReady s.asked s.counts
    pub order : (j : ℕ) → j < order_room → get_or s.order j 0 < wide s.asked

  -- the lists that chunks work on
  pub record WorkReady (a : Asked) (m : Lent A) : Type 0 where
    pub inverse : a.rows ≤ length m.inverse
    pub v0 : a.rows ≤ length m.v0
    pub edge_columns : a.entries ≤ length m.edge_columns
    pub edge_weights : a.entries ≤ length m.edge_weights
    pub block0 : a.rows * wide a ≤ length m.block0
    pub block1 : a.rows * wide a ≤ length m.block1
    pub block2 : a.rows * wide a ≤ length m.block2
    pub partials : chunk_count a * wide a * wide a ≤ length m.partials
    pub output : a.rows * a.dims ≤ length m.output

  -- and the Ritz record, which closing writes
  pub record LentReady (a : Asked) (m : Lent A) : Type 0 where
    pub lists : WorkReady a m
    pub ritz_record : a.rounds * (wide a + 1) ≤ length m.ritz_record

  pub record ListsReady (a : Asked) (g : Lists A) : Type 0 where
    pub starts : a.rows < length g.starts
    pub columns : a.entries ≤ length g.columns
    pub values : a.entries ≤ length g.values

  -- where the stage reads them: the starts of the chunk's rows, and the columns of their entries
  pub record RowsReady (st : ℕ) (a : Asked) (g : Lists A) (m : Lent A) (h : ℕ) : Type 0 where
    pub starts : reads_starts st ≡ true → Starts g.starts (first_row a.rows h) (first_row a.rows (h + 1)) a.entries
    pub columns : st ≡ 2 → Columns g.columns (get_or g.starts (first_row a.rows h) 0) (get_or g.starts (first_row a.rows (h + 1)) 0) a.rows
    pub edge_columns : reads_edges st ≡ true
        → Columns m.edge_columns (get_or g.starts (first_row a.rows h) 0) (get_or g.starts (first_row a.rows (h + 1)) 0) a.rows

  -- chunk h's work
  pub record Ready (s : State A) (h : ℕ) (g : Lists A) (m : Lent A) : Type 0 where
    pub state : StateReady s
    pub lists : ListsReady s.asked g
    pub lent : WorkReady s.asked m
    pub chunk : h < chunk_count s.asked
    pub rows : RowsReady s.progress.stage s.asked g m h

  -- closing
  pub record Closable (s : State A) (m : Lent A) : Type 0 where
    pub state : StateReady s
    pub v0 : s.asked.rows ≤ length m.v0
    pub partials : chunk_count s.asked * wide s.asked * wide s.asked ≤ length m.partials
    pub ritz_record : s.asked.rounds * (wide s.asked + 1) ≤ length m.ritz_record
