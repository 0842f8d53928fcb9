-- What the code tests in the lists that a call gets, over those lists alone. Definitions only.
use Rattle.std.specs.Prelude.{Bool, not, ◌&&◌, ◌||◌, List, [], ◌∷◌, ℕ, ◌≤◌, ◌<◌, eqb, leb, length, get_or}
use Rattle.definition.specs.Arith.{ieee64}
use Rattle.definition.specs.Marks.{undone}
use Rattle.definition.specs.Memory.{wholes_of}
use Rattle.definition.specs.Refusals.{Verdict, given, or_else, passes, test_lent}
use Rattle.machine.specs.State.{Asked, chunk_count, Lists, State, Lent}
use Rattle.machine.specs.Ranges.{state_sound, is_open, reads_edges, reads_starts, starts_sound, columns_sound, lists_enough}
use Rattle.machine.specs.Ready.{AskedReady}

-- the machine's `rows_sound`, whose graph has these starts and columns, and whose memory has these edge columns
unfoldable pub rows_test : ℕ → Asked → List ℕ → List ℕ → List ℕ → ℕ → Bool
rows_test st a starts columns edge_columns h =
    (not (reads_starts st) || starts_sound a starts h)
    && ((not (eqb st 2) || columns_sound a starts columns h) && (not (reads_edges st) || columns_sound a starts edge_columns h))

-- what the tests of a chunk's rows rest on: chunk h has rows, and the lists are long enough for what was asked
pub record ChunkLists (a : Asked) (starts columns edge_columns : List ℕ) (h : ℕ) : Type 0 where
  pub asked : AskedReady a
  pub chunk : h < chunk_count a
  pub starts-enough : a.rows < length starts
  pub columns-enough : a.entries ≤ length columns
  pub edge-columns-enough : a.entries ≤ length edge_columns

-- what is left to test of a chunk below C once the lists are long enough: 16, then 13
abbrev pub own_test : ℕ → Asked → List ℕ → List ℕ → List ℕ → List ℕ → ℕ → Verdict
own_test st a starts columns edge_columns marks h =
    or_else (given (not (leb (get_or marks h 0) 1 && rows_test st a starts columns edge_columns h)) 16 0) (given (not (undone marks h)) 13 h)

-- the machine's `lists_sound`, whose lent lists have these lengths
unfoldable pub lists_test : Asked → Lists ieee64 → List ℕ → Bool
lists_test a g lengths = lists_enough ieee64 a g && passes (test_lent a.dims a.rounds a.rows a.entries (wholes_of lengths))

-- what a chunk call and closing test first: 16, 15, 16
abbrev pub begun_test : State ieee64 → Lists ieee64 → List ℕ → Verdict
begun_test s g lengths =
    or_else (given (not (state_sound ieee64 s)) 16 0)
    (or_else (given (not (is_open ieee64 s)) 15 0) (given (not (lists_test s.asked g lengths)) 16 0))

-- the lengths of the lent lists that a test does not get: all but the edge columns and the marks, in document 01's order
abbrev pub other_lengths : Lent ieee64 → List ℕ
other_lengths m =
    length m.inverse ∷ length m.v0 ∷ length m.edge_weights ∷ length m.block0 ∷ length m.block1 ∷ length m.block2
    ∷ length m.partials ∷ length m.output ∷ length m.ritz_record ∷ []

-- the lengths of lent memory 0 to 10, from those and the two lists' own
abbrev pub own_lengths : List ℕ → ℕ → ℕ → List ℕ
own_lengths l edge_columns marks =
    get_or l 0 0 ∷ get_or l 1 0 ∷ edge_columns ∷ get_or l 2 0 ∷ get_or l 3 0 ∷ get_or l 4 0 ∷ get_or l 5 0 ∷ get_or l 6 0 ∷ marks ∷ get_or l 7 0
    ∷ get_or l 8 0 ∷ []
