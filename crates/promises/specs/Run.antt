-- The held run of a request as a machine of calls, and where the definition is after so many rounds, passes and columns. Definitions only.
use Rattle.std.specs.Prelude.{◌≡◌, true, false, List, ℕ, zero, suc, ◌+◌, ◌-◌, ◌*◌, eqb, length}
use Rattle.definition.specs.Arith.{Arith}
use Rattle.definition.specs.Numbers.{Params, width, chunks}
use Rattle.definition.specs.ChebyshevRayleighRitz.{Filtering, Solving, first_pass, passes_from, filtered_basis, round_basis, rounds_from, begun, next_bound, first_alpha, next_alpha}
use Rattle.definition.specs.ChunkedColumnReduce.{Vector, Block}
use Rattle.definition.specs.MatvecCombine.{Operator}
use Rattle.definition.specs.OrthonormalizeBlock.{Basis, attempt, columns_from}
use Rattle.definition.specs.SpectralEmbedding.{Graph, graph_of, operator, v0}
use Rattle.held.specs.Calls.{Call, chunk, close, Machine}
use Rattle.machine.specs.State.{Asked, last_stage, Lists, State, Lent, asked_of}
use Rattle.machine.specs.Ranges.{test_chunk, test_close, bound_sound, alpha_sound}
use Rattle.machine.specs.Work.{work}
use Rattle.machine.specs.Closing.{closed, tidied}

-- What the arithmetic owes for a run to stay in range: bounds in [0.1, 0.9995], alphas in (0, 1). `proofs.Ieee` shows it of both widths.
pub record Steady (A : Arith) : Type 0 where
  pub bound-first : bound_sound A A.bound_first ≡ true
  pub bound-next : (x : A.F) → bound_sound A (next_bound A x) ≡ true
  pub alpha-first : (b : A.F) → bound_sound A b ≡ true → alpha_sound A (first_alpha A b) ≡ true
  pub alpha-next : (b a : A.F) → bound_sound A b ≡ true → alpha_sound A a ≡ true → alpha_sound A (next_alpha A b a) ≡ true

module _ (A : Arith) where
  -- refusal's number
  abbrev pub refusing : Lists A → Call → State A → Lent A → List ℕ → ℕ
  refusing g (chunk h) s m marks = (test_chunk A s h g m marks).number
  refusing g close s m marks = (test_close A s g m marks).number

  -- a run over the lists g, whose graph has n rows: chunks act on the lent lists, closing on the state and the Ritz record
  abbrev pub machine_of : Lists A → Machine
  machine_of g = record {
    S = State A;
    M = Lent A;
    chunks = chunks (length g.starts - 1);
    over = λ s. eqb s.progress.stage last_stage;
    part = λ s h m. work A s g h m;
    next = λ s m. closed A s m;
    tidy = λ s m. tidied A s m;
    refuse = refusing g;
  }

  abbrev pub graph_in : Lists A → Graph A
  graph_in g = graph_of A g.starts g.columns g.values

  -- ---- where the definition is
  module _ (d : ℕ) (params : Params) (g : Lists A) where
    abbrev pub rows_in : ℕ
    rows_in = length g.starts - 1

    abbrev pub operator_of : Operator A
    operator_of = operator A (graph_in g)

    abbrev pub v0_of : Vector A
    v0_of = v0 A (graph_in g)

    -- before round r
    unfoldable pub solving_at : ℕ → Solving A
    solving_at r = rounds_from A d params rows_in operator_of v0_of r 0 (begun A d params rows_in operator_of v0_of)

    -- after j + 1 passes of round r's filter
    unfoldable pub filtering_at : ℕ → ℕ → Filtering A
    filtering_at r j = passes_from A operator_of (solving_at r).bound j (first_pass A operator_of (solving_at r).bound (solving_at r).basis.block)

    -- the current block and the one before it, after j passes
    abbrev pub filter_current : ℕ → ℕ → Block A
    filter_current r zero = (solving_at r).basis.block
    filter_current r (suc j) = (filtering_at r j).current

    abbrev pub filter_previous : ℕ → ℕ → Block A
    filter_previous r zero = (solving_at r).basis.block
    filter_previous r (suc j) = (filtering_at r j).previous

    -- after c columns of round r
    unfoldable pub basis_at : ℕ → ℕ → Basis A
    basis_at r c = columns_from A rows_in (width d) v0_of r c 0 (filtered_basis A d params rows_in operator_of v0_of (solving_at r))

    -- as an attempt at column c begins: the first, or the one after it was refreshed
    abbrev pub tried_at : ℕ → ℕ → ℕ → Basis A
    tried_at r c zero = basis_at r c
    tried_at r c (suc t) = attempt A rows_in (width d) v0_of r false c (basis_at r c)

    -- the round's basis
    unfoldable pub round_block : ℕ → Block A
    round_block r = (round_basis A d params rows_in operator_of v0_of r (solving_at r)).block
