-- The seven stages of an attempt at a column, as stages of the run. Assumes nothing.
use mathlib.Core.Path.{◌≡◌, refl, sym, ap, ap₂, ◌∙◌, subst}
use mathlib.Core.Bool.{Bool, true, false}
use mathlib.Core.List.{List}
use Prim.Native.Nat.{ℕ, zero, suc, ◌+◌, ◌-◌, ◌*◌, ◌≤◌, ◌<◌}
use native.Mathlib.Omega.{arith}
use lib.Dec.{eqb}
use lib.ListN.{length, get_or}
use Rattle.definition.specs.Arith.{Arith}
use Rattle.definition.specs.ChunkedColumnReduce.{Vector, Block, column_norm}
use Rattle.definition.specs.Numbers.{Params, width, chunks}
use Rattle.definition.specs.OrthonormalizeBlock.{Basis, Ending, ending, projected, twice_projected, attempt_ending, written}
use Rattle.held.specs.Calls.{Base, whole}
use Rattle.held.proofs.Lens.{fill_op}
use Rattle.machine.specs.State.{Asked, asked_of, Lists, State, Lent}
use Rattle.machine.specs.Ready.{AskedReady}
use Rattle.machine.specs.Work.{ending_in, work}
use Rattle.machine.specs.Closing.{totals_of, norm_of, after_write, end_counted, closed}
use Rattle.promises.specs.Run.{v0_of, tried_at}
use Rattle.promises.specs.Shows.{ShowsColumn}
use Rattle.promises.proofs.Here.{Sure, asked_ready, Idle, tally, progress, here, Fine, Leads, at, worked, on, known, Standing, K}
use Rattle.promises.proofs.Column.{standing_partials, norm_leaves, dots_leave, subtract_leaves, write_leaves}

module _ (A : Arith) (d : ℕ) (params : Params) (g : Lists A) (U : Sure A d params g) where
  abbrev a : Asked
  a = asked_of A d params g

  abbrev n : ℕ
  n = length g.starts - 1

  abbrev k : ℕ
  k = width d

  abbrev C : ℕ
  C = chunks (length g.starts - 1)

  abbrev ready : AskedReady a
  ready = asked_ready A d params g U

  abbrev v₀ : Vector A
  v₀ = v0_of A d params g

  abbrev Stands : ℕ → Block A → Lent A → Type 0
  Stands = Standing A d params g U

  -- the state as a write closes
  abbrev pub end_state : Ending A → ℕ → ℕ → ℕ → ℕ → ℕ → A.F → A.F → ℕ → ℕ → ℕ → Idle A d params g U → State A
  end_state e r c t cur prev b al p f z w = record {
    asked = a;
    progress = after_write A e a (progress A d params g U 12 r 0 c t cur prev b al w.before w.norm);
    counts = end_counted A e (tally A d params g U p f z);
    totals = w.totals;
    matrix = w.matrix;
    vectors = w.vectors;
    order = w.order;
  }

  module _ (r c t cur prev : ℕ) (b al : A.F) (p : ℕ) (w : Idle A d params g U) (m : Lent A) (rest : ℕ) (Q : Base (K A d params g U) → Type 0) where
    -- the basis as the attempt begins, and how the attempt ends
    abbrev T : Basis A
    T = tried_at A d params g r c t

    abbrev e : Ending A
    e = attempt_ending A n v₀ (eqb t 1) c T.block

    abbrev goes : ℕ → Idle A d params g U → State A
    goes st x = here A d params g U st r 0 c t cur prev b al p T.refreshed T.zeroed x

    shows : (v : Block A) (x : Idle A d params g U) (st : ℕ) (y : Lent A) → Stands cur v y → ShowsColumn A d params g v (goes st x) y
    shows v x st y S = record { graph = S.graph; current = S.block; refreshed = refl; zeroed = refl }

    pub attempt-from : Fine A d params g U r 0 c t cur prev b al p T.refreshed T.zeroed → Stands cur T.block m
        → ((x : Idle A d params g U) (y : Lent A) → Stands cur (written A n k r c e (twice_projected A n v₀ c T.block)) y
        → Leads A d params g U rest (at A d params g U (end_state e r c t cur prev b al p T.refreshed T.zeroed x) y) Q)
        → Leads A d params g U (suc (suc (suc (suc (suc (suc (suc rest))))))) (at A d params g U (goes 6 w) m) Q
    unfolding work closed fill_op twice_projected ending_in attempt_ending
    attempt-from F S next =
        on A d params g U 6 r 0 c t cur prev b al p T.refreshed T.zeroed w m _ Q (omega arith) (omega arith) F S.lent (λ z. S.graph.edges) (shows T.block w 6 m S)
        (on A d params g U 7 r 0 c t cur prev b al p T.refreshed T.zeroed w₁ m₁ _ Q (omega arith) (omega arith) F S₁.lent (λ z. S₁.graph.edges) (shows T.block w₁ 7 m₁ S₁)
        (on A d params g U 8 r 0 c t cur prev b al p T.refreshed T.zeroed w₂ m₂ _ Q (omega arith) (omega arith) F S₂.lent (λ z. S₂.graph.edges) (shows T.block w₂ 8 m₂ S₂)
        (on A d params g U 9 r 0 c t cur prev b al p T.refreshed T.zeroed w₂ m₃ _ Q (omega arith) (omega arith) F S₃.lent (λ z. S₃.graph.edges) (shows u w₂ 9 m₃ S₃)
        (on A d params g U 10 r 0 c t cur prev b al p T.refreshed T.zeroed w₄ m₄ _ Q (omega arith) (omega arith) F S₄.lent (λ z. S₄.graph.edges) (shows u w₄ 10 m₄ S₄)
        (on A d params g U 11 r 0 c t cur prev b al p T.refreshed T.zeroed w₄ m₅ _ Q (omega arith) (omega arith) F S₅.lent (λ z. S₅.graph.edges) (shows v w₄ 11 m₅ S₅)
        (on A d params g U 12 r 0 c t cur prev b al p T.refreshed T.zeroed w₆ m₆ _ Q (omega arith) (omega arith) F S₆.lent (λ z. S₆.graph.edges) (shows v w₆ 12 m₆ S₆)
        (known A d params g U _ (end_state e r c t cur prev b al p T.refreshed T.zeroed w₆) m₇ rest Q
        (ap (λ (x : Ending A). end_state x r c t cur prev b al p T.refreshed T.zeroed w₆) ends) (next w₆ m₇ S₇))))))))
      where
        u : Block A
        u = projected A n v₀ c T.block

        v : Block A
        v = projected A n v₀ c u

        m₁ : Lent A
        m₁ = worked A d params g U (goes 6 w) m

        S₁ : Stands cur T.block m₁
        S₁ = standing_partials A d params g U _ _ cur T.block m S

        w₁ : Idle A d params g U
        w₁ = record { before = norm_of A a m₁.partials; norm = w.norm; totals = w.totals; matrix = w.matrix; vectors = w.vectors; order = w.order; ordered = w.ordered }

        m₂ : Lent A
        m₂ = worked A d params g U (goes 7 w₁) m₁

        S₂ : Stands cur T.block m₂
        S₂ = standing_partials A d params g U _ _ cur T.block m₁ S₁

        w₂ : Idle A d params g U
        w₂ = record { before = w₁.before; norm = w.norm; totals = totals_of A a (c + 1) m₂.partials; matrix = w.matrix; vectors = w.vectors; order = w.order; ordered = w.ordered }

        m₃ : Lent A
        m₃ = worked A d params g U (goes 8 w₂) m₂

        S₃ : Stands cur u m₃
        S₃ = subtract_leaves A d params g U (goes 8 w₂).progress w₂.totals T.block m₂ F.column (dots_leave A d params g U (goes 7 w₁).progress T.block m₁ F.column S₁) S₂

        m₄ : Lent A
        m₄ = worked A d params g U (goes 9 w₂) m₃

        S₄ : Stands cur u m₄
        S₄ = standing_partials A d params g U _ _ cur u m₃ S₃

        w₄ : Idle A d params g U
        w₄ = record { before = w₁.before; norm = w.norm; totals = totals_of A a (c + 1) m₄.partials; matrix = w.matrix; vectors = w.vectors; order = w.order; ordered = w.ordered }

        m₅ : Lent A
        m₅ = worked A d params g U (goes 10 w₄) m₄

        S₅ : Stands cur v m₅
        S₅ = subtract_leaves A d params g U (goes 10 w₄).progress w₄.totals u m₄ F.column (dots_leave A d params g U (goes 9 w₂).progress u m₃ F.column S₃) S₄

        m₆ : Lent A
        m₆ = worked A d params g U (goes 11 w₄) m₅

        S₆ : Stands cur v m₆
        S₆ = standing_partials A d params g U _ _ cur v m₅ S₅

        w₆ : Idle A d params g U
        w₆ = record { before = w₁.before; norm = norm_of A a m₆.partials; totals = w₄.totals; matrix = w.matrix; vectors = w.vectors; order = w.order; ordered = w.ordered }

        m₇ : Lent A
        m₇ = worked A d params g U (goes 12 w₆) m₆

        -- the norms are the definition's, so the attempt ends as the definition's does
        ends : ending A w₆.before w₆.norm (eqb t 1) ≡ ending A (column_norm A n T.block c) (column_norm A n v c) (eqb t 1)
        ends =
            ap₂ (λ (x y : A.F). ending A x y (eqb t 1)) (norm_leaves A d params g U (goes 6 w).progress T.block m F.column S)
            (norm_leaves A d params g U (goes 11 w₄).progress v m₅ F.column S₅)

        S₇ : Stands cur (written A n k r c (ending A (column_norm A n T.block c) (column_norm A n v c) (eqb t 1)) v) m₇
        S₇ =
            subst (λ (x : Ending A). Stands cur (written A n k r c x v) m₇) ends
            (unfold ending_in in write_leaves A d params g U (goes 12 w₆).progress v m₆ F.column S₆)
