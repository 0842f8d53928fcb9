-- The one call's way: all chunks upward, stage after stage. What each step may rest on, and where it ends. Assumes nothing.
use mathlib.Core.Path.{◌≡◌, refl, sym, ap, ap₂, ◌∙◌, subst}
use mathlib.Core.Bool.{Bool, true, false}
use mathlib.Core.List.{List}
use Prim.Native.Nat.{ℕ, zero, suc, ◌+◌, ◌-◌, ◌*◌, ◌≤◌, ◌<◌}
use native.Mathlib.Omega.{arith}
use borrow.Author.Tests.{eqb-true, eqb-false, eq-eqb}
use lib.Dec.{eqb}
use lib.ListN.{length, get_or}
use Rattle.definition.specs.Arith.{Arith}
use Rattle.definition.specs.Numbers.{Params, chunks, first_row}
use Rattle.definition.specs.Requirements.{Starts, Columns}
use Rattle.definition.specs.SpectralEmbedding.{counts}
use Rattle.definition.proofs.Chunks.{first-most}
use Rattle.held.specs.Calls.{Call, Machine, Base, iter, full, whole, run, opened, finished, order}
use Rattle.held.specs.Calls as held
use Rattle.held.proofs.Law.{Way, Fits, iter_end, one_end, canonical}
use Rattle.machine.specs.State.{Asked, chunk_count, last_stage, Lists, State, Lent, asked_of}
use Rattle.machine.specs.Ready.{Ready, Closable, RowsReady, WorkReady, LentReady, ListsReady}
use Rattle.machine.specs.Calls.{open_call}
use Rattle.machine.specs.Work.{work}
use Rattle.machine.specs.Closing.{closed, tidied}
use Rattle.ready.proofs.Tested.{state_ready}
use Rattle.promises.specs.Run.{Steady, machine_of, graph_in}
use Rattle.promises.specs.Shows.{Shows, ShowsEnd}
use Rattle.promises.specs.Promises.{has_ended, Accepted, stages_of, stages_on, opened_at, after, upward_order}
use Rattle.promises.specs.OneCall.{midway, end_of}
use Rattle.promises.proofs.Fits.{Fit, fits, chunk-starts, chunk-columns}
use Rattle.promises.proofs.Calls.{run_follows}
use Rattle.promises.proofs.Promises.{valid, sure, lent_ready, start, end, way, way_fit, marks-enough, end_shows, opening, some_end, over-is, is-over}
use Rattle.promises.proofs.Stages.{stages, stages_are}

module _ (A : Arith) (d : ℕ) (params : Params) (g : Lists A) where
  -- the stages of a way, at place p: fit; over only at its end; and its end
  way_at : (n : ℕ) (a b : Base (machine_of A g)) → Way (machine_of A g) (Fit A d params g) (Shows A d params g) n a b → (p : ℕ) → p ≤ n
      → Way (machine_of A g) (Fit A d params g) (Shows A d params g) (n - p) (iter (machine_of A g) p a) b
  unfolding iter
  way_at n a b w zero l = let e : n - 0 ≡ n = omega arith in subst (λ (x : ℕ). Way (machine_of A g) (Fit A d params g) (Shows A d params g) x a b) (sym e) w
  way_at zero a b w (suc p) l = absurd (omega arith)
  way_at (suc n) a b w (suc p) l =
      let e : n - p ≡ suc n - suc p = omega arith in
      subst (λ (x : ℕ). Way (machine_of A g) (Fit A d params g) (Shows A d params g) x (iter (machine_of A g) p (held.stage (machine_of A g) a)) b) e (way_at n (held.stage (machine_of A g) a) b w.3 p (omega arith))

  way_over : (n : ℕ) (a b : Base (machine_of A g)) → Way (machine_of A g) (Fit A d params g) (Shows A d params g) n a b → 0 < n → (machine_of A g).over a.state ≡ false
  way_over zero a b w l = absurd (omega arith)
  way_over (suc n) a b w l = w.0

  way_end : (n : ℕ) (a b : Base (machine_of A g)) → Way (machine_of A g) (Fit A d params g) (Shows A d params g) n a b → n ≡ 0 → ((machine_of A g).over a.state ≡ true) × (a ≡ b)
  way_end zero a b w e = (w.0, w.3)
  way_end (suc n) a b w e = absurd (omega arith)

module _ (A : Arith) (steady : Steady A) (d : ℕ) (params : Params) (g : Lists A) (m : Lent A) (marks : List ℕ) (ok : Accepted A d params g m marks) where
  abbrev K : Machine
  K = machine_of A g

  abbrev F : Fits K (Fit A d params g)
  F = fits A d params g (valid A steady d params g m marks ok).graph

  abbrev here : ℕ → Base K
  here p = stages_on A d params g p m

  from-here : (p : ℕ) → p ≤ stages_of A d params g → Way K (Fit A d params g) (Shows A d params g) (stages_of A d params g - p) (here p) (end A steady d params g m marks ok)
  from-here p l =
      way_at A d params g (stages_of A d params g) (opened_at A d params g m) (end A steady d params g m marks ok)
      (subst (λ (x : ℕ). Way K (Fit A d params g) (Shows A d params g) x (opened_at A d params g m) (end A steady d params g m marks ok)) (stages_are A d params g (sure A steady d params g m marks ok)) (way A steady d params g m marks ok)) p l

  pub here_fit : (p : ℕ) → p ≤ stages_of A d params g → Fit A d params g (here p).state (here p).mem
  here_fit p l = way_fit A steady d params g m marks ok (stages_of A d params g - p) (here p) (end A steady d params g m marks ok) (from-here p l)

  -- the run ends after all stages, and not before
  pub here-over : (p : ℕ) → p < stages_of A d params g → has_ended A (here p).state → ⊥
  here-over p l e =
      eqb-false (here p).state.progress.stage last_stage
      (way_over A d params g (stages_of A d params g - p) (here p) (end A steady d params g m marks ok) (from-here p (omega arith)) (omega arith)) e

  last_way : (has_ended A (end_of A d params g m).state) × (end_of A d params g m ≡ end A steady d params g m marks ok)
  last_way =
      let w = way_end A d params g (stages_of A d params g - stages_of A d params g) (end_of A d params g m) (end A steady d params g m marks ok) (from-here (stages_of A d params g) (omega arith)) (omega arith) in
      (is-over A steady d params g m marks ok (end_of A d params g m).state w.0, w.1)

  pub end_ended : has_ended A (end_of A d params g m).state
  end_ended = last_way.0

  -- its output is the seed, and its counts and Ritz record are the definition's
  pub whole-shows : ShowsEnd A d params g (end_of A d params g m).state (end_of A d params g m).mem
  whole-shows = subst (λ (b : Base K). ShowsEnd A d params g b.state b.mem) (sym last_way.1) (end_shows A steady d params g m marks ok)

  -- every run that ends, ends so
  pub whole_is : (ks : List Call) → has_ended A (after A d params g m marks ks).state
      → ((after A d params g m marks ks).state ≡ (end_of A d params g m).state) × ((after A d params g m marks ks).lent ≡ (end_of A d params g m).mem)
  unfolding finished
  whole_is ks e =
      let f = run_follows A d params g ks (opened K (start A steady d params g m marks ok) marks) (open_call A d params g m marks) (opening A steady d params g m marks ok) in
      let z : run K ks (opened K (start A steady d params g m marks ok) marks) ≡ finished K marks (stages A d params g (sure A steady d params g m marks ok)) (end A steady d params g m marks ok) =
      one_end K (Fit A d params g) (Shows A d params g) F (start A steady d params g m marks ok) marks (stages A d params g (sure A steady d params g m marks ok)) (end A steady d params g m marks ok) (way A steady d params g m marks ok)
      (marks-enough A steady d params g m marks ok) ks (over-is A steady d params g m marks ok (run K ks (opened K (start A steady d params g m marks ok) marks)).state (ap (λ (s : State A). s.progress.stage) f.state ∙ e)) in (
        sym f.state ∙ ap (λ (c : held.Conf K). c.state) z ∙ ap (λ (b : Base K). b.state) (sym last_way.1),
        sym f.lent ∙ ap (λ (c : held.Conf K). c.mem) z ∙ ap (λ (b : Base K). b.mem) (sym last_way.1),
      )

  -- ---- within a stage
  midway_fit : (p h : ℕ) → p ≤ stages_of A d params g → Fit A d params g (here p).state (midway A d params g p h m)
  unfolding whole
  midway_fit p zero l = here_fit p l
  midway_fit p (suc h) l = F.keep (here p).state (midway A d params g p h m) h (midway_fit p h l)

  -- chunk h is ready
  pub midway_ready : (p h : ℕ) → p ≤ stages_of A d params g → h < K.chunks → Ready A (here p).state h g (midway A d params g p h m)
  midway_ready p h l q =
      let T = midway_fit p h l in
      let G = (valid A steady d params g m marks ok).graph in
      record {
        state = state_ready A (here p).state T.state;
        lists = subst (λ (a : Asked). ListsReady A a g) (sym T.asks) (record { starts = omega (arith, G.rows-least); columns = omega arith; values = omega (arith, G.lengths) });
        lent = subst (λ (a : Asked). WorkReady A a (midway A d params g p h m)) (sym T.asks) T.lent.lists;
        chunk = subst (λ (a : Asked). h < chunk_count a) (sym T.asks) q;
        rows = subst (λ (a : Asked). RowsReady A (here p).state.progress.stage a g (midway A d params g p h m) h) (sym T.asks) (record {
          starts = λ e. chunk-starts A d params g G h;
          columns = λ e. chunk-columns A d params g G g.columns h G.below;
          edge_columns = λ e. chunk-columns A d params g G (midway A d params g p h m).edge_columns h (T.edges e);
        });
      }

  -- and its work is one chunk more
  pub midway-next : (p h : ℕ) → work A (here p).state g h (midway A d params g p h m) ≡ midway A d params g p (h + 1) m
  unfolding whole
  midway-next p h = ap (λ (x : ℕ). midway A d params g p x m) (let e : suc h ≡ h + 1 = omega arith in e)

  pub midway-none : (p : ℕ) → (here p).mem ≡ midway A d params g p 0 m
  unfolding whole
  midway-none p = refl

  -- all chunks done: the stage can be closed, and the next one begins
  pub midway_closable : (p : ℕ) → p ≤ stages_of A d params g → Closable A (here p).state (midway A d params g p K.chunks m)
  midway_closable p l =
      let T = midway_fit p K.chunks l in
      let L = subst (λ (a : Asked). LentReady A a (midway A d params g p K.chunks m)) (sym T.asks) T.lent in
      record { state = state_ready A (here p).state T.state; v0 = L.lists.v0; partials = L.lists.partials; ritz_record = L.ritz_record }

  pub stage-next : (p : ℕ) → here (p + 1) ≡ record { state = closed A (here p).state (midway A d params g p K.chunks m); mem = tidied A (here p).state (midway A d params g p K.chunks m) }
  unfolding held.stage full
  stage-next p = ap here (let e : p + 1 ≡ suc p = omega arith in e) ∙ iter_end K p (opened_at A d params g m)

  pub chunks-asked : (p : ℕ) → p ≤ stages_of A d params g → (here p).state.asked ≡ asked_of A d params g
  chunks-asked p l = (here_fit p l).asks
