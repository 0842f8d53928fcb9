-- What a run from its opening keeps: the state in range, the memory long enough, the lent edges within the graph. So its chunks can be done in any
-- order, and 16 never meets it. Assumes nothing.
use mathlib.Core.Path.{◌≡◌, refl, sym, ap, ap₂, ◌∙◌, subst}
use mathlib.Core.Bool.{Bool, true, false, not, cond, ◌&&◌, ◌||◌, false≢true}
use mathlib.Core.List.{List}
use mathlib.Core.Logic.{⊎_elim}
use Prim.Native.Nat.{ℕ, zero, suc, ◌+◌, ◌-◌, ◌*◌, ◌≤◌, ◌<◌}
use native.Mathlib.Omega.{arith}
use borrow.Author.Tests.{eqb-true, eqb-false, eq-eqb, ne_eqb, lt-ltb, le-ltb, le-leb, ltb-true, ltb-false}
use lib.Dec.{eqb, leb, ltb}
use lib.ListN.{length, get_or}
use Rattle.definition.specs.Arith.{Arith}
use Rattle.definition.specs.Marks.{undone, unsound, sound}
use Rattle.definition.specs.Numbers.{Params, first_row, chunks}
use Rattle.definition.specs.Refusals.{Verdict, given, or_else, passes, accepted, first_from, test_seed_std}
use Rattle.definition.specs.ChunkedColumnReduce.{Block}
use Rattle.definition.specs.MatvecCombine.{Multipliers, matvec_combine}
use Rattle.definition.specs.Requirements.{Starts, Columns}
use Rattle.definition.proofs.Chunks.{first-most, first-up}
use Rattle.definition.proofs.Rows.{starts-up}
use Rattle.definition.proofs.First.{first-all, all_first}
use Rattle.input.specs.Valid.{ValidParams, ValidGraph}
use Rattle.held.specs.Calls.{Call, chunk, close}
use Rattle.held.specs.Marks.{done, Marked}
use Rattle.held.proofs.Law.{Fits}
use Rattle.machine.specs.State.{Stage, stage_of, Asked, wide, chunk_count, last_stage, Lists, Progress, State, Lent, asked_of}
use Rattle.machine.specs.Ranges.{reads_edges, reads_starts, state_sound, is_open, lists_sound, lent_enough, lists_enough, rows_sound, chunk_sound, starts_sound, columns_sound, sound_for_chunk, sound_for_close, test_chunk, test_close}
use Rattle.machine.specs.Ready.{AskedReady, StateReady, LentReady, ListsReady}
use Rattle.machine.specs.Work.{work, work_by, on_block, pass_work, free_block, operator_in, held_block, filter_multipliers}
use Rattle.definition.specs.ChebyshevRayleighRitz.{plain_multipliers}
use Rattle.machine.proofs.Own.{both, both_of}
use Rattle.ready.proofs.Tested.{state_ready, lists-enough, lent-enough, starts-sound, columns-sound}
use Rattle.ready.proofs.Ready.{chunk_ready, close_ready, chunk-passes, close-passes, chunk_16, close_16, sound_for_chunk_lem, sound_for_close_lem}
use Rattle.promises.specs.Run.{machine_of}
use Rattle.promises.proofs.Acts.{acts_by}

-- ---- tests
or_right : (a b : Bool) → b ≡ true → (a || b) ≡ true
or_right true b e = refl
or_right false b e = e

or_left : (a b : Bool) → a ≡ true → (a || b) ≡ true
or_left true b e = refl
or_left false b e = absurd (false≢true e)

or_of : (a b : Bool) → (a || b) ≡ true → a ≡ false → b ≡ true
or_of true b e f = absurd (false≢true (sym f))
or_of false b e f = e

mark-done : (x : ℕ) → eqb x 0 ≡ true → eqb x 1 ≡ false
mark-done x e = ne_eqb x 1 (λ z. omega (arith, eqb-true x 0 e))

mark-undone : (x : ℕ) → x < 2 → eqb x 1 ≡ false → eqb x 0 ≡ true
mark-undone x l e = eq-eqb x 0 (go x l (eqb-false x 1 e))
  where
    go : (y : ℕ) → y < 2 → (y ≡ 1 → ⊥) → y ≡ 0
    go y q f = omega arith

module _ (A : Arith) (d : ℕ) (params : Params) (g : Lists A) where
  abbrev pub asked : Asked
  asked = asked_of A d params g

  pub record Fit (s : State A) (m : Lent A) : Type 0 where
    pub asks : s.asked ≡ asked
    pub state : state_sound A s ≡ true
    pub begun : 1 ≤ s.progress.stage
    pub last : s.progress.stage ≤ last_stage
    pub lent : LentReady A asked m
    pub edges : reads_edges s.progress.stage ≡ true → Columns m.edge_columns 0 asked.entries asked.rows

  module _ (G : ValidGraph A g.starts g.columns g.values) where
    -- a chunk's starts and columns, of any chunk
    pub chunk-starts : (h : ℕ) → Starts g.starts (first_row asked.rows h) (first_row asked.rows (h + 1)) asked.entries
    chunk-starts h = record {
      enough = omega (arith, G.rising.enough, first-most asked.rows (h + 1));
      rising = λ i p q. G.rising.rising i (omega arith) (omega (arith, first-most asked.rows (h + 1)));
      within = λ i p q. G.rising.within i (omega arith) (omega (arith, first-most asked.rows (h + 1)));
    }

    chunk-up : (h : ℕ) → get_or g.starts (first_row asked.rows h) 0 ≤ get_or g.starts (first_row asked.rows (h + 1)) 0
    chunk-up h =
        starts-up g.starts 0 asked.rows asked.entries G.rising (first_row asked.rows h) (first_row asked.rows (h + 1))
        (omega arith) (first-up asked.rows h (h + 1) (omega arith)) (first-most asked.rows (h + 1))

    pub chunk-columns : (columns : List ℕ) (h : ℕ) → Columns columns 0 asked.entries asked.rows
        → Columns columns (get_or g.starts (first_row asked.rows h) 0) (get_or g.starts (first_row asked.rows (h + 1)) 0) asked.rows
    chunk-columns columns h K = record {
      below = λ p l u. K.below p (omega arith) (omega (arith, G.rising.within (first_row asked.rows (h + 1)) (omega arith) (first-most asked.rows (h + 1))));
    }

    rows-sound : (st : ℕ) (m : Lent A) (h : ℕ) → (reads_edges st ≡ true → Columns m.edge_columns 0 asked.entries asked.rows) → rows_sound A st asked g m h ≡ true
    unfolding rows_sound
    rows-sound st m h e =
        both _ _ (or_right (not (reads_starts st)) (starts_sound asked g.starts h) (starts-sound asked g.starts h (chunk-starts h)))
        (both _ _ (or_right (not (eqb st 2)) (columns_sound asked g.starts g.columns h) (columns-sound asked g.starts g.columns h (chunk-up h) (chunk-columns g.columns h G.below)))
        (go (reads_edges st) refl))
      where
        go : (b : Bool) → reads_edges st ≡ b → (not (reads_edges st) || columns_sound asked g.starts m.edge_columns h) ≡ true
        go true z = or_right (not (reads_edges st)) (columns_sound asked g.starts m.edge_columns h) (columns-sound asked g.starts m.edge_columns h (chunk-up h) (chunk-columns m.edge_columns h (e z)))
        go false z = or_left (not (reads_edges st)) (columns_sound asked g.starts m.edge_columns h) (ap not z)

    lists-sound : (s : State A) (m : Lent A) (start marks : List ℕ) → Fit s m → Marked (chunks asked.rows) start marks → lists_sound A s g m marks ≡ true
    unfolding lists_sound
    lists-sound s m start marks F M =
        ap (λ (x : Asked). lists_enough A x g && lent_enough A x m marks) F.asks
        ∙ both _ _ (lists-enough A asked g (record { starts = omega (arith, G.rows-least); columns = omega arith; values = omega (arith, G.lengths) }))
        (lent-enough A asked m marks F.lent (omega (arith, M.long, M.same)))

    chunk-sound : (s : State A) (m : Lent A) (start marks : List ℕ) → Fit s m → Marked (chunks asked.rows) start marks → (h : ℕ) → h < chunk_count s.asked → chunk_sound A s g m marks h ≡ true
    unfolding chunk_sound
    chunk-sound s m start marks F M h l =
        both _ _ (le-leb (get_or marks h 0) 1 (omega (arith, M.bits h (subst (λ (x : Asked). h < chunk_count x) F.asks l))))
        (ap (λ (x : Asked). rows_sound A s.progress.stage x g m h) F.asks ∙ rows-sound s.progress.stage m h F.edges)

    sound-chunk : (s : State A) (m : Lent A) (start marks : List ℕ) → Fit s m → Marked (chunks asked.rows) start marks → (h : ℕ) → sound_for_chunk A s h g m marks ≡ true
    sound-chunk s m start marks F M = sound_for_chunk_lem A s g m marks F.state (lists-sound s m start marks F M) (chunk-sound s m start marks F M)

    marks-sound : (c : ℕ) (start marks : List ℕ) → Marked c start marks → sound marks c ≡ true
    unfolding sound
    marks-sound c start marks M =
        eq-eqb (first_from (unsound marks) 0 c) c
        (all_first (unsound marks) 0 c (λ i p q. low (get_or marks i 0) (M.bits i (omega arith))) ∙ omega arith)
      where
        low : (x : ℕ) → x < 2 → ltb 1 x ≡ false
        low x l = le-ltb 1 x (omega arith)

    sound-close : (s : State A) (m : Lent A) (start marks : List ℕ) → Fit s m → Marked (chunks asked.rows) start marks → sound_for_close A s g m marks ≡ true
    sound-close s m start marks F M =
        sound_for_close_lem A s g m marks F.state (lists-sound s m start marks F M)
        (ap (λ (x : Asked). sound marks (chunk_count x)) F.asks ∙ marks-sound (chunks asked.rows) start marks M)

    -- a run that is not over is open, and the other way
    is_open_lem : (s : State A) (m : Lent A) → Fit s m → eqb s.progress.stage last_stage ≡ false → is_open A s ≡ true
    unfolding is_open
    is_open_lem s m F o = both _ _ (le-leb 1 s.progress.stage F.begun) (lt-ltb s.progress.stage last_stage (below s.progress.stage F.last (eqb-false s.progress.stage last_stage o)))
      where
        below : (x : ℕ) → x ≤ 20 → (x ≡ 20 → ⊥) → x < 20
        below x p q = omega arith

    open_on : (s : State A) → is_open A s ≡ true → eqb s.progress.stage last_stage ≡ false
    unfolding is_open
    open_on s o = ne_eqb s.progress.stage last_stage (λ z. omega (arith, ltb-true s.progress.stage last_stage (both_of (leb 1 s.progress.stage) (ltb s.progress.stage last_stage) o).1))

    passed : (x : ℕ) → x ≡ 0 → eqb x 0 ≡ true
    passed x e = eq-eqb x 0 e

    -- an accepted closing has sound marks
    close-marks : (s : State A) (m : Lent A) (marks : List ℕ) → (test_close A s g m marks).number ≡ 0 → is_open A s ≡ true → sound marks (chunk_count s.asked) ≡ true
    unfolding test_close or_else sound_for_close
    close-marks s m marks e o = go (sound_for_close A s g m marks) refl e
      where
        refused_none : (b : Bool) → b ≡ false → (v : Verdict) → (cond (eqb (given (not b) 16 0).number 0) v (given (not b) 16 0)).number ≡ 0 → ⊥
        refused_none true z v f = false≢true (sym z)
        refused_none false z v f = omega arith

        go : (b : Bool) → sound_for_close A s g m marks ≡ b → (test_close A s g m marks).number ≡ 0 → sound marks (chunk_count s.asked) ≡ true
        go true z f =
            (both_of (lists_sound A s g m marks) (sound marks (chunk_count s.asked))
            (or_of (not (is_open A s)) (lists_sound A s g m marks && sound marks (chunk_count s.asked)) (both_of (state_sound A s) _ z).1 (ap not o))).1
        go false z f = absurd (refused_none (sound_for_close A s g m marks) z _ f)

    all_done : (s : State A) (m : Lent A) (marks : List ℕ) → (test_close A s g m marks).number ≡ 0 → is_open A s ≡ true → ((h : ℕ) → h < chunk_count s.asked → undone marks h ≡ false)
        → (h : ℕ) → h < chunk_count s.asked → done marks h ≡ true
    unfolding done sound
    all_done s m marks e o u h l =
        let c = eqb-true (first_from (unsound marks) 0 (chunk_count s.asked)) (chunk_count s.asked) (unfold sound in close-marks s m marks e o) in
        let w = first-all (unsound marks) 0 (chunk_count s.asked) h (omega arith) (omega arith) (omega arith) in
        eq-eqb (get_or marks h 0) 1 (one (get_or marks h 0) (ltb-false 1 (get_or marks h 0) w) (eqb-false (get_or marks h 0) 0 (u h l)))
      where
        one : (x : ℕ) → x ≤ 1 → (x ≡ 0 → ⊥) → x ≡ 1
        one x p q = omega arith

    -- ---- what the general law asks
    same-starts : (s : State A) → s.asked ≡ asked → Starts g.starts 0 s.asked.rows s.asked.entries
    same-starts s e = subst (λ (x : Asked). Starts g.starts 0 x.rows x.entries) (sym e) G.rising

    block_keeps : (a : Asked) (b : ℕ) (v : Block A) (h : ℕ) (m : Lent A) → (on_block A a b v h m).edge_columns ≡ m.edge_columns
    block_keeps a zero v h m = refl
    block_keeps a (suc zero) v h m = refl
    block_keeps a (suc (suc b)) v h m = refl

    pass_keeps : (a : Asked) (by : Multipliers A) (c p h : ℕ) (m : Lent A) → (pass_work A a by c p g h m).edge_columns ≡ m.edge_columns
    pass_keeps a by c p h m = block_keeps a (free_block c p) (matvec_combine A (operator_in A g m) by (held_block A a c m) (held_block A a p m)) h m

    edges_keep : (s : State A) (h : ℕ) (m : Lent A) → reads_edges s.progress.stage ≡ true → (work A s g h m).edge_columns ≡ m.edge_columns
    unfolding work
    edges_keep s h m e = go (eqb s.progress.stage 5) refl
      where
        go : (b : Bool) → eqb s.progress.stage 5 ≡ b → (work_by A (stage_of s.progress.stage) s g h m).edge_columns ≡ m.edge_columns
        go true z =
            ap (λ (x : ℕ). (work_by A (stage_of x) s g h m).edge_columns) (eqb-true s.progress.stage 5 z)
            ∙ pass_keeps s.asked (filter_multipliers A s.progress) s.progress.current s.progress.previous h m
        go false z =
            ap (λ (x : ℕ). (work_by A (stage_of x) s g h m).edge_columns) (eqb-true s.progress.stage 13 (or_of (eqb s.progress.stage 5) (eqb s.progress.stage 13) e z))
            ∙ pass_keeps s.asked (plain_multipliers A) s.progress.current s.progress.current h m

    work_keeps : (s : State A) (h : ℕ) (m : Lent A) → state_sound A s ≡ true → s.asked ≡ asked → LentReady A asked m → LentReady A asked (work A s g h m)
    unfolding work
    work_keeps s h m t e r =
        subst (λ (x : Asked). LentReady A x (work_by A (stage_of s.progress.stage) s g h m)) e
        ((acts_by A s g (state_ready A s t) (same-starts s e) (stage_of s.progress.stage)).keeps h m (subst (λ (x : Asked). LentReady A x m) (sym e) r))

    pub fits : Fits (machine_of A g) Fit
    unfolding work
    fits = record {
      apart = λ s m F. (acts_by A s g (state_ready A s F.state) (same-starts s F.asks) (stage_of s.progress.stage)).apart;
      keep = λ s m h F. record {
        asks = F.asks;
        state = F.state;
        begun = F.begun;
        last = F.last;
        lent = unfold work in work_keeps s h m F.state F.asks F.lent;
        edges = λ e. subst (λ (l : List ℕ). Columns l 0 asked.entries asked.rows) (sym (unfold work in edges_keep s h m e)) (F.edges e);
      };
      chunk_fine = λ s m marks h F e.
          let c = chunk_ready A s h g m marks (passed (test_chunk A s h g m marks).number e) in
          (open_on s c.1, subst (λ (x : Asked). h < chunk_count x) F.asks c.2, unfold done in mark-done (get_or marks h 0) c.3);
      close_fine = λ s m marks F e.
          let c = close_ready A s g m marks (passed (test_close A s g m marks).number e) in
          (open_on s c.1, λ h l. all_done s m marks e c.1 c.2 h (subst (λ (x : Asked). h < chunk_count x) (sym F.asks) l));
      chunk-taken = λ s m start marks h F M o l u.
          ap (λ (v : Verdict). v.number)
          (chunk-passes A s h g m marks (sound-chunk s m start marks F M h) (is_open_lem s m F o) (subst (λ (x : Asked). h < chunk_count x) (sym F.asks) l) (mark-undone (get_or marks h 0) (M.bits h l) (unfold done in u)));
      close-taken = λ s m start marks F M o q.
          ap (λ (v : Verdict). v.number)
          (close-passes A s g m marks (sound-close s m start marks F M) (is_open_lem s m F o)
          (λ h l. unmarked (get_or marks h 0) (unfold done in q h (subst (λ (x : Asked). h < chunk_count x) F.asks l))));
      never = λ s m start marks k F M e. never_by k s m start marks F M e;
    }
      where
        unmarked : (x : ℕ) → eqb x 1 ≡ true → eqb x 0 ≡ false
        unmarked x e = ne_eqb x 0 (λ z. omega (arith, eqb-true x 1 e))

        never_by : (k : Call) (s : State A) (m : Lent A) (start marks : List ℕ) → Fit s m → Marked (chunks asked.rows) start marks → (machine_of A g).refuse k s m marks ≡ 16 → ⊥
        never_by (chunk h) s m start marks F M e = chunk_16 A s h g m marks (sound-chunk s m start marks F M h) e
        never_by close s m start marks F M e = close_16 A s g m marks (sound-close s m start marks F M) e
