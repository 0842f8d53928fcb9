-- An accepted call is ready, what makes a call accepted, and when 16 and 15 are given. Assumes nothing.
use mathlib.Core.Path.{◌≡◌, refl, sym, ap, ◌∙◌}
use mathlib.Core.Bool.{Bool, true, false, cond, not, ◌||◌, false≢true}
use mathlib.Core.List.{List}
use Prim.Native.Nat.{ℕ, suc, ◌+◌, ◌≤◌, ◌<◌}
use native.Mathlib.Omega.{arith}
use borrow.Author.Tests.{ltb-true, eqb-true, lt-ltb, eq-eqb, ne_eqb, not-false}
use lib.Dec.{eqb, leb, ltb}
use lib.ListN.{length, get_or}
use Rattle.definition.specs.Arith.{Arith}
use Rattle.definition.specs.Marks.{undone, sound}
use Rattle.definition.specs.Numbers.{first_row}
use Rattle.definition.specs.Refusals.{Verdict, accepted, refused, given, given_first, first_from, or_else, passes}
use Rattle.definition.specs.Requirements.{Starts}
use Rattle.definition.proofs.Chunks.{first-up}
use Rattle.definition.proofs.Rows.{starts-up}
use Rattle.machine.specs.State.{Asked, chunk_count, Lists, State, Lent, with_record}
use Rattle.machine.specs.Ranges.{reads_edges, reads_starts, state_sound, is_open, lists_enough, lent_enough, starts_sound, columns_sound, rows_sound, chunk_sound, lists_sound, sound_for_chunk, test_chunk, sound_for_close, test_close}
use Rattle.machine.specs.Ready.{RowsReady, Ready, Closable}
use Rattle.machine.proofs.Own.{both, both_of}
use Rattle.ready.proofs.Tested.{no-fault, none_found, found_none, state_ready, lists_ready, lent_ready, starts_ready, columns_ready}

-- ---- a test that counts only where another passes
holds : (a b : Bool) → (not a || b) ≡ true → a ≡ true → b ≡ true
holds true b h e = h
holds false b h e = absurd (false≢true e)

holding : (a b : Bool) → (a ≡ true → b ≡ true) → (not a || b) ≡ true
holding true b h = h refl
holding false b h = refl

first_or : (a b : Bool) → a ≡ true → (a || b) ≡ true
first_or true b h = refl
first_or false b h = absurd (false≢true h)

second_or : (a b : Bool) → b ≡ true → (a || b) ≡ true
second_or true b h = refl
second_or false b h = h

-- ---- verdicts: a test and those after it
no_denial : (b : Bool) (r p : ℕ) → (given (not b) (suc r) p).number ≡ 0 → b ≡ true
no_denial b r p h = not-false b (no-fault (not b) r p h)

both_pass : (t w : Verdict) → (or_else t w).number ≡ 0 → (t.number ≡ 0) × (w.number ≡ 0)
unfolding or_else
both_pass t w h = go (eqb t.number 0) refl h
  where
    go : (b : Bool) → eqb t.number 0 ≡ b → (cond b w t).number ≡ 0 → (t.number ≡ 0) × (w.number ≡ 0)
    go true e g = (eqb-true t.number 0 e, g)
    go false e g = absurd (false≢true (sym e ∙ ap (λ (n : ℕ). eqb n 0) g))

-- a test that passes leaves the verdict to the next
allowed : (b : Bool) (r p : ℕ) → b ≡ true → given (not b) r p ≡ accepted
allowed true r p h = refl
allowed false r p h = absurd (false≢true h)

allowed_next : (b : Bool) (r p : ℕ) (w : Verdict) → b ≡ true → or_else (given (not b) r p) w ≡ w
unfolding or_else
allowed_next true r p w h = refl
allowed_next false r p w h = absurd (false≢true h)

-- one that fails is the verdict
denied : (b : Bool) (r p : ℕ) (w : Verdict) → b ≡ false → or_else (given (not b) (suc r) p) w ≡ refused (suc r) p
unfolding or_else
denied true r p w h = absurd (false≢true (sym h))
denied false r p w h = ap (λ (b : Bool). cond b w (refused (suc r) p)) (ne_eqb (suc r) 0 (λ z. omega arith))

-- a number that no test gives is not the verdict's
never : (b : Bool) (r p x : ℕ) → (x ≡ 0 → ⊥) → (x ≡ r → ⊥) → (given b r p).number ≡ x → ⊥
never true r p x zeroed same h = same (sym h)
never false r p x zeroed same h = zeroed (sym h)

never_else : (t w : Verdict) (x : ℕ) → (t.number ≡ x → ⊥) → (w.number ≡ x → ⊥) → (or_else t w).number ≡ x → ⊥
unfolding or_else
never_else t w x here later h = go (eqb t.number 0) h
  where
    go : (b : Bool) → (cond b w t).number ≡ x → ⊥
    go true g = later g
    go false g = here g

module _ (A : Arith) where
  -- ---- what the tests of a chunk's rows show
  module _ (st : ℕ) (a : Asked) (g : Lists A) (m : Lent A) (h : ℕ) (long : a.rows < length g.starts) (l : h < chunk_count a) where
    rows_parted : rows_sound A st a g m h ≡ true
        → ((not (reads_starts st) || starts_sound a g.starts h) ≡ true) × ((not (eqb st 2) || columns_sound a g.starts g.columns h) ≡ true)
        × ((not (reads_edges st) || columns_sound a g.starts m.edge_columns h) ≡ true)
    unfolding rows_sound
    rows_parted e =
        let one = both_of (not (reads_starts st) || starts_sound a g.starts h) _ e in
        let two = both_of (not (eqb st 2) || columns_sound a g.starts g.columns h) _ one.1 in
        (one.0, two.0, two.1)

    starts_read : rows_sound A st a g m h ≡ true → reads_starts st ≡ true → Starts g.starts (first_row a.rows h) (first_row a.rows (h + 1)) a.entries
    starts_read e z = starts_ready a g.starts h long (holds (reads_starts st) (starts_sound a g.starts h) (rows_parted e).0 z) l

    starts_rise : rows_sound A st a g m h ≡ true → reads_starts st ≡ true
        → get_or g.starts (first_row a.rows h) 0 ≤ get_or g.starts (first_row a.rows (h + 1)) 0
    starts_rise e z =
        starts-up g.starts (first_row a.rows h) (first_row a.rows (h + 1)) a.entries (starts_read e z)
        (first_row a.rows h) (first_row a.rows (h + 1)) (omega arith) (first-up a.rows h (h + 1) (omega arith)) (omega arith)

    rows_ready : rows_sound A st a g m h ≡ true → RowsReady A st a g m h
    rows_ready e = record {
      starts = starts_read e;
      columns = λ z. columns_ready a g.starts g.columns h
          (starts_rise e (second_or (eqb st 1) _ (first_or (eqb st 2) (reads_edges st) (eq-eqb st 2 z))))
          (holds (eqb st 2) (columns_sound a g.starts g.columns h) (rows_parted e).1 (eq-eqb st 2 z));
      edge_columns = λ z. columns_ready a g.starts m.edge_columns h
          (starts_rise e (second_or (eqb st 1) _ (second_or (eqb st 2) (reads_edges st) z)))
          (holds (reads_edges st) (columns_sound a g.starts m.edge_columns h) (rows_parted e).2 z);
    }

  -- ---- soundness from the facts
  pub sound_for_chunk_lem : (s : State A) (g : Lists A) (m : Lent A) (marks : List ℕ) → state_sound A s ≡ true → lists_sound A s g m marks ≡ true
      → ((h : ℕ) → h < chunk_count s.asked → chunk_sound A s g m marks h ≡ true) → (h : ℕ) → sound_for_chunk A s h g m marks ≡ true
  unfolding sound_for_chunk
  sound_for_chunk_lem s g m marks state lists chunk h =
      both (state_sound A s) _ state
      (second_or (not (is_open A s)) _
      (both (lists_sound A s g m marks) _ lists
      (holding (ltb h (chunk_count s.asked)) (chunk_sound A s g m marks h) (λ e. chunk h (ltb-true h (chunk_count s.asked) e)))))

  pub sound_for_close_lem : (s : State A) (g : Lists A) (m : Lent A) (marks : List ℕ) → state_sound A s ≡ true → lists_sound A s g m marks ≡ true
      → sound marks (chunk_count s.asked) ≡ true → sound_for_close A s g m marks ≡ true
  unfolding sound_for_close
  sound_for_close_lem s g m marks state lists bits =
      both (state_sound A s) _ state
      (second_or (not (is_open A s)) _ (both (lists_sound A s g m marks) (sound marks (chunk_count s.asked)) lists bits))

  -- where no run is open, the state alone is tested
  pub shut_for_chunk : (s : State A) (g : Lists A) (m : Lent A) (marks : List ℕ) → state_sound A s ≡ true → is_open A s ≡ false
      → (h : ℕ) → sound_for_chunk A s h g m marks ≡ true
  unfolding sound_for_chunk
  shut_for_chunk s g m marks state shut h = both (state_sound A s) _ state (first_or (not (is_open A s)) _ (ap not shut))

  pub shut_for_close : (s : State A) (g : Lists A) (m : Lent A) (marks : List ℕ) → state_sound A s ≡ true → is_open A s ≡ false
      → sound_for_close A s g m marks ≡ true
  unfolding sound_for_close
  shut_for_close s g m marks state shut = both (state_sound A s) _ state (first_or (not (is_open A s)) _ (ap not shut))

  -- ---- a chunk call
  module _ (s : State A) (h : ℕ) (g : Lists A) (m : Lent A) (marks : List ℕ) where
    record ChunkPassed : Type 0 where
      sound : sound_for_chunk A s h g m marks ≡ true
      running : is_open A s ≡ true
      below : h < chunk_count s.asked
      undone : undone marks h ≡ true

    chunk_passed : passes (test_chunk A s h g m marks) ≡ true → ChunkPassed
    unfolding test_chunk
    chunk_passed e =
        let one = both_pass _ _ (eqb-true (test_chunk A s h g m marks).number 0 e) in
        let two = both_pass _ _ one.1 in
        let three = both_pass _ _ two.1 in
        record {
          sound = no_denial (sound_for_chunk A s h g m marks) 15 0 one.0;
          running = no_denial (is_open A s) 14 0 two.0;
          below = ltb-true h (chunk_count s.asked) (no_denial (ltb h (chunk_count s.asked)) 11 h three.0);
          undone = no_denial (undone marks h) 12 h three.1;
        }

    pub chunk-passes : sound_for_chunk A s h g m marks ≡ true → is_open A s ≡ true → h < chunk_count s.asked → undone marks h ≡ true
        → test_chunk A s h g m marks ≡ accepted
    unfolding test_chunk
    chunk-passes fit run l u =
        allowed_next (sound_for_chunk A s h g m marks) 16 0 _ fit
        ∙ allowed_next (is_open A s) 15 0 _ run
        ∙ allowed_next (ltb h (chunk_count s.asked)) 12 h _ (lt-ltb h (chunk_count s.asked) l)
        ∙ allowed (undone marks h) 13 h u

    pub chunk-accepted : passes (test_chunk A s h g m marks) ≡ true → test_chunk A s h g m marks ≡ accepted
    chunk-accepted e = let P = chunk_passed e in chunk-passes P.sound P.running P.below P.undone

    -- an accepted chunk call is ready
    pub chunk_ready : passes (test_chunk A s h g m marks) ≡ true
        → Ready A s h g m × (is_open A s ≡ true) × (h < chunk_count s.asked) × (undone marks h ≡ true) × (h < length marks)
    unfolding sound_for_chunk lists_sound chunk_sound
    chunk_ready e =
        let P = chunk_passed e in
        let state = both_of (state_sound A s) _ P.sound in
        let rest = both_of (lists_sound A s g m marks) _ (holds (is_open A s) _ state.1 P.running) in
        let lists = both_of (lists_enough A s.asked g) (lent_enough A s.asked m marks) rest.0 in
        let chunk = both_of (leb (get_or marks h 0) 1) (rows_sound A s.progress.stage s.asked g m h)
        (holds (ltb h (chunk_count s.asked)) _ rest.1 (lt-ltb h (chunk_count s.asked) P.below)) in
        let lent = lent_ready A s.asked m marks lists.1 in
        let graph = lists_ready A s.asked g lists.0 in (
          record {
            state = state_ready A s state.0;
            lists = graph;
            lent = lent.0.lists;
            chunk = P.below;
            rows = rows_ready s.progress.stage s.asked g m h graph.starts P.below chunk.1;
          },
          P.running,
          P.below,
          P.undone,
          omega (arith, lent.1, P.below),
        )

    -- 16 is given only where the tests of soundness fail, and 15 where no run is open
    pub chunk_16 : sound_for_chunk A s h g m marks ≡ true → (test_chunk A s h g m marks).number ≡ 16 → ⊥
    unfolding test_chunk
    chunk_16 fit e =
        never_else (given (not (is_open A s)) 15 0) _ 16 (never (not (is_open A s)) 15 0 16 (λ z. omega arith) (λ z. omega arith))
        (never_else (given (not (ltb h (chunk_count s.asked))) 12 h) (given (not (undone marks h)) 13 h) 16
        (never (not (ltb h (chunk_count s.asked))) 12 h 16 (λ z. omega arith) (λ z. omega arith))
        (never (not (undone marks h)) 13 h 16 (λ z. omega arith) (λ z. omega arith)))
        (sym (ap (λ (v : Verdict). v.number) (allowed_next (sound_for_chunk A s h g m marks) 16 0 _ fit)) ∙ e)

    pub chunk_15 : sound_for_chunk A s h g m marks ≡ true → is_open A s ≡ false → test_chunk A s h g m marks ≡ refused 15 0
    unfolding test_chunk
    chunk_15 fit shut = allowed_next (sound_for_chunk A s h g m marks) 16 0 _ fit ∙ denied (is_open A s) 14 0 _ shut

  -- ---- closing
  module _ (s : State A) (g : Lists A) (m : Lent A) (marks : List ℕ) where
    record ClosePassed : Type 0 where
      sound : sound_for_close A s g m marks ≡ true
      running : is_open A s ≡ true
      done : (h : ℕ) → h < chunk_count s.asked → undone marks h ≡ false

    close_passed : passes (test_close A s g m marks) ≡ true → ClosePassed
    unfolding test_close
    close_passed e =
        let one = both_pass _ _ (eqb-true (test_close A s g m marks).number 0 e) in
        let two = both_pass _ _ one.1 in
        record {
          sound = no_denial (sound_for_close A s g m marks) 15 0 one.0;
          running = no_denial (is_open A s) 14 0 two.0;
          done = λ h l. none_found (undone marks) 0 (chunk_count s.asked) 13 two.1 h (omega arith) (omega arith);
        }

    pub close-passes : sound_for_close A s g m marks ≡ true → is_open A s ≡ true
        → ((h : ℕ) → h < chunk_count s.asked → undone marks h ≡ false) → test_close A s g m marks ≡ accepted
    unfolding test_close
    close-passes fit run all =
        allowed_next (sound_for_close A s g m marks) 16 0 _ fit
        ∙ allowed_next (is_open A s) 15 0 _ run
        ∙ ap (λ (b : Bool). given b 14 (first_from (undone marks) 0 (chunk_count s.asked)))
        (found_none (undone marks) 0 (chunk_count s.asked) (λ h p q. all h (omega arith)))

    pub close-accepted : passes (test_close A s g m marks) ≡ true → test_close A s g m marks ≡ accepted
    close-accepted e = let P = close_passed e in close-passes P.sound P.running P.done

    -- an accepted closing is ready
    pub close_ready : passes (test_close A s g m marks) ≡ true
        → Closable A s m × (is_open A s ≡ true) × ((h : ℕ) → h < chunk_count s.asked → undone marks h ≡ false) × (chunk_count s.asked ≤ length marks)
    unfolding sound_for_close lists_sound
    close_ready e =
        let P = close_passed e in
        let state = both_of (state_sound A s) _ P.sound in
        let rest = both_of (lists_sound A s g m marks) _ (holds (is_open A s) _ state.1 P.running) in
        let lists = both_of (lists_enough A s.asked g) (lent_enough A s.asked m marks) rest.0 in
        let lent = lent_ready A s.asked m marks lists.1 in (
          record {
            state = state_ready A s state.0;
            v0 = lent.0.lists.v0;
            partials = lent.0.lists.partials;
            ritz_record = lent.0.ritz_record;
          },
          P.running,
          P.done,
          lent.1,
        )

    pub close_16 : sound_for_close A s g m marks ≡ true → (test_close A s g m marks).number ≡ 16 → ⊥
    unfolding test_close
    close_16 fit e =
        never_else (given (not (is_open A s)) 15 0) (given_first (undone marks) 0 (chunk_count s.asked) 14) 16
        (never (not (is_open A s)) 15 0 16 (λ z. omega arith) (λ z. omega arith))
        (never (ltb (first_from (undone marks) 0 (chunk_count s.asked)) (0 + chunk_count s.asked)) 14 (first_from (undone marks) 0 (chunk_count s.asked)) 16 (λ z. omega arith) (λ z. omega arith))
        (sym (ap (λ (v : Verdict). v.number) (allowed_next (sound_for_close A s g m marks) 16 0 _ fit)) ∙ e)

    pub close_15 : sound_for_close A s g m marks ≡ true → is_open A s ≡ false → test_close A s g m marks ≡ refused 15 0
    unfolding test_close
    close_15 fit shut = allowed_next (sound_for_close A s g m marks) 16 0 _ fit ∙ denied (is_open A s) 14 0 _ shut

-- ---- a chunk's work asks nothing of the Ritz record, so it is ready beside any
pub ready_beside : (A : Arith) (s : State A) (h : ℕ) (g : Lists A) (l : List A.F) (m : Lent A) → Ready A s h g (with_record A l m) → Ready A s h g m
ready_beside A s h g l m R = record {
  state = R.state;
  lists = R.lists;
  lent = omega (arith, R.lent);
  chunk = R.chunk;
  rows = record { starts = R.rows.starts; columns = R.rows.columns; edge_columns = R.rows.edge_columns };
}
