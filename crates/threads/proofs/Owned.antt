-- A chunk call reads nothing that another chunk of its stage writes, and writes its own rows, entries, partial and mark only. Assumes nothing.
-- What the words mean, and how to cite the theorems: `specs.Owned`.
use mathlib.Core.Path.{◌≡◌, refl, sym, ap, ap₂, ◌∙◌, subst}
use mathlib.Core.Bool.{Bool, true, false, cond, not, ◌&&◌, ◌||◌}
use mathlib.Core.List.{List, [], ◌∷◌}
use Prim.Native.Nat.{ℕ, zero, suc}
use native.Mathlib.Omega.{arith}
use borrow.Author.Tests.{eqb-true}
use lib.Dec.{eqb, leb, ltb}
use lib.ListN.{length, get_or, set, length-set, get_or-eq_default}
use lib.Seq.{get_or-set_same, get_or-set_other}
use Rattle.definition.specs.Arith.{Arith}
use Rattle.definition.specs.Memory.{wholes_of}
use Rattle.definition.specs.Refusals.{Verdict, accepted, given, or_else, passes, test_lent}
use Rattle.definition.specs.Requirements.{Starts}
use Rattle.definition.proofs.Fill.{split}
use Rattle.machine.specs.State.{stage_of, wide, chunk_count, Lists, State, Lent, lengths_of}
use Rattle.machine.specs.Ranges.{reads_edges, reads_starts, state_sound, is_open, lists_enough, lent_enough, starts_sound, columns_sound, rows_sound, chunk_sound, lists_sound, sound_for_chunk, test_chunk}
use Rattle.machine.specs.Ready.{StateReady}
use Rattle.machine.specs.Work.{own_place, free_block, work}
use Rattle.machine.specs.Calls.{outcome, chunk_by, chunk_call}
use Rattle.threads.specs.Owned.{OneOwner, in_block, outside, owned_by, owned, SameLengths, AgreeWhere, DifferAtOthers, WroteOwn, SameOutcome}
use Rattle.threads.proofs.Lists.{same-lengths, agree_same, own_same, columns-same}
use Rattle.threads.proofs.Stages.{writes_by, reads_by}

-- ---- marks: a chunk call writes its own mark alone
pub mark-own : (marks : List ℕ) (h j : ℕ) → (j ≡ h → ⊥) → get_or (set marks h 1) j 0 ≡ get_or marks j 0
mark-own marks h j ne = get_or-set_other marks h j 1 0 ne

-- its own mark is set where there is one
mark_set : (marks marks' : List ℕ) (h : ℕ) → length marks ≡ length marks' → get_or (set marks h 1) h 0 ≡ get_or (set marks' h 1) h 0
mark_set marks marks' h e =
    split h (length marks)
    (λ l. get_or-set_same marks h 1 0 l ∙ sym (get_or-set_same marks' h 1 0 (omega arith)))
    (λ l. get_or-eq_default (set marks h 1) 0 (rw length-set l) ∙ sym (get_or-eq_default (set marks' h 1) 0 (rw length-set (omega arith))))

module _ (A : Arith) where
  -- ---- what is written
  -- every place that chunk h does not own is as it was
  pub writes_own : (s : State A) (g : Lists A) (h : ℕ) (m : Lent A) → AgreeWhere A (outside (owned A s g h)) (work A s g h m) m
  unfolding owned work
  writes_own s g h m = (writes_by A s g (stage_of s.progress.stage)).outer h m

  -- every list is as long as it was
  pub keeps_lengths : (s : State A) (g : Lists A) (h : ℕ) (m : Lent A) → SameLengths A (work A s g h m) m
  unfolding work
  keeps_lengths s g h m = (writes_by A s g (stage_of s.progress.stage)).lengths h m

  -- no place is two chunks'
  pub own-once : (s : State A) (g : Lists A) → StateReady A s → Starts g.starts 0 s.asked.rows s.asked.entries → OneOwner (owned A s g)
  unfolding owned
  own-once s g r S = (reads_by A s g r S (stage_of s.progress.stage)).once

  -- ---- what is read
  -- whatever stands at the places of other chunks, chunk h leaves the same at its own
  pub reads_own : (s : State A) (g : Lists A) → StateReady A s → Starts g.starts 0 s.asked.rows s.asked.entries → (h : ℕ) (m m' : Lent A)
      → DifferAtOthers A s g h m m' → AgreeWhere A (owned A s g h) (work A s g h m) (work A s g h m')
  unfolding owned work
  reads_own s g r S h m m' D = (reads_by A s g r S (stage_of s.progress.stage)).inner h m m' D

  -- ---- the answer: it looks at lengths, at the chunk's own mark and, in the passes, at the edge columns, which they do not write
  -- blocks are no edge columns
  block-columns : (b : ℕ) (t : ℕ → Bool) (p : ℕ) → (in_block b t).edge_columns p ≡ false
  block-columns zero t p = refl
  block-columns (suc zero) t p = refl
  block-columns (suc (suc b)) t p = refl

  module _ (s : State A) (g : Lists A) (h : ℕ) (m m' : Lent A) (D : DifferAtOthers A s g h m m') where
    -- no chunk of a pass owns one
    columns_unowned : (st : ℕ) → reads_edges st ≡ true → (j p : ℕ) → (owned_by A (stage_of st) s g j).edge_columns p ≡ false
    columns_unowned st e j p = go (eqb st 5) refl
      where
        go : (b : Bool) → eqb st 5 ≡ b → (owned_by A (stage_of st) s g j).edge_columns p ≡ false
        go true q = rw (eqb-true st 5 q) (block-columns (free_block s.progress.current s.progress.previous) (own_place s.asked.rows (wide s.asked) j) p)
        go false q = rw (eqb-true st 13 (subst (λ (b : Bool). (b || eqb st 13) ≡ true) q e)) (block-columns (free_block s.progress.current s.progress.current) (own_place s.asked.rows (wide s.asked) j) p)

    edges-same : reads_edges s.progress.stage ≡ true → m.edge_columns ≡ m'.edge_columns
    unfolding owned
    edges-same e = columns-same A (owned A s g) h m m' D (λ j p. columns_unowned s.progress.stage e j p)

    rows_same : rows_sound A s.progress.stage s.asked g m h ≡ rows_sound A s.progress.stage s.asked g m' h
    unfolding rows_sound
    rows_same =
        ap (λ (b : Bool). (not (reads_starts s.progress.stage) || starts_sound s.asked g.starts h) && ((not (eqb s.progress.stage 2) || columns_sound s.asked g.starts g.columns h) && b))
        (go (reads_edges s.progress.stage) (λ e. ap (λ (l : List ℕ). columns_sound s.asked g.starts l h) (edges-same e)))
      where
        go : (b : Bool) {x y : Bool} → (b ≡ true → x ≡ y) → (not b || x) ≡ (not b || y)
        go true e = e refl
        go false e = refl

    module _ (marks marks' : List ℕ) (long : length marks ≡ length marks') (mine : get_or marks h 0 ≡ get_or marks' h 0) where
      lengths-same : lengths_of A m marks ≡ lengths_of A m' marks'
      lengths-same = λ i.
          D.lengths.inverse i ∷ D.lengths.v0 i ∷ D.lengths.edge_columns i ∷ D.lengths.edge_weights i ∷ D.lengths.block0 i ∷ D.lengths.block1 i
          ∷ D.lengths.block2 i ∷ D.lengths.partials i ∷ long i ∷ D.lengths.output i ∷ D.lengths.ritz_record i ∷ []

      lists-same : lists_sound A s g m marks ≡ lists_sound A s g m' marks'
      unfolding lists_sound lent_enough
      lists-same = ap (λ (l : List ℕ). lists_enough A s.asked g && passes (test_lent s.asked.dims s.asked.rounds s.asked.rows s.asked.entries (wholes_of l))) lengths-same

      chunk-same : chunk_sound A s g m marks h ≡ chunk_sound A s g m' marks' h
      unfolding chunk_sound
      chunk-same = ap₂ (λ (x : ℕ) (b : Bool). leb x 1 && b) mine rows_same

      sound-same : sound_for_chunk A s h g m marks ≡ sound_for_chunk A s h g m' marks'
      unfolding sound_for_chunk
      sound-same = ap₂ (λ (a b : Bool). state_sound A s && (not (is_open A s) || (a && (not (ltb h (chunk_count s.asked)) || b)))) lists-same chunk-same

      -- whatever stands at the places and the marks of other chunks, chunk h is answered the same
      pub verdict-own : test_chunk A s h g m marks ≡ test_chunk A s h g m' marks'
      unfolding test_chunk
      verdict-own =
          ap₂ (λ (b : Bool) (x : ℕ). or_else (given (not b) 16 0) (or_else (given (not (is_open A s)) 15 0) (or_else (given (not (ltb h (chunk_count s.asked))) 12 h) (given (not (eqb x 0)) 13 h))))
          sound-same mine

  -- ---- whole chunk calls
  -- a call writes the chunk's own places and mark only; one that is refused writes nothing
  pub call_writes_own : (s : State A) (g : Lists A) (h : ℕ) (m : Lent A) (marks : List ℕ) → WroteOwn A (owned A s g h) h m marks (chunk_call A s h g m marks)
  unfolding chunk_call
  call_writes_own s g h m marks = go (test_chunk A s h g m marks) (passes (test_chunk A s h g m marks))
    where
      go : (v : Verdict) (b : Bool) → WroteOwn A (owned A s g h) h m marks (cond b (outcome A accepted s (work A s g h m) (set marks h 1)) (outcome A v s m marks))
      go v true = record { lengths = keeps_lengths s g h m; lent = writes_own s g h m; mark_count = length-set marks h 1; mark = mark-own marks h }
      go v false = record { lengths = same-lengths A m; lent = agree_same A (outside (owned A s g h)) m; mark_count = refl; mark = λ j ne. refl }

  -- whatever stands at the places and the marks of other chunks, a call answers the same and leaves the same at the chunk's own
  pub call_reads_own : (s : State A) (g : Lists A) → StateReady A s → Starts g.starts 0 s.asked.rows s.asked.entries → (h : ℕ) (m m' : Lent A)
      → DifferAtOthers A s g h m m' → (marks marks' : List ℕ) → length marks ≡ length marks' → get_or marks h 0 ≡ get_or marks' h 0
      → SameOutcome A (owned A s g h) h (chunk_call A s h g m marks) (chunk_call A s h g m' marks')
  unfolding chunk_call
  call_reads_own s g r S h m m' D marks marks' long mine =
      subst (λ (v : Verdict). SameOutcome A (owned A s g h) h (chunk_by A (test_chunk A s h g m marks) s h g m marks) (chunk_by A v s h g m' marks'))
      (verdict-own s g h m m' D marks marks' long mine) (go (test_chunk A s h g m marks) (passes (test_chunk A s h g m marks)))
    where
      go : (v : Verdict) (b : Bool) → SameOutcome A (owned A s g h) h (cond b (outcome A accepted s (work A s g h m) (set marks h 1)) (outcome A v s m marks)) (cond b (outcome A accepted s (work A s g h m') (set marks' h 1)) (outcome A v s m' marks'))
      go v true = record { verdict = refl; state = refl; lent = reads_own s g r S h m m' D; mark = mark_set marks marks' h long }
      go v false = record { verdict = refl; state = refl; lent = own_same A (owned A s g) (own-once s g r S) h m m' D; mark = mine }
