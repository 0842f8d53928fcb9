-- What a call's tests come to, by the first of them that decides. Assumes nothing.
use mathlib.Core.Path.{◌≡◌, refl, ap, ◌∙◌}
use mathlib.Core.Bool.{Bool, true, false, not, ◌&&◌}
use mathlib.Core.List.{List}
use Prim.Native.Nat.{ℕ, ◌+◌, ◌≤◌, ◌<◌}
use native.Mathlib.Omega.{arith}
use borrow.Author.Tests.{le-ltb, lt-ltb, le-leb, lt-leb, eq-eqb, ne_eqb}
use lib.Dec.{leb}
use lib.ListN.{get_or}
use Rattle.definition.specs.Arith.{ieee64}
use Rattle.definition.specs.Marks.{undone, sound}
use Rattle.definition.specs.Refusals.{Verdict, accepted, refused, given, or_else, first_from}
use Rattle.machine.specs.State.{chunk_count, Lists, State, Lent}
use Rattle.machine.specs.Ranges.{state_sound, is_open, lists_sound, rows_sound, chunk_sound, sound_for_chunk, sound_for_close, test_chunk, test_close}
use Rattle.guard.specs.Rows.{rows_test, own_test}

-- ---- what both calls test first: a the state, o that a run is open, l the lists
module _ (a o l : Bool) where
  abbrev pub begun : Verdict
  begun = or_else (given (not a) 16 0) (or_else (given (not o) 15 0) (given (not l) 16 0))

  pub begun-damaged : a ≡ false → refused 16 0 ≡ begun
  unfolding or_else
  begun-damaged e = simp e

  module _ (e : a ≡ true) where
    pub begun-none : o ≡ false → refused 15 0 ≡ begun
    unfolding or_else
    begun-none p = simp (e, p)

    module _ (p : o ≡ true) where
      pub begun-short : l ≡ false → refused 16 0 ≡ begun
      unfolding or_else
      begun-short q = simp (e, p, q)

      pub begun-taken : l ≡ true → accepted ≡ begun
      unfolding or_else
      begun-taken q = simp (e, p, q)

pub all-begun : (a o l : Bool) → accepted ≡ begun a o l → (a ≡ true) × (o ≡ true) × (l ≡ true)
unfolding or_else
all-begun true true true e = (refl, refl, refl)
all-begun false o l e = let n = ap (λ (v : Verdict). v.number) e in absurd (omega (arith, n))
all-begun true false l e = let n = ap (λ (v : Verdict). v.number) e in absurd (omega (arith, n))
all-begun true true false e = let n = ap (λ (v : Verdict). v.number) e in absurd (omega (arith, n))

-- ---- a chunk
module _ (s : State ieee64) (h : ℕ) (g : Lists ieee64) (m : Lent ieee64) (marks : List ℕ) where
  pub chunk_damaged : state_sound ieee64 s ≡ false → refused 16 0 ≡ test_chunk ieee64 s h g m marks
  unfolding test_chunk sound_for_chunk or_else
  chunk_damaged e = simp e

  module _ (e : state_sound ieee64 s ≡ true) where
    pub chunk-none : is_open ieee64 s ≡ false → refused 15 0 ≡ test_chunk ieee64 s h g m marks
    unfolding test_chunk sound_for_chunk or_else
    chunk-none o = simp (e, o)

    module _ (o : is_open ieee64 s ≡ true) where
      pub chunk-short : lists_sound ieee64 s g m marks ≡ false → refused 16 0 ≡ test_chunk ieee64 s h g m marks
      unfolding test_chunk sound_for_chunk or_else
      chunk-short l = simp (e, o, l)

      module _ (l : lists_sound ieee64 s g m marks ≡ true) where
        pub chunk_beyond : chunk_count s.asked ≤ h → refused 12 h ≡ test_chunk ieee64 s h g m marks
        unfolding test_chunk sound_for_chunk or_else
        chunk_beyond p = simp (e, o, l, le-ltb h (chunk_count s.asked) p)

        -- what is left: the chunk's own
        pub chunk-own : h < chunk_count s.asked
            → own_test s.progress.stage s.asked g.starts g.columns m.edge_columns marks h ≡ test_chunk ieee64 s h g m marks
        unfolding test_chunk sound_for_chunk chunk_sound rows_sound rows_test or_else
        chunk-own p = simp (e, o, l, lt-ltb h (chunk_count s.asked) p)

  -- a refusal of the first tests is the call's
  pub chunk-begun : (v : Verdict) → (v.number ≡ 0 → ⊥) → v ≡ begun (state_sound ieee64 s) (is_open ieee64 s) (lists_sound ieee64 s g m marks) → v ≡ test_chunk ieee64 s h g m marks
  unfolding or_else
  chunk-begun v n f = by (state_sound ieee64 s) (is_open ieee64 s) (lists_sound ieee64 s g m marks) refl refl refl f
    where
      by : (a o l : Bool) → state_sound ieee64 s ≡ a → is_open ieee64 s ≡ o → lists_sound ieee64 s g m marks ≡ l → v ≡ begun a o l → v ≡ test_chunk ieee64 s h g m marks
      by false o l p q r f = f ∙ chunk_damaged p
      by true false l p q r f = f ∙ chunk-none p q
      by true true false p q r f = f ∙ chunk-short p q r
      by true true true p q r f = absurd (n (ap (λ (u : Verdict). u.number) f))

-- ---- a chunk below C: r is the test of its rows
module _ (marks : List ℕ) (h : ℕ) (r : Bool) where
  abbrev own : Verdict
  own = or_else (given (not (leb (get_or marks h 0) 1 && r)) 16 0) (given (not (undone marks h)) 13 h)

  pub own-mark : 1 < get_or marks h 0 → refused 16 0 ≡ own
  unfolding or_else
  own-mark p = simp (lt-leb (get_or marks h 0) 1 p)

  module _ (p : get_or marks h 0 ≤ 1) where
    pub own-rows : r ≡ false → refused 16 0 ≡ own
    unfolding or_else
    own-rows e = simp (le-leb (get_or marks h 0) 1 p, e)

    pub own-done : r ≡ true → (get_or marks h 0 ≡ 0 → ⊥) → refused 13 h ≡ own
    unfolding or_else
    own-done e q = simp (le-leb (get_or marks h 0) 1 p, e, ne_eqb (get_or marks h 0) 0 q)

    pub own-taken : r ≡ true → get_or marks h 0 ≡ 0 → accepted ≡ own
    unfolding or_else
    own-taken e q = simp (le-leb (get_or marks h 0) 1 p, e, eq-eqb (get_or marks h 0) 0 q)

-- for `#[tactic(auto, using(..))]` on `test_own`
pub ruleset own_laws = (own-mark, own-rows, own-done, own-taken)

-- ---- closing
module _ (s : State ieee64) (g : Lists ieee64) (m : Lent ieee64) (marks : List ℕ) where
  pub close_damaged : state_sound ieee64 s ≡ false → refused 16 0 ≡ test_close ieee64 s g m marks
  unfolding test_close sound_for_close or_else
  close_damaged e = simp e

  module _ (e : state_sound ieee64 s ≡ true) where
    pub close-none : is_open ieee64 s ≡ false → refused 15 0 ≡ test_close ieee64 s g m marks
    unfolding test_close sound_for_close or_else
    close-none o = simp (e, o)

    module _ (o : is_open ieee64 s ≡ true) where
      pub close-short : lists_sound ieee64 s g m marks ≡ false → refused 16 0 ≡ test_close ieee64 s g m marks
      unfolding test_close sound_for_close or_else
      close-short l = simp (e, o, l)

      module _ (l : lists_sound ieee64 s g m marks ≡ true) where
        pub close-unsound : sound marks (chunk_count s.asked) ≡ false → refused 16 0 ≡ test_close ieee64 s g m marks
        unfolding test_close sound_for_close or_else
        close-unsound u = simp (e, o, l, u)

        module _ (u : sound marks (chunk_count s.asked) ≡ true) where
          abbrev lowest : ℕ
          lowest = first_from (undone marks) 0 (chunk_count s.asked)

          pub close-undone : lowest < chunk_count s.asked → refused 14 lowest ≡ test_close ieee64 s g m marks
          unfolding test_close sound_for_close or_else
          close-undone p = simp (e, o, l, u, lt-ltb lowest (0 + chunk_count s.asked) (omega arith))

          pub close-taken : chunk_count s.asked ≤ lowest → accepted ≡ test_close ieee64 s g m marks
          unfolding test_close sound_for_close or_else
          close-taken p = simp (e, o, l, u, le-ltb lowest (0 + chunk_count s.asked) (omega arith))

  pub close-begun : (v : Verdict) → (v.number ≡ 0 → ⊥) → v ≡ begun (state_sound ieee64 s) (is_open ieee64 s) (lists_sound ieee64 s g m marks) → v ≡ test_close ieee64 s g m marks
  unfolding or_else
  close-begun v n f = by (state_sound ieee64 s) (is_open ieee64 s) (lists_sound ieee64 s g m marks) refl refl refl f
    where
      by : (a o l : Bool) → state_sound ieee64 s ≡ a → is_open ieee64 s ≡ o → lists_sound ieee64 s g m marks ≡ l → v ≡ begun a o l → v ≡ test_close ieee64 s g m marks
      by false o l p q r f = f ∙ close_damaged p
      by true false l p q r f = f ∙ close-none p q
      by true true false p q r f = f ∙ close-short p q r
      by true true true p q r f = absurd (n (ap (λ (u : Verdict). u.number) f))
