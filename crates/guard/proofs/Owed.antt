-- Laws of closed stages: what they come to by the stage's number, and that they are few. Assumes nothing.
use mathlib.Core.Path.{◌≡◌, refl, sym, ap, ap₂, subst, ◌∙◌}
use mathlib.Core.Bool.{Bool, true, false, cond, not, ◌&&◌}
use Prim.Native.Nat.{ℕ, zero, suc, ◌+◌, ◌-◌, ◌*◌, ◌≤◌, ◌<◌}
use native.Mathlib.Omega.{arith}
use borrow.Author.Tests.{leb-true, ltb-true, not-true, eqb-false}
use lib.Dec.{eqb, leb}
use Rattle.definition.specs.Arith.{ieee64}
use Rattle.definition.specs.Numbers.{chunks}
use Rattle.definition.specs.SpectralEmbedding.{Counts}
use Rattle.definition.proofs.Fill.{split, same_or}
use Rattle.machine.specs.State.{Asked, wide, chunk_count, last_stage, stage_of, Progress, State}
use Rattle.machine.specs.Ranges.{asked_sound, state_sound, progress_sound, counts_sound}
use Rattle.machine.specs.Ready.{AskedReady}
use Rattle.machine.specs.Progress.{round_stages, in_round, run_stages, closed_stages_by, closed_stages, calls_accepted, calls_owed}
use Rattle.machine.proofs.Own.{both_of}
use Rattle.guard.specs.Counted.{Counted, Begun}
use Rattle.ready.proofs.Tested.{asked_ready}

-- ---- few
pub round-few : {a : Asked} → AskedReady a → round_stages a ≤ 1_107
unfolding round_stages
round-few r = omega (arith, r.degree-most, r.dims-most)

pub chunks-few : {a : Asked} → AskedReady a → chunk_count a ≤ 256
unfolding chunks
chunks-few r = omega (arith, r.rows-most)

-- ---- a fact of each of the n numbers from a on is one of any of them
All : (ℕ → Type 0) → ℕ → ℕ → Type 0
All P a zero = Unit
All P a (suc n) = P a × All P (suc a) n

any : (P : ℕ → Type 0) (a n i : ℕ) → All P a n → a ≤ i → i < a + n → P i
unfolding All
any P a zero i h p q = absurd (omega arith)
any P a (suc n) i h p q =
    same_or i a (λ e. subst P (sym e) h.0) (λ e. any P (suc a) n i h.1 (omega arith) (omega arith))

-- ---- closed stages by the stage's number
module _ (a : Asked) (p : Progress ieee64) (r : ℕ) where
  abbrev closed : ℕ → ℕ
  closed st = closed_stages_by ieee64 (stage_of st) a p r

  pub closed-first : (st : ℕ) → 1 ≤ st → st < 5 → st - 1 ≡ closed st
  unfolding All
  closed-first st l m = any (λ i. i - 1 ≡ closed i) 1 4 st (refl, (refl, (refl, (refl, tt)))) l (omega arith)

  pub closed-last : (st : ℕ) → 15 ≤ st → st ≤ 20 → in_round a a.rounds r (st - 15) ≡ closed st
  unfolding All
  closed-last st l m = any (λ i. in_round a a.rounds r (i - 15) ≡ closed i) 15 6 st (refl, (refl, (refl, (refl, (refl, (refl, tt)))))) l (omega arith)

  pub closed_filter : (st : ℕ) → st ≡ 5 → in_round a p.round r p.pass ≡ closed st
  closed_filter st e = rw e refl

  pub closed-column : (st : ℕ) → 6 ≤ st → st < 13 → in_round a p.round r (a.degree + 7 * p.column + (st - 6)) ≡ closed st
  unfolding All
  closed-column st l m =
      any (λ i. in_round a p.round r (a.degree + 7 * p.column + (i - 6)) ≡ closed i) 6 7 st
      (omega arith, (refl, (refl, (refl, (refl, (refl, (refl, tt))))))) l (omega arith)

  pub closed-pass : (st : ℕ) → 13 ≤ st → st < 15 → in_round a p.round r (a.degree + 7 * wide a + (st - 13)) ≡ closed st
  unfolding All
  closed-pass st l m =
      any (λ i. in_round a p.round r (a.degree + 7 * wide a + (i - 13)) ≡ closed i) 13 2 st (omega arith, (refl, tt)) l (omega arith)

pub run-rounds : (a : Asked) (r : ℕ) → in_round a a.rounds r 5 ≡ run_stages a r
unfolding run_stages
run-rounds a r = omega arith

-- ---- what a count rests on, in a run that was opened
module _ {a : Asked} {p : Progress ieee64} {r : ℕ} (b : Begun a p r) {i : ℕ} (h : i ≤ 2_000) where
  pub in_round_lem : Counted a p.round r i
  in_round_lem = record { asked = b.asked; rounds-few = omega (arith, b.round); refreshed-few = b.refreshed-few; more-few = h }

  pub in_last_lem : Counted a a.rounds r i
  in_last_lem = record { asked = b.asked; rounds-few = omega arith; refreshed-few = b.refreshed-few; more-few = h }

-- ---- a sound state of a run that was opened
sound-parts : (s : State ieee64) → state_sound ieee64 s ≡ true
    → (asked_sound s.asked ≡ true) × (progress_sound ieee64 s.asked s.progress ≡ true) × (counts_sound s.asked s.counts ≡ true)
unfolding state_sound
sound-parts s h = let t = both_of _ _ h in let u = both_of _ _ t.1 in (t.0, u.0, (both_of _ _ u.1).0)

begun-progress : (a : Asked) (p : Progress ieee64) → progress_sound ieee64 a p ≡ true
    → (p.stage ≤ last_stage) × (p.round < a.rounds) × (p.pass < a.degree) × (p.column < wide a)
unfolding progress_sound
begun-progress a p h =
    let t = both_of _ _ h in
    let u = both_of _ _ t.1 in
    let v = both_of _ _ u.1 in
    (leb-true _ _ t.0, ltb-true _ _ u.0, ltb-true _ _ v.0, ltb-true _ _ (both_of _ _ v.1).0)

begun-counts : (a : Asked) (t : Counts) → counts_sound a t ≡ true → t.refreshed ≤ a.rounds * wide a
unfolding counts_sound
begun-counts a t h =
    let most = a.rounds * wide a in
    let rest = leb t.zeroed most && leb t.isolated a.rows in
    let u = both_of (leb t.passes (a.rounds * (a.degree + 1))) (leb t.refreshed most && rest) h in
    leb-true t.refreshed most (both_of (leb t.refreshed most) rest u.1).0

begun-at : (s : State ieee64) → state_sound ieee64 s ≡ true → (s.progress.stage ≡ 0 → ⊥) → Begun s.asked s.progress s.counts.refreshed
begun-at s h n =
    let t = sound-parts s h in
    let p = begun-progress s.asked s.progress t.1 in
    record {
      asked = asked_ready ieee64 s.asked t.0;
      stage-least = split 0 s.progress.stage (λ l. omega arith) (λ l. absurd (n (omega arith)));
      stage-most = p.0;
      round = p.1;
      pass = p.2;
      column = p.3;
      refreshed-few = begun-counts s.asked s.counts t.2;
    }

pub begun : (s : State ieee64) → (state_sound ieee64 s && not (eqb s.progress.stage 0)) ≡ true → Begun s.asked s.progress s.counts.refreshed
begun s h =
    let t = both_of (state_sound ieee64 s) (not (eqb s.progress.stage 0)) h in
    begun-at s t.0 (eqb-false s.progress.stage 0 (not-true (eqb s.progress.stage 0) t.1))

-- ---- the counts of calls
module _ (s : State ieee64) where
  pub none-accepted : (state_sound ieee64 s && not (eqb s.progress.stage 0)) ≡ false → 0 ≡ calls_accepted ieee64 s
  unfolding calls_accepted
  none-accepted h = sym (ap (λ (b : Bool). cond b (closed_stages ieee64 s * (chunk_count s.asked + 1)) 0) h)

  pub some-accepted : (state_sound ieee64 s && not (eqb s.progress.stage 0)) ≡ true → {x c : ℕ} → x ≡ closed_stages ieee64 s → c ≡ chunk_count s.asked
      → x * (c + 1) ≡ calls_accepted ieee64 s
  unfolding calls_accepted
  some-accepted h p q =
      ap₂ (λ (y d : ℕ). y * (d + 1)) p q ∙ sym (ap (λ (b : Bool). cond b (closed_stages ieee64 s * (chunk_count s.asked + 1)) 0) h)

  pub none_owed : (state_sound ieee64 s && not (eqb s.progress.stage 0)) ≡ false → 0 ≡ calls_owed ieee64 s
  unfolding calls_owed
  none_owed h = sym (ap (λ (b : Bool). cond b ((run_stages s.asked s.counts.refreshed - closed_stages ieee64 s) * (chunk_count s.asked + 1)) 0) h)

  pub some_owed : (state_sound ieee64 s && not (eqb s.progress.stage 0)) ≡ true → {x c : ℕ}
      → x ≡ run_stages s.asked s.counts.refreshed - closed_stages ieee64 s → c ≡ chunk_count s.asked → x * (c + 1) ≡ calls_owed ieee64 s
  unfolding calls_owed
  some_owed h p q =
      ap₂ (λ (y d : ℕ). y * (d + 1)) p q
      ∙ sym (ap (λ (b : Bool). cond b ((run_stages s.asked s.counts.refreshed - closed_stages ieee64 s) * (chunk_count s.asked + 1)) 0) h)
