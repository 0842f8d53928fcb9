-- What a writer of a whole text leaves, by its verdict. Assumes nothing.
use mathlib.Core.Path.{◌≡◌, refl, sym, ap, ◌∙◌, subst}
use mathlib.Core.Bool.{Bool, cond}
use mathlib.Core.List.{List}
use Prim.Native.Nat.{ℕ, ◌+◌, ◌≤◌, ◌<◌}
use native.Mathlib.Nat.{zero-add}
use native.Mathlib.Omega.{arith}
use borrow.Author.Tests.{lt-ltb, le-ltb, ne_eqb}
use lib.ListN.{length, take, drop}
use lib.Seq.{take_at}
use Rattle.std.specs.Prelude.{Result, Ok, Err, IsErrAnd}
use Rattle.definition.specs.Refusals.{Verdict, accepted, refused, given, or_else}
use Rattle.digits.specs.Placed.{put}
use Rattle.input.proofs.Accepted.{both_pass}
use Rattle.input.specs.declared.refusal.Refusal.{Refusal}
use Rattle.input.specs.Said.{refusal_of}
use Rattle.input.proofs.Verdicts.{refuses, numbered, goes_past}
use Rattle.printing.specs.Printed.{room}
use Rattle.printing.specs.Room.{test_room, length_by, bytes_by, judged_in, length_in, Leaves}
use Rattle.printing.proofs.Putting.{Put}

-- by a verdict: all of the text, or nothing
pub leaves_text : (text out : List ℕ) {count : ℕ} {after : List ℕ} → Put text 0 out count after → Leaves accepted text out accepted count after
unfolding length_by bytes_by
leaves_text text out p = record { judged = refl; counted = p.0 ∙ zero-add (length text); bytes = p.1 }

pub leaves_nothing : (v : Verdict) (text out : List ℕ) {verdict : Verdict} → verdict ≡ v → (v.number ≡ 0 → ⊥) → Leaves v text out verdict 0 out
unfolding length_by bytes_by
leaves_nothing v text out e f =
    let no = ne_eqb v.number 0 f in
    record {
      judged = e;
      counted = sym (ap (λ (b : Bool). cond b (length text) 0) no);
      bytes = sym (ap (λ (b : Bool). cond b (put text 0 out) out) no);
    }

-- the verdict of room
pub room-enough : (text out : List ℕ) → length text ≤ length out → test_room text out ≡ accepted
unfolding test_room
room-enough text out h = ap (λ (b : Bool). given b 18 0) (le-ltb (length out) (length text) h)

pub room-short : (text out : List ℕ) → length out < length text → test_room text out ≡ refused 18 0
unfolding test_room
room-short text out h = ap (λ (b : Bool). given b 18 0) (lt-ltb (length out) (length text) h)

-- into lent bytes: all of the text where it fits, and else nothing
pub leaves_room : (text out : List ℕ) {count : ℕ} {after : List ℕ} → length text ≤ length out → Put text 0 out count after
    → Leaves (test_room text out) text out accepted count after
leaves_room text out {count} {after} h p =
    subst (λ (v : Verdict). Leaves v text out accepted count after) (sym (room-enough text out h)) (leaves_text text out p)

pub leaves_short : (text out : List ℕ) → length out < length text → Leaves (test_room text out) text out (refused 18 0) 0 out
leaves_short text out h =
    subst (λ (v : Verdict). Leaves v text out (refused 18 0) 0 out) (sym (room-short text out h))
    (leaves_nothing (refused 18 0) text out refl (λ x. absurd (omega arith)))

-- ---- tests that stand before the room's: where they refuse nothing is left, and where they pass the room decides
module _ (t : Verdict) (text out : List ℕ) where
  pub leaves_refused : (r : Result ℕ Refusal) (d : Refusal) → IsErrAnd r (λ e. e ≡ d) → refusal_of d ≡ t
      → Leaves (or_else t (test_room text out)) text out (judged_in r) (length_in r) out
  leaves_refused (Ok n) d h e = absurd h
  leaves_refused (Err x) d h e =
      leaves_nothing (or_else t (test_room text out)) text out (ap refusal_of h ∙ refuses e _ (numbered d))
      (λ z. numbered d (ap (λ (v : Verdict). v.number) e ∙ (both_pass t (test_room text out) z).0))

  pub leaves_tested : {verdict : Verdict} {part : List ℕ} {count : ℕ} {after : List ℕ} → accepted ≡ t → part ≡ text
      → Leaves (test_room part out) part out verdict count after → Leaves (or_else t (test_room text out)) text out verdict count after
  leaves_tested {verdict} {part} {count} {after} e same l =
      subst (λ (v : Verdict). Leaves v text out verdict count after) (goes_past e refl)
      (subst (λ (p : List ℕ). Leaves (test_room p out) p out verdict count after) same l)

-- a text that was put from the first byte on is the part up to its end
pub put_front : (text out : List ℕ) {end : ℕ} {after : List ℕ} → end ≡ length text → after ≡ put text 0 out → take end after ≡ text
put_front text out {end} e h = ap (take end) h ∙ take_at text (drop (0 + length text) out) end (sym e)

pub put_count : (text out : List ℕ) {end : ℕ} {after : List ℕ} → end ≡ length text → after ≡ put text 0 out → end ≡ length (take end after)
put_count text out e h = e ∙ sym (ap length (put_front text out e h))

-- another text that is the same
pub same_text : {text answer after : List ℕ} {r : ℕ} (out : List ℕ) → text ≡ answer → (r ≡ length text) × (r ≤ room) × (after ≡ put text 0 out)
    → (r ≡ length answer) × (r ≤ room) × (after ≡ put answer 0 out)
same_text {text} {answer} {after} {r} out e h = subst (λ (t : List ℕ). (r ≡ length t) × (r ≤ room) × (after ≡ put t 0 out)) e h
