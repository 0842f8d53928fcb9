-- The tests of limits and of room, way by way. Assumes nothing.
use mathlib.Core.Path.{◌≡◌, refl, ap, ◌∙◌}
use Prim.Native.Nat.{ℕ, ◌+◌, ◌*◌, ◌≤◌, ◌<◌, min}
use native.Mathlib.Nat.{add-zero}
use native.Mathlib.Omega.{arith}
use borrow.Author.Tests.{eq-eqb, ne_eqb, lt-ltb, le-ltb}
use Rattle.std.specs.Prelude.{Result, Ok, Err, IsErrAnd}
use Rattle.definition.specs.Numbers.{rows_most, entries_most}
use Rattle.definition.specs.Refusals.{Verdict, accepted, refused, or_else, first_from}
use Rattle.definition.proofs.Fill.{split, same_or}
use Rattle.input.specs.declared.refusal.Refusal.{Refusal}
use Rattle.input.specs.Said.{refusal_of}
use Rattle.input.proofs.Verdicts.{numbered, passed}
use Rattle.matrix_market.specs.Outcome.{test_limits, test_room, room, room_for}
use Rattle.matrix_market.specs.Said.{room_in}
use Rattle.matrix_market.specs.declared.Lengths.{Lengths}

module _ (n m : ℕ) where
  pub no_rows : n ≡ 0 → test_limits n m ≡ refused 2 0
  unfolding or_else
  no_rows h = rw (eq-eqb n 0 h) refl

  pub many_rows : (n ≡ 0 → ⊥) → rows_most < n → test_limits n m ≡ refused 3 0
  unfolding or_else
  many_rows h p = rw (ne_eqb n 0 h, lt-ltb rows_most n p) refl

  pub many_entries : (n ≡ 0 → ⊥) → n ≤ rows_most → entries_most < m → test_limits n m ≡ refused 3 0
  unfolding or_else
  many_entries h p q = rw (ne_eqb n 0 h, le-ltb rows_most n p, lt-ltb entries_most m q) refl

  pub limits_kept : (n ≡ 0 → ⊥) → n ≤ rows_most → m ≤ entries_most → test_limits n m ≡ accepted
  unfolding or_else
  limits_kept h p q = rw (ne_eqb n 0 h, le-ltb rows_most n p, le-ltb entries_most m q) refl

module _ (n m starts columns values : ℕ) where
  pub few-starts : starts < n + 1 → test_room n m starts columns values ≡ refused 11 0
  unfolding first_from
  few-starts h = rw (lt-ltb starts (n + 1) h) refl

  pub few-columns : n + 1 ≤ starts → columns < m → test_room n m starts columns values ≡ refused 11 1
  unfolding first_from
  few-columns p h = rw (le-ltb starts (n + 1) p, lt-ltb columns m h) refl

  pub few-values : n + 1 ≤ starts → m ≤ columns → values < m → test_room n m starts columns values ≡ refused 11 2
  unfolding first_from
  few-values p q h = rw (le-ltb starts (n + 1) p, le-ltb columns m q, lt-ltb values m h) refl

  pub room-kept : n + 1 ≤ starts → m ≤ columns → m ≤ values → test_room n m starts columns values ≡ accepted
  unfolding first_from
  room-kept p q h = rw (le-ltb starts (n + 1) p, le-ltb columns m q, le-ltb values m h) refl

-- ---- what passes

pub record Kept (n m : ℕ) : Type 0 where
  pub some : n ≡ 0 → ⊥
  pub rows : n ≤ rows_most
  pub entries : m ≤ entries_most

pub kept_of : (n m : ℕ) → (test_limits n m).number ≡ 0 → Kept n m
kept_of n m h =
    same_or n 0
    (λ p. absurd (omega (arith, ap (λ (v : Verdict). v.number) (no_rows n m p))))
    (λ p. split rows_most n
    (λ q. absurd (omega (arith, ap (λ (v : Verdict). v.number) (many_rows n m p q))))
    (λ q. split entries_most m
    (λ u. absurd (omega (arith, ap (λ (v : Verdict). v.number) (many_entries n m p q u))))
    (λ u. record { some = p; rows = q; entries = u })))

pub room_of_lem : (n m starts columns values : ℕ) → (test_room n m starts columns values).number ≡ 0 → (n + 1 ≤ starts) × (m ≤ columns) × (m ≤ values)
room_of_lem n m starts columns values h =
    split starts (n + 1)
    (λ p. absurd (omega (arith, ap (λ (v : Verdict). v.number) (few-starts n m starts columns values p))))
    (λ p. split columns m
    (λ q. absurd (omega (arith, ap (λ (v : Verdict). v.number) (few-columns n m starts columns values p q))))
    (λ q. split values m
    (λ u. absurd (omega (arith, ap (λ (v : Verdict). v.number) (few-values n m starts columns values p q u))))
    (λ u. (p, q, u))))

-- ---- the sizes that a host is told

-- t is what the code's test found
module _ (n m : ℕ) {t : Verdict} (is : t ≡ test_limits n (m + 0)) where
  same_limits : t ≡ test_limits n m
  same_limits = is ∙ ap (test_limits n) (add-zero m)

module _ (n m : ℕ) where
  pub sizes_refused : (r : Result Lengths Refusal) (d : Refusal) → IsErrAnd r (λ e. e ≡ d) → refusal_of d ≡ test_limits n (m + 0) → room_in r ≡ room_for n m
  unfolding room_for
  sizes_refused (Ok x) d h is = absurd h
  sizes_refused (Err e) d h is = rw (h, ← same_limits n m is, ne_eqb (refusal_of d).number 0 (numbered d)) refl

  pub sizes_kept : accepted ≡ test_limits n (m + 0) → Kept n m
  sizes_kept is = kept_of n m (passed (same_limits n m is))

  pub sizes_told : accepted ≡ test_limits n (m + 0) → (e : ℕ) → e ≡ min (2 * m) entries_most → room accepted (n + 1) e ≡ room_for n m
  unfolding room_for
  sizes_told is e p = rw (← same_limits n m is, p) refl
