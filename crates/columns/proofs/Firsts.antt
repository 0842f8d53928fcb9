-- Laws of `first_from`, for the library's scans of the first c elements, what sound marks are, and marks that are cleared. Assumes nothing.
use mathlib.Core.Path.{◌≡◌, refl, sym, ap, ap₂, ◌∙◌}
use mathlib.Core.Bool.{Bool, true, false, not, cond, ◌&&◌}
use mathlib.Core.List.{List, [], ◌∷◌, ◌++◌}
use Prim.Native.Nat.{ℕ, zero, suc, ◌+◌, ◌-◌, ◌≤◌, ◌<◌}
use native.Mathlib.Omega.{arith}
use borrow.Author.Tests.{eqb-true, eqb-false, ltb-false, lt-ltb, le-ltb, lt-leb, le-leb, eq-eqb, ne_eqb}
use lib.Dec.{eqb, ltb, leb}
use lib.Seq.{length-take-le}
use lib.ListN.{length, length-drop, get_or, take, drop, replicate, length-replicate, get_or-replicate}
use native.Mathlib.Nat.{zero-add}
use Rattle.std.proofs.Common.{Some, None}
use Rattle.std.specs.Option.{unwrap_or}
use Rattle.std.specs.List.{list_all, position_or_len}
use Rattle.std.proofs.lemmas.List.Sums.{prefix_len-le-length}
use Rattle.std.proofs.lemmas.List.{length-append, ext_get_or, get_or-drop, get_or_append_left, get_or-append_right}
use Rattle.definition.proofs.Fill.{split, fill_length, fill_in, fill_high}
use Rattle.definition.proofs.First.{first-all, all_first}
use Rattle.definition.specs.Memory.{fill_range}
use Rattle.definition.specs.Marks.{unsound, sound}
use Rattle.definition.specs.Refusals.{first_from}

-- ---- a scan of the first c places is the library's scan of the list's first c elements

first_suc : (f : ℕ → Bool) (a m : ℕ) → first_from f (suc a) m ≡ suc (first_from (λ h. f (suc h)) a m)
unfolding first_from
first_suc f a zero = refl
first_suc f a (suc m) = go (f (suc a)) (first_suc f (suc a) m)
  where
    go : (b : Bool) → first_from f (suc (suc a)) m ≡ suc (first_from (λ h. f (suc h)) (suc a) m)
        → cond b (suc a) (first_from f (suc (suc a)) m) ≡ suc (cond b a (first_from (λ h. f (suc h)) (suc a) m))
    go true e = refl
    go false e = e

pub position_first : (t : ℕ → Bool) (xs : List ℕ) (c : ℕ) → c ≤ length xs → position_or_len t (take c xs) ≡ first_from (λ h. t (get_or xs h 0)) 0 c
unfolding first_from
position_first t xs zero h = refl
position_first t [] (suc c) h = absurd (omega arith)
position_first t (x ∷ xs) (suc c) h = go (t x) (position_first t xs c (omega arith))
  where
    go : (b : Bool) → position_or_len t (take c xs) ≡ first_from (λ i. t (get_or xs i 0)) 0 c
        → cond (not b) (1 + position_or_len t (take c xs)) 0 ≡ cond b 0 (first_from (λ h. t (get_or (x ∷ xs) h 0)) 1 c)
    go true e = refl
    go false e = omega (arith, first_suc (λ h. t (get_or (x ∷ xs) h 0)) 0 c)

-- where the first is none of those elements, no element passes
pub all_first_none : (t u : ℕ → Bool) (xs : List ℕ) → ((x : ℕ) → u x ≡ not (t x)) → list_all u xs ≡ eqb (position_or_len t xs) (length xs)
all_first_none t u [] h = sym (eq-eqb 0 0 refl)
all_first_none t u (x ∷ xs) h = ap (λ (b : Bool). b && list_all u xs) (h x) ∙ go (t x) (all_first_none t u xs h)
  where
    same : (b : Bool) → eqb (position_or_len t xs) (length xs) ≡ b → b ≡ eqb (1 + position_or_len t xs) (suc (length xs))
    same true e = sym (eq-eqb (1 + position_or_len t xs) (suc (length xs)) (omega (arith, eqb-true (position_or_len t xs) (length xs) e)))
    same false e = sym (ne_eqb (1 + position_or_len t xs) (suc (length xs)) (λ h. eqb-false (position_or_len t xs) (length xs) e (omega arith)))

    go : (b : Bool) → list_all u xs ≡ eqb (position_or_len t xs) (length xs) → not b && list_all u xs ≡ eqb (cond (not b) (1 + position_or_len t xs) 0) (suc (length xs))
    go true e = sym (ne_eqb 0 (suc (length xs)) (λ q. omega arith))
    go false e = e ∙ same (eqb (position_or_len t xs) (length xs)) refl

-- the first c elements made 0, and the others as they were
pub zeros : (c : ℕ) (xs : List ℕ) → c ≤ length xs → replicate c 0 ++ drop c xs ≡ fill_range 0 c (λ h. 0) xs
zeros c xs h =
    ext_get_or 0 (replicate c 0 ++ drop c xs) (fill_range 0 c (λ i. 0) xs)
    (omega (arith, length-append (replicate c 0) (drop c xs), length-replicate {A = ℕ} c 0, length-drop c xs, fill_length 0 c (λ i. 0) xs))
    (λ i p. split i c
    (λ s. get_or_append_left (replicate c 0) (drop c xs) 0 i (omega (arith, length-replicate {A = ℕ} c 0)) ∙ get_or-replicate c i 0 0 s
    ∙ sym (fill_in 0 c (λ j. 0) xs i 0 (omega arith) s (omega arith)))
    (λ s. let e : c + (i - c) ≡ i = omega arith in
    get_or-append_right (replicate c 0) (drop c xs) c i 0 (length-replicate {A = ℕ} c 0) s ∙ get_or-drop c xs (i - c) 0 ∙ ap (λ (j : ℕ). get_or xs j 0) e
    ∙ sym (fill_high 0 c (λ j. 0) xs i 0 s)))

-- ---- sound marks are those that are 0 or 1

pub sound_each : (marks : List ℕ) (c : ℕ) → sound marks c ≡ true → (h : ℕ) → h < c → get_or marks h 0 ≤ 1
unfolding sound
sound_each marks c e h p =
    ltb-false 1 (get_or marks h 0)
    (first-all (unsound marks) 0 c h (omega (arith, eqb-true (first_from (unsound marks) 0 c) c e)) (omega arith) (omega arith))

pub each_sound : (marks : List ℕ) (c : ℕ) → ((h : ℕ) → h < c → get_or marks h 0 ≤ 1) → sound marks c ≡ true
unfolding sound
each_sound marks c e =
    eq-eqb (first_from (unsound marks) 0 c) c
    (all_first (unsound marks) 0 c (λ h p q. le-ltb 1 (get_or marks h 0) (e h (omega arith))) ∙ zero-add c)

pub sound_take : (marks : List ℕ) (c : ℕ) → c ≤ length marks → list_all (λ mark. leb mark 1) (take c marks) ≡ sound marks c
unfolding sound
sound_take marks c h =
    all_first_none (λ x. ltb 1 x) (λ x. leb x 1) (take c marks)
    (λ x. split 1 x (λ s. lt-leb x 1 s ∙ ap not (sym (lt-ltb 1 x s))) (λ s. le-leb x 1 s ∙ ap not (sym (le-ltb 1 x s))))
    ∙ ap₂ eqb (position_first (λ x. ltb 1 x) marks c h) (length-take-le c marks h)

-- the first that passes, or else the length, as an option with a default is read
pub first_or : (t : ℕ → Bool) (xs : List ℕ) (d : ℕ) → length xs ≡ d
    → unwrap_or (cond (ltb (position_or_len t xs) (length xs)) (Some (position_or_len t xs)) None) d ≡ position_or_len t xs
first_or t xs d h =
    let p = position_or_len t xs in
    split p (length xs) (λ s. ap (λ (b : Bool). unwrap_or (cond b (Some p) None) d) (lt-ltb p (length xs) s))
    (λ s. ap (λ (b : Bool). unwrap_or (cond b (Some p) None) d) (le-ltb p (length xs) s) ∙ omega (arith, prefix_len-le-length (λ x. not (t x)) xs))
