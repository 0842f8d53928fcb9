-- A round's columns, refreshed ones among them: from the first to the plain pass, and how many stages that takes. Assumes nothing.
use mathlib.Core.Path.{◌≡◌, refl, sym, ap, ap₂, ◌∙◌, subst}
use mathlib.Core.Bool.{Bool, true, false, cond}
use mathlib.Core.List.{List}
use Prim.Native.Nat.{ℕ, zero, suc, ◌+◌, ◌-◌, ◌*◌, ◌≤◌, ◌<◌}
use native.Mathlib.Nat.{mul-le-mul_right, suc-mul}
use native.Mathlib.Omega.{arith}
use borrow.Author.Tests.{lt-ltb, le-ltb}
use lib.Dec.{eqb, ltb}
use lib.ListN.{length, get_or}
use Rattle.definition.specs.Arith.{Arith}
use Rattle.definition.specs.ChunkedColumnReduce.{Vector, Block, column_norm}
use Rattle.definition.specs.Numbers.{Params, width, chunks}
use Rattle.definition.specs.OrthonormalizeBlock.{Basis, Ending, kept, refreshed, zeroed, ending, twice_projected, attempt_ending, written, raised_refreshed, raised_zeroed, ended, attempt, tried_again, column_step, columns_from}
use Rattle.held.specs.Calls.{Base}
use Rattle.machine.specs.State.{Asked, asked_of, Lists, State, Lent}
use Rattle.machine.specs.Ready.{AskedReady}
use Rattle.machine.specs.Ranges.{bound_sound, alpha_sound}
use Rattle.promises.specs.Run.{v0_of, tried_at, basis_at}
use Rattle.promises.proofs.Here.{Sure, asked_ready, Idle, here, Fine, Leads, at, known, Standing, K}
use Rattle.promises.proofs.Attempt.{end_state, attempt-from}

-- ---- one column more at the end
module _ (A : Arith) (n k : ℕ) (v0 : Vector A) (round : ℕ) where
  pub columns-more : (m c : ℕ) (s : Basis A) → columns_from A n k v0 round (suc m) c s ≡ column_step A n k v0 round (c + m) (columns_from A n k v0 round m c s)
  unfolding columns_from
  columns-more zero c s = ap (λ (x : ℕ). column_step A n k v0 round x s) (omega arith)
  columns-more (suc m) c s =
      columns-more m (suc c) (column_step A n k v0 round c s)
      ∙ ap (λ (x : ℕ). column_step A n k v0 round x (columns_from A n k v0 round m (suc c) (column_step A n k v0 round c s))) (omega arith)

  pub columns-last : (m : ℕ) (s : Basis A) → columns_from A n k v0 round (suc m) 0 s ≡ column_step A n k v0 round m (columns_from A n k v0 round m 0 s)
  columns-last m s = columns-more m 0 s ∙ ap (λ (x : ℕ). column_step A n k v0 round x (columns_from A n k v0 round m 0 s)) (omega arith)

  -- an end raises each count by at most one
  pub refreshed-most : (e : Ending A) (x : ℕ) → raised_refreshed A e x ≤ x + 1
  unfolding raised_refreshed
  refreshed-most (kept norm) x = omega arith
  refreshed-most refreshed x = omega arith
  refreshed-most zeroed x = omega arith

  pub zeroed-most : (e : Ending A) (x : ℕ) → raised_zeroed A e x ≤ x + 1
  unfolding raised_zeroed
  zeroed-most (kept norm) x = omega arith
  zeroed-most refreshed x = omega arith
  zeroed-most zeroed x = omega arith

  -- a second attempt does not end refreshed
  pub not_again : (x y : A.F) → ending A x y true ≡ refreshed → ⊥
  unfolding ending
  not_again x y = go (A.lt (A.mul x A.collapse) y)
    where
      go : (b : Bool) → ◌≡◌ {A = Ending A} (cond b (kept y) zeroed) refreshed → ⊥
      go true e = let z : ◌≡◌ {A = ℕ} 0 1 = cc in omega arith
      go false e = let z : ◌≡◌ {A = ℕ} 0 1 = cc in omega arith

module _ (A : Arith) (d : ℕ) (params : Params) (g : Lists A) (U : Sure A d params g) where
  abbrev a : Asked
  a = asked_of A d params g

  abbrev n : ℕ
  n = length g.starts - 1

  abbrev k : ℕ
  k = width d

  abbrev C : ℕ
  C = chunks (length g.starts - 1)

  abbrev ready : AskedReady a
  ready = asked_ready A d params g U

  abbrev v₀ : Vector A
  v₀ = v0_of A d params g

  abbrev Stands : ℕ → Block A → Lent A → Type 0
  Stands = Standing A d params g U

  abbrev stepped : ℕ → ℕ → Basis A → Basis A
  stepped r c s = column_step A n k v₀ r c s

  pub basis-next : (r c : ℕ) → basis_at A d params g r (suc c) ≡ stepped r c (basis_at A d params g r c)
  unfolding basis_at
  basis-next r c = columns-last A n k v₀ r c _

  -- how the first attempt at column c ends
  abbrev pub first_ending : ℕ → ℕ → Ending A
  first_ending r c = attempt_ending A n v₀ false c (basis_at A d params g r c).block

  -- ---- the stages that a column takes before `rest` more, and m columns from column c on
  abbrev pub column_stages : Ending A → ℕ → ℕ
  column_stages (kept norm) rest = suc (suc (suc (suc (suc (suc (suc rest))))))
  column_stages refreshed rest = suc (suc (suc (suc (suc (suc (suc (suc (suc (suc (suc (suc (suc (suc rest)))))))))))))
  column_stages zeroed rest = suc (suc (suc (suc (suc (suc (suc rest))))))

  unfoldable pub columns_stages : ℕ → ℕ → ℕ → ℕ → ℕ
  columns_stages r zero c rest = rest
  columns_stages r (suc m) c rest = column_stages (first_ending r c) (columns_stages r m (suc c) rest)

  -- ---- what is counted stays within what a run can reach
  pub record Counted (r c : ℕ) (s : Basis A) : Type 0 where
    pub refreshed : s.refreshed ≤ r * k + c
    pub zeroed : s.zeroed ≤ r * k + c

  under : (r c x : ℕ) → r < params.rounds → c < k → x ≤ r * k + c + 1 → x ≤ params.rounds * k
  under r c x l q h = omega (arith, mul-le-mul_right {m = suc r} {n = params.rounds} k l, suc-mul r k)

  counted_step : (r c : ℕ) (s : Basis A) → Counted r c s → Counted r (suc c) (stepped r c s)
  unfolding column_step tried_again attempt ended raised_refreshed raised_zeroed attempt_ending
  counted_step r c s h = go (attempt_ending A n v₀ false c s.block) refl
    where
      once : (e : Ending A) → (raised_refreshed A e s.refreshed ≤ r * k + suc c) × (raised_zeroed A e s.zeroed ≤ r * k + suc c)
      once e = (omega (arith, refreshed-most A n k v₀ r e s.refreshed, h.refreshed), omega (arith, zeroed-most A n k v₀ r e s.zeroed, h.zeroed))

      again : (e : Ending A) → (e ≡ refreshed → ⊥) → (raised_refreshed A e (s.refreshed + 1) ≤ r * k + suc c) × (raised_zeroed A e s.zeroed ≤ r * k + suc c)
      again (kept norm) ne = (omega (arith, h.refreshed), omega (arith, h.zeroed))
      again refreshed ne = absurd (ne refl)
      again zeroed ne = (omega (arith, h.refreshed), omega (arith, h.zeroed))

      go : (e : Ending A) → attempt_ending A n v₀ false c s.block ≡ e → Counted r (suc c) (tried_again A n k v₀ r e c (ended A n k v₀ r e c s))
      go (kept norm) z = record { refreshed = (once (kept norm)).0; zeroed = (once (kept norm)).1 }
      go refreshed z =
          let w = again (attempt_ending A n v₀ true c (ended A n k v₀ r refreshed c s).block) (λ y. not_again A n k v₀ r _ _ (unfold attempt_ending in y)) in
          record { refreshed = w.0; zeroed = w.1 }
      go zeroed z = record { refreshed = (once zeroed).0; zeroed = (once zeroed).1 }

  -- ---- the columns
  module _ (r cur prev : ℕ) (b al : A.F) (p : ℕ) (rl : r < params.rounds) (pl : p ≤ params.rounds * (params.degree + 1)) (cl : cur < 3) (vl : prev < 3)
      (bs : bound_sound A b ≡ true) (ls : alpha_sound A al ≡ true) (Q : Base (K A d params g U) → Type 0) where
    fine : (c t x y : ℕ) → c < k → t ≤ 1 → x ≤ r * k + c + 1 → y ≤ r * k + c + 1 → Fine A d params g U r 0 c t cur prev b al p x y
    fine c t x y l q u v = record {
      round = rl;
      pass = omega (arith, U.numbers.degree-least);
      column = l;
      attempt = q;
      current = cl;
      previous = vl;
      bound = bs;
      alpha = ls;
      passes = pl;
      refreshed = under r c x rl l u;
      zeroed = under r c y rl l v;
    }

    -- the state after column c: at the next, or at the plain pass
    abbrev pub next_at : ℕ → Basis A → Idle A d params g U → State A
    next_at c s w = here A d params g U (cond (ltb (c + 1) k) 6 13) r 0 (cond (ltb (c + 1) k) (c + 1) 0) 0 cur prev b al p s.refreshed s.zeroed w

    column-from : (c : ℕ) (w : Idle A d params g U) (m : Lent A) (rest : ℕ) → c < k → Counted r c (basis_at A d params g r c) → Stands cur (basis_at A d params g r c).block m
        → ((x : Idle A d params g U) (y : Lent A) → Stands cur (stepped r c (basis_at A d params g r c)).block y → Leads A d params g U rest (at A d params g U (next_at c (stepped r c (basis_at A d params g r c)) x) y) Q)
        → Leads A d params g U (column_stages (first_ending r c) rest)
        (at A d params g U (here A d params g U 6 r 0 c 0 cur prev b al p (basis_at A d params g r c).refreshed (basis_at A d params g r c).zeroed w) m) Q
    unfolding column_step tried_again attempt ended attempt_ending
    column-from c w m rest l h S next = go (first_ending r c) refl next
      where
        B : Basis A
        B = basis_at A d params g r c

        Then : Basis A → Type 0
        Then s = (x : Idle A d params g U) (y : Lent A) → Stands cur s.block y → Leads A d params g U rest (at A d params g U (next_at c s x) y) Q

        first : (e : Ending A) (k' : ℕ) → first_ending r c ≡ e
            → ((x : Idle A d params g U) (y : Lent A) → Stands cur (ended A n k v₀ r e c B).block y → Leads A d params g U k' (at A d params g U (end_state A d params g U e r c 0 cur prev b al p B.refreshed B.zeroed x) y) Q)
            → Leads A d params g U (suc (suc (suc (suc (suc (suc (suc k'))))))) (at A d params g U (here A d params g U 6 r 0 c 0 cur prev b al p B.refreshed B.zeroed w) m) Q
        first e k' z f =
            attempt-from A d params g U r c 0 cur prev b al p w m k' Q (fine c 0 B.refreshed B.zeroed l (omega arith) (omega (arith, h.refreshed)) (omega (arith, h.zeroed))) S
            (λ x y T. subst (λ (i : Ending A). Leads A d params g U k' (at A d params g U (end_state A d params g U i r c 0 cur prev b al p B.refreshed B.zeroed x) y) Q) (sym z)
            (f x y (subst (λ (i : Ending A). Stands cur (written A n k r c i (twice_projected A n v₀ c B.block)) y) z T)))

        -- the second attempt, at a column that was refreshed
        E : Basis A
        E = ended A n k v₀ r (first_ending r c) c B

        counts : (E.refreshed ≤ r * k + c + 1) × (E.zeroed ≤ r * k + c + 1)
        counts = (
          omega (arith, h.refreshed, refreshed-most A n k v₀ r (first_ending r c) B.refreshed),
          omega (arith, h.zeroed, zeroed-most A n k v₀ r (first_ending r c) B.zeroed),
        )

        last : (e : Ending A) → (e ≡ refreshed → ⊥) → (x : Idle A d params g U) (y : Lent A) → Leads A d params g U rest (at A d params g U (next_at c (ended A n k v₀ r e c E) x) y) Q
            → Leads A d params g U rest (at A d params g U (end_state A d params g U e r c 1 cur prev b al p E.refreshed E.zeroed x) y) Q
        last (kept norm) ne x y f = f
        last refreshed ne x y f = absurd (ne refl)
        last zeroed ne x y f = f

        second : Then (attempt A n k v₀ r true c E) → (x : Idle A d params g U) (y : Lent A) → Stands cur E.block y
            → Leads A d params g U (suc (suc (suc (suc (suc (suc (suc rest))))))) (at A d params g U (here A d params g U 6 r 0 c 1 cur prev b al p E.refreshed E.zeroed x) y) Q
        second f x y T =
            attempt-from A d params g U r c 1 cur prev b al p x y rest Q (fine c 1 E.refreshed E.zeroed l (omega arith) counts.0 counts.1) T
            (λ x' y' T'. last (attempt_ending A n v₀ true c E.block) (λ q. not_again A n k v₀ r _ _ (unfold attempt_ending in q)) x' y' (f x' y' T'))

        -- the same where the first end is known by an equation
        second_at : first_ending r c ≡ refreshed → Then (tried_again A n k v₀ r (first_ending r c) c E) → (x : Idle A d params g U) (y : Lent A) → Stands cur (ended A n k v₀ r refreshed c B).block y
            → Leads A d params g U (suc (suc (suc (suc (suc (suc (suc rest))))))) (at A d params g U (end_state A d params g U refreshed r c 0 cur prev b al p B.refreshed B.zeroed x) y) Q
        second_at z f x y T =
            subst (λ (i : Ending A). Leads A d params g U (suc (suc (suc (suc (suc (suc (suc rest))))))) (at A d params g U (here A d params g U 6 r 0 c 1 cur prev b al p (ended A n k v₀ r i c B).refreshed (ended A n k v₀ r i c B).zeroed x) y) Q) z
            (second (subst (λ (i : Ending A). Then (tried_again A n k v₀ r i c E)) z f) x y (subst (λ (i : Ending A). Stands cur (ended A n k v₀ r i c B).block y) (sym z) T))

        go : (e : Ending A) → first_ending r c ≡ e → Then (tried_again A n k v₀ r (first_ending r c) c (ended A n k v₀ r (first_ending r c) c B))
            → Leads A d params g U (column_stages e rest) (at A d params g U (here A d params g U 6 r 0 c 0 cur prev b al p B.refreshed B.zeroed w) m) Q
        go (kept norm) z f = first (kept norm) rest z (subst (λ (i : Ending A). Then (tried_again A n k v₀ r i c (ended A n k v₀ r i c B))) z f)
        go refreshed z f = first refreshed (suc (suc (suc (suc (suc (suc (suc rest))))))) z (second_at z f)
        go zeroed z f = first zeroed rest z (subst (λ (i : Ending A). Then (tried_again A n k v₀ r i c (ended A n k v₀ r i c B))) z f)

    -- m columns from column c on, then the plain pass
    pub columns-from : (m c : ℕ) (w : Idle A d params g U) (y : Lent A) (rest : ℕ) → c + m ≡ k → Counted r c (basis_at A d params g r c) → Stands cur (basis_at A d params g r c).block y
        → ((x : Idle A d params g U) (z : Lent A) → Counted r k (basis_at A d params g r k) → Stands cur (basis_at A d params g r k).block z
        → Leads A d params g U rest (at A d params g U (here A d params g U 13 r 0 0 0 cur prev b al p (basis_at A d params g r k).refreshed (basis_at A d params g r k).zeroed x) z) Q)
        → Leads A d params g U (columns_stages r m c rest) (at A d params g U
        (here A d params g U (cond (ltb c k) 6 13) r 0 (cond (ltb c k) c 0) 0 cur prev b al p (basis_at A d params g r c).refreshed (basis_at A d params g r c).zeroed w) y) Q
    unfolding columns_stages
    columns-from zero c w y rest e h S next =
        let z : c ≡ k = omega arith in
        subst (λ (t : Bool). Leads A d params g U rest (at A d params g U (here A d params g U (cond t 6 13) r 0 (cond t c 0) 0 cur prev b al p (basis_at A d params g r c).refreshed (basis_at A d params g r c).zeroed w) y) Q)
        (sym (le-ltb c k (omega arith)))
        (subst (λ (x : ℕ). Leads A d params g U rest (at A d params g U (here A d params g U 13 r 0 0 0 cur prev b al p (basis_at A d params g r x).refreshed (basis_at A d params g r x).zeroed w) y) Q) (sym z)
        (next w y (subst (λ (x : ℕ). Counted r x (basis_at A d params g r x)) z h) (subst (λ (x : ℕ). Stands cur (basis_at A d params g r x).block y) z S)))
    columns-from (suc m) c w y rest e h S next =
        subst (λ (t : Bool). Leads A d params g U (column_stages (first_ending r c) (columns_stages r m (suc c) rest))
        (at A d params g U (here A d params g U (cond t 6 13) r 0 (cond t c 0) 0 cur prev b al p (basis_at A d params g r c).refreshed (basis_at A d params g r c).zeroed w) y) Q)
        (sym (lt-ltb c k (omega arith)))
        (column-from c w y (columns_stages r m (suc c) rest) (omega arith) h S
        (λ x z T. subst (λ (s : Basis A). Leads A d params g U (columns_stages r m (suc c) rest) (at A d params g U (next_at c s x) z) Q) (basis-next r c)
        (subst (λ (i : ℕ). Leads A d params g U (columns_stages r m (suc c) rest) (at A d params g U
        (here A d params g U (cond (ltb i k) 6 13) r 0 (cond (ltb i k) i 0) 0 cur prev b al p (basis_at A d params g r (suc c)).refreshed (basis_at A d params g r (suc c)).zeroed x) z) Q) (omega arith)
        (columns-from m (suc c) x z rest (omega arith)
        (subst (λ (s : Basis A). Counted r (suc c) s) (sym (basis-next r c)) (counted_step r c (basis_at A d params g r c) h))
        (subst (λ (s : Basis A). Stands cur s.block z) (sym (basis-next r c)) T) next))))
