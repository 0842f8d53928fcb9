-- The general law of a held run: calls in any order, refused ones anywhere. The machine gives what a chunk does, what closing does, and its refusals. Assumes nothing.
use mathlib.Core.Path.{◌≡◌, refl, sym, ap, ◌∙◌, subst}
use mathlib.Core.List.{List, [], ◌∷◌}
use mathlib.Core.Bool.{Bool, true, false}
use Prim.Native.Nat.{ℕ, zero, suc, ◌+◌, ◌*◌, ◌≤◌, ◌<◌}
use native.Mathlib.Nat.{suc-mul, zero-mul}
use native.Mathlib.Omega.{arith}
use lib.ListN.{length, set}
use Rattle.definition.proofs.Fill.{split}
use Rattle.held.specs.Marks.{done, count, cleared, Marked}
use Rattle.held.specs.Calls.{Call, chunk, close, Machine, Base, Conf, mem_at, full, stage, iter, accept, step_by, refusal, step, run, opened, finished, one, accepted, upward, order, Seen}
use Rattle.held.proofs.Ops.{Apart, parts_none, parts_all, parts_add}
use Rattle.held.proofs.Marks.{count_none, count-all, count_add, done-set, done_other, done-cleared, marked_clear, marked-set, marked-none}

clash : {P : Type 0} (b : Bool) → b ≡ true → b ≡ false → P
clash b p q = let z : ◌≡◌ {A = ℕ} 0 1 = cc in absurd (omega arith)

module _ (K : Machine) where
  step_counts : (k : Call) (c : Conf K) (r : ℕ) → (step_by K r k c).calls ≡ c.calls + one r
  unfolding step_by accept
  step_counts (chunk h) c zero = omega arith
  step_counts close c zero = omega arith
  step_counts k c (suc r) = omega arith

  pub counted : (ks : List Call) (c : Conf K) → (run K ks c).calls ≡ c.calls + accepted K ks c
  unfolding run accepted step
  counted [] c = omega arith
  counted (k ∷ ks) c = omega (arith, counted ks (step K k c), step_counts k c (refusal K k c))

  pub iter_end : (n : ℕ) (a : Base K) → iter K (suc n) a ≡ stage K (iter K n a)
  unfolding iter
  iter_end zero a = refl
  iter_end (suc n) a = iter_end n (stage K a)

  module _ (Fit : K.S → K.M → Type 0) where
    -- what is asked of a machine, at a state and a memory that are fit
    pub record Fits : Type 0 where
      pub apart : (s : K.S) (m : K.M) → Fit s m → Apart (K.part s) (K.part s)
      pub keep : (s : K.S) (m : K.M) (h : ℕ) → Fit s m → Fit s (K.part s h m)
      pub chunk_fine : (s : K.S) (m : K.M) (marks : List ℕ) (h : ℕ) → Fit s m → K.refuse (chunk h) s m marks ≡ 0
          → (K.over s ≡ false) × (h < K.chunks) × (done marks h ≡ false)
      pub close_fine : (s : K.S) (m : K.M) (marks : List ℕ) → Fit s m → K.refuse close s m marks ≡ 0
          → (K.over s ≡ false) × ((h : ℕ) → h < K.chunks → done marks h ≡ true)
      pub chunk-taken : (s : K.S) (m : K.M) (start marks : List ℕ) (h : ℕ) → Fit s m → Marked K.chunks start marks
          → K.over s ≡ false → h < K.chunks → done marks h ≡ false → K.refuse (chunk h) s m marks ≡ 0
      pub close-taken : (s : K.S) (m : K.M) (start marks : List ℕ) → Fit s m → Marked K.chunks start marks
          → K.over s ≡ false → ((h : ℕ) → h < K.chunks → done marks h ≡ true) → K.refuse close s m marks ≡ 0
      -- 16: the state, the memory or the marks are damaged
      pub never : (s : K.S) (m : K.M) (start marks : List ℕ) (k : Call) → Fit s m → Marked K.chunks start marks → K.refuse k s m marks ≡ 16 → ⊥

    module _ (Show : Base K → Type 0) where
      -- n stages lead from a to b, where the run is over; the beginning of each is fit, and `Show` holds there
      abbrev pub Way : ℕ → Base K → Base K → Type 0
      Way zero a b = (K.over a.state ≡ true) × Fit a.state a.mem × Show a × (a ≡ b)
      Way (suc n) a b = (K.over a.state ≡ false) × Fit a.state a.mem × Show a × Way n (stage K a) b

      way_fit : (n : ℕ) (a b : Base K) → Way n a b → Fit a.state a.mem
      way_fit zero a b w = w.1
      way_fit (suc n) a b w = w.1

      -- what holds at the beginning of every stage
      pub shown : (n : ℕ) (a b : Base K) → Way n a b → (p : ℕ) → p ≤ n → Show (iter K p a)
      unfolding iter
      shown zero a b w zero l = w.2
      shown zero a b w (suc p) l = absurd (omega arith)
      shown (suc n) a b w zero l = w.2
      shown (suc n) a b w (suc p) l = shown n (stage K a) b w.3 p (omega arith)

      -- n stages lead from a to an end where Q holds
      pub record Ends (n : ℕ) (a : Base K) (Q : Base K → Type 0) : Type 0 where
        pub at : Base K
        pub way : Way n a at
        pub holds : Q at

      pub ends_now : (a : Base K) (Q : Base K → Type 0) → K.over a.state ≡ true → Fit a.state a.mem → Show a → Q a → Ends 0 a Q
      ends_now a Q o f w q = record { at = a; way = (o, f, w, refl); holds = q }

      pub ends_on : (n : ℕ) (s : K.S) (m m' : K.M) (Q : Base K → Type 0) → K.over s ≡ false → Fit s m → Show (record { state = s; mem = m })
          → full K (record { state = s; mem = m }) ≡ m' → Ends n (record { state = K.next s m'; mem = K.tidy s m' }) Q → Ends (suc n) (record { state = s; mem = m }) Q
      unfolding stage
      ends_on n s m m' Q o f w e z =
          record {
            at = z.at;
            way = (o, f, w, subst (λ (x : K.M). Way n (record { state = K.next s x; mem = K.tidy s x }) z.at) (sym e) z.way);
            holds = z.holds;
          }

      module _ (W : Fits) (start : Base K) (marks₀ : List ℕ) (n : ℕ) (end : Base K) where
        -- a run that has closed p stages, and has `left` to go
        pub record At (p left : ℕ) (b : Base K) (c : Conf K) : Type 0 where
          pub is : b ≡ iter K p start
          pub sum : p + left ≡ n
          pub way : Way left b end
          pub state : c.state ≡ b.state
          pub mem : c.mem ≡ mem_at K b.state b.mem (done c.marks)
          pub marks : Marked K.chunks marks₀ c.marks
          pub calls : c.calls ≡ p * suc K.chunks + count (done c.marks) K.chunks
          pub fit : Fit c.state c.mem
          pub idle : K.over b.state ≡ true → (h : ℕ) → h < K.chunks → done c.marks h ≡ false

        pub at_open : Way n start end → K.chunks ≤ length marks₀ → At 0 n start (opened K start marks₀)
        unfolding opened iter
        at_open w l =
            let none : (h : ℕ) → h < K.chunks → done (cleared K.chunks marks₀) h ≡ false = λ h q. done-cleared K.chunks marks₀ h l q in
            record {
              is = refl;
              sum = omega arith;
              way = w;
              state = refl;
              mem = sym (parts_none (K.part start.state) (done (cleared K.chunks marks₀)) K.chunks start.mem none);
              marks = marked_clear K.chunks marks₀ marks₀ l refl (λ i q. refl);
              calls = omega (arith, zero-mul (suc K.chunks), count_none (done (cleared K.chunks marks₀)) K.chunks none);
              fit = way_fit n start end w;
              idle = λ o. none;
            }

        pub at-chunk : (p left : ℕ) (b : Base K) (c : Conf K) (h : ℕ) → At p left b c → K.over c.state ≡ false → h < K.chunks → done c.marks h ≡ false
            → At p left b (accept K (chunk h) c)
        unfolding accept
        at-chunk p left b c h A o l f =
            let ap-b : Apart (K.part b.state) (K.part b.state) =
            subst (λ (s : K.S). Apart (K.part s) (K.part s)) A.state (W.apart c.state c.mem A.fit) in
            let there : done (set c.marks h 1) h ≡ true = done-set c.marks h (omega (arith, A.marks.long, A.marks.same)) in
            let else : (k : ℕ) → k < K.chunks → (k ≡ h → ⊥) → done (set c.marks h 1) k ≡ done c.marks k = λ k q ne. done_other c.marks h k ne in
            record {
              is = A.is;
              sum = A.sum;
              way = A.way;
              state = A.state;
              mem =
                  ap (λ (s : K.S). K.part s h c.mem) A.state
                  ∙ ap (K.part b.state h) A.mem
                  ∙ parts_add (K.part b.state) ap-b (done c.marks) (done (set c.marks h 1)) h K.chunks b.mem l f there else;
              marks = marked-set K.chunks marks₀ c.marks h l A.marks;
              calls = omega (arith, A.calls, count_add (done c.marks) (done (set c.marks h 1)) h K.chunks l f there else);
              fit = W.keep c.state c.mem h A.fit;
              idle = λ t. clash (K.over b.state) t (ap K.over (sym A.state) ∙ o);
            }

        -- where a run goes that is not over
        on_way : (left : ℕ) (b : Base K) → K.over b.state ≡ false → Way left b end → (l : ℕ) × (left ≡ suc l) × Way l (stage K b) end
        on_way zero b o w = clash (K.over b.state) w.0 o
        on_way (suc l) b o w = (l, refl, w.3)

        pub at-close : (p left : ℕ) (b : Base K) (c : Conf K) → At p left b c → K.over c.state ≡ false → ((h : ℕ) → h < K.chunks → done c.marks h ≡ true)
            → (l : ℕ) × At (suc p) l (stage K b) (accept K close c)
        unfolding accept stage full
        at-close p left b c A o all =
            let mem : c.mem ≡ full K b = A.mem ∙ parts_all (K.part b.state) (done c.marks) K.chunks b.mem all in
            let long : K.chunks ≤ length c.marks = omega (arith, A.marks.long, A.marks.same) in
            let none : (h : ℕ) → h < K.chunks → done (cleared K.chunks c.marks) h ≡ false = λ h q. done-cleared K.chunks c.marks h long q in
            let st : K.next c.state c.mem ≡ K.next b.state (full K b) = ap (λ (s : K.S). K.next s c.mem) A.state ∙ ap (K.next b.state) mem in
            let me : K.tidy c.state c.mem ≡ K.tidy b.state (full K b) = ap (λ (s : K.S). K.tidy s c.mem) A.state ∙ ap (K.tidy b.state) mem in
            let g = on_way left b (ap K.over (sym A.state) ∙ o) A.way in (
              g.0,
              record {
                is = ap (stage K) A.is ∙ sym (iter_end p start);
                sum = omega (arith, A.sum, g.1);
                way = g.2;
                state = st;
                mem = me ∙ sym (parts_none (K.part (K.next b.state (full K b))) (done (cleared K.chunks c.marks)) K.chunks (K.tidy b.state (full K b)) none);
                marks = marked_clear K.chunks marks₀ c.marks A.marks.long A.marks.same A.marks.rest;
                calls = omega (
                  arith,
                  A.calls,
                  suc-mul p (suc K.chunks),
                  count-all (done c.marks) K.chunks all,
                  count_none (done (cleared K.chunks c.marks)) K.chunks none,
                );
                fit = subst (λ (s : K.S). Fit s (K.tidy c.state c.mem)) (sym st) (subst (λ (m : K.M). Fit (K.next b.state (full K b)) m) (sym me) (way_fit g.0 (stage K b) end g.2));
                idle = λ t. none;
              },
            )

        pub Stood : Conf K → Type 0
        Stood c = (p : ℕ) × (left : ℕ) × (b : Base K) × At p left b c

        at_fine : (p left : ℕ) (b : Base K) (c : Conf K) (k : Call) → At p left b c → refusal K k c ≡ 0 → Stood (accept K k c)
        unfolding Stood refusal
        at_fine p left b c (chunk h) A e =
            let u = W.chunk_fine c.state c.mem c.marks h A.fit e in (p, left, b, at-chunk p left b c h A u.0 u.1 u.2)
        at_fine p left b c close A e =
            let u = W.close_fine c.state c.mem c.marks A.fit e in let v = at-close p left b c A u.0 u.1 in (suc p, v.0, stage K b, v.1)

        at-step : (p left : ℕ) (b : Base K) (c : Conf K) (k : Call) → At p left b c → Stood (step K k c)
        unfolding step step_by Stood
        at-step p left b c k A = go (refusal K k c) refl
          where
            go : (r : ℕ) → refusal K k c ≡ r → Stood (step_by K r k c)
            go zero e = at_fine p left b c k A e
            go (suc r) e = (p, left, b, A)

        at-run : (ks : List Call) (c : Conf K) → Stood c → Stood (run K ks c)
        unfolding run
        at-run [] c s = s
        at-run (k ∷ ks) c s = at-run ks (step K k c) (unfold Stood in at-step s.0 s.1 s.2 c k s.3)

        -- after any calls, the run is at stage p of the definition, with the chunks that are marked done
        pub reached : Way n start end → K.chunks ≤ length marks₀ → (ks : List Call)
            → (p : ℕ) × (left : ℕ) × (b : Base K) × At p left b (run K ks (opened K start marks₀))
        unfolding Stood
        reached w l ks = at-run ks (opened K start marks₀) (0, n, start, at_open w l)

        pub seen : Way n start end → K.chunks ≤ length marks₀ → (ks : List Call) → (p : ℕ) × (p ≤ n) × Seen K start marks₀ p (run K ks (opened K start marks₀))
        seen w l ks =
            let c = run K ks (opened K start marks₀) in
            let s = reached w l ks in
            let A = s.3 in (
              s.0,
              omega (arith, A.sum),
              record {
                state = A.state ∙ ap (λ (x : Base K). x.state) A.is;
                mem = A.mem ∙ ap (λ (x : Base K). mem_at K x.state x.mem (done c.marks)) A.is;
                marks = A.marks;
                calls = A.calls;
              },
            )

        -- no call of such a run is refused for damage
        pub not_damaged : (p left : ℕ) (b : Base K) (c : Conf K) (k : Call) → At p left b c → refusal K k c ≡ 16 → ⊥
        unfolding refusal
        not_damaged p left b c k A e = W.never c.state c.mem marks₀ c.marks k A.fit A.marks e

        -- a run that is over is the definition's end, and has taken n times one call for each chunk and one to close
        pub finish : (p left : ℕ) (b : Base K) (c : Conf K) → At p left b c → K.over c.state ≡ true → c ≡ finished K marks₀ n end
        unfolding finished
        finish p left b c A o =
            let over : K.over b.state ≡ true = ap K.over (sym A.state) ∙ o in
            let none : (h : ℕ) → h < K.chunks → done c.marks h ≡ false = A.idle over in
            let z = last left A.way over in
            let st : c.state ≡ end.state = A.state ∙ ap (λ (x : Base K). x.state) z.1 in
            let me : c.mem ≡ end.mem = A.mem ∙ parts_none (K.part b.state) (done c.marks) K.chunks b.mem none ∙ ap (λ (x : Base K). x.mem) z.1 in
            let ma : c.marks ≡ cleared K.chunks marks₀ = marked-none K.chunks marks₀ c.marks A.marks none in
            let y : p ≡ n = omega (arith, A.sum, z.0) in
            let ca : c.calls ≡ n * suc K.chunks = rw (← y) (omega (arith, A.calls, count_none (done c.marks) K.chunks none)) in
            λ i. record { state = st i; mem = me i; marks = ma i; calls = ca i }
          where
            last : (l : ℕ) → Way l b end → K.over b.state ≡ true → (l ≡ 0) × (b ≡ end)
            last zero w t = (refl, w.3)
            last (suc l) w t = clash (K.over b.state) t w.0

        pub one_end : Way n start end → K.chunks ≤ length marks₀ → (ks : List Call) → K.over (run K ks (opened K start marks₀)).state ≡ true
            → run K ks (opened K start marks₀) ≡ finished K marks₀ n end
        one_end w l ks o = let s = reached w l ks in finish s.0 s.1 s.2 (run K ks (opened K start marks₀)) s.3 o

        -- `seen`, with what holds at the beginning of that stage
        pub progressed : Way n start end → K.chunks ≤ length marks₀ → (ks : List Call)
            → (p : ℕ) × (p ≤ n) × Seen K start marks₀ p (run K ks (opened K start marks₀)) × Show (iter K p start)
        progressed w l ks = let s = seen w l ks in (s.0, s.1, s.2, shown n start end w s.0 s.1)

        -- ---- the canonical order

        step_fine : (k : Call) (c : Conf K) → K.refuse k c.state c.mem c.marks ≡ 0 → step K k c ≡ accept K k c
        unfolding step step_by refusal
        step_fine k c e = ap (λ (r : ℕ). step_by K r k c) e

        sweep : (k h p left : ℕ) (b : Base K) (c : Conf K) (ks : List Call) → h + k ≡ K.chunks → At p left b c → K.over c.state ≡ false
            → ((i : ℕ) → i < h → done c.marks i ≡ true) → ((i : ℕ) → h ≤ i → i < K.chunks → done c.marks i ≡ false)
            → (e : Conf K) × (run K (upward k h ks) c ≡ run K ks e) × At p left b e × (K.over e.state ≡ false) × ((i : ℕ) → i < K.chunks → done e.marks i ≡ true)
        unfolding upward run accept
        sweep zero h p left b c ks e A o q r = (c, refl, A, o, λ i l. q i (omega arith))
        sweep (suc k) h p left b c ks e A o q r =
            let f : done c.marks h ≡ false = r h (omega arith) (omega arith) in
            let c₁ = accept K (chunk h) c in
            let A₁ : At p left b c₁ = at-chunk p left b c h A o (omega arith) f in
            let s : step K (chunk h) c ≡ c₁ = step_fine (chunk h) c (W.chunk-taken c.state c.mem marks₀ c.marks h A.fit A.marks o (omega arith) f) in
            let z = sweep k (suc h) p left b c₁ ks (omega arith) A₁ o
            (λ i l. split i h (λ t. done_other c.marks h i (λ y. omega arith) ∙ q i t)
            (λ t. let y : i ≡ h = omega arith in ap (done (set c.marks h 1)) y ∙ done-set c.marks h (omega (arith, A.marks.long, A.marks.same))))
            (λ i l t. done_other c.marks h i (λ y. omega arith) ∙ r i (omega arith) t) in
            (z.0, ap (run K (upward k (suc h) ks)) s ∙ z.1, z.2, z.3, z.4)

        none_after : (c : Conf K) → K.chunks ≤ length c.marks → (h : ℕ) → h < K.chunks → done (accept K close c).marks h ≡ false
        unfolding accept
        none_after c l h t = done-cleared K.chunks c.marks h l t

        runs_out : (left p : ℕ) (b : Base K) (c : Conf K) → At p left b c → ((i : ℕ) → i < K.chunks → done c.marks i ≡ false)
            → K.over (run K (order K.chunks left) c).state ≡ true
        unfolding order run
        runs_out zero p b c A q = ap K.over A.state ∙ A.way.0
        runs_out (suc l) p b c A q =
            let o : K.over c.state ≡ false = ap K.over A.state ∙ A.way.0 in
            let z = sweep K.chunks 0 p (suc l) b c (close ∷ order K.chunks l) (omega arith) A o (λ i t. absurd (omega arith)) (λ i t u. q i u) in
            let c₁ = z.0 in
            let y = at-close p (suc l) b c₁ z.2 z.3 z.4 in
            let x : y.0 ≡ l = omega (arith, y.1.sum, A.sum) in
            let B : At (suc p) l (stage K b) (accept K close c₁) = subst (λ (k : ℕ). At (suc p) k (stage K b) (accept K close c₁)) x y.1 in
            let i = runs_out l (suc p) (stage K b) (accept K close c₁) B
            (none_after c₁ (omega (arith, z.2.marks.long, z.2.marks.same))) in
            ap (λ (e : Conf K). K.over e.state) z.1
            ∙ ap (λ (e : Conf K). K.over (run K (order K.chunks l) e).state) (step_fine close c₁ (W.close-taken c₁.state c₁.mem marks₀ c₁.marks z.2.fit z.2.marks z.3 z.4))
            ∙ i

        -- the canonical order ends, and every run that ends has what it has
        pub canonical : Way n start end → K.chunks ≤ length marks₀ → K.over (run K (order K.chunks n) (opened K start marks₀)).state ≡ true
        unfolding opened
        canonical w l = runs_out n 0 start (opened K start marks₀) (at_open w l) (λ h t. done-cleared K.chunks marks₀ h l t)

        pub as_canonical : Way n start end → K.chunks ≤ length marks₀ → (ks : List Call) → K.over (run K ks (opened K start marks₀)).state ≡ true
            → run K ks (opened K start marks₀) ≡ run K (order K.chunks n) (opened K start marks₀)
        as_canonical w l ks o = one_end w l ks o ∙ sym (one_end w l (order K.chunks n) (canonical w l))
