-- The last five stages: rotate and unscale, sums, subtract, squares, scale. Assumes nothing.
use mathlib.Core.Path.{◌≡◌, refl, sym, ap, ap₂, ◌∙◌, subst}
use mathlib.Core.Bool.{Bool, true, false, false≢true}
use mathlib.Core.List.{List}
use Prim.Native.Nat.{ℕ, zero, suc, ◌+◌, ◌-◌, ◌*◌, ◌≤◌, ◌<◌}
use native.Mathlib.Omega.{arith}
use lib.ListN.{length, get_or, replicate, length-replicate}
use Rattle.definition.specs.Arith.{Arith}
use Rattle.definition.specs.ChebyshevRayleighRitz.{Solving, rotated, solved}
use Rattle.definition.specs.ChunkedColumnReduce.{Vector, Block, sum_up, square, chunked_sum}
use Rattle.definition.specs.Memory.{vector_of, block_of, number_at, fill_range}
use Rattle.definition.specs.Numbers.{Params, width, chunks}
use Rattle.definition.specs.SpectralEmbedding.{unscaled, centred, scaled, column_sum, square_sum, spread, scale_of, solution, eigenmap, centred_map, scales, seed_at, inverse_of_row}
use Rattle.definition.specs.SpectralEmbedding as embedding
use Rattle.definition.proofs.Fill.{fill_in, fill_length}
use Rattle.definition.proofs.Sums.{sum_cong, chunked_cong}
use Rattle.definition.proofs.Places.{square-least}
use Rattle.held.specs.Calls.{Base, whole}
use Rattle.held.proofs.Law.{ends_now}
use Rattle.held.proofs.Lens.{fill_op, Local, whole_length, whole_is}
use Rattle.machine.specs.State.{Asked, asked_of, matrix_room, Lists, Progress, State, Lent, with_output, with_partials}
use Rattle.machine.specs.Ready.{AskedReady, LentReady}
use Rattle.machine.specs.Ranges.{alpha_sound}
use Rattle.machine.specs.Work.{own_place, own_partial, held_block, held_output, on_partials, rotate_work, sums_work, centre_work, squares_work, scale_work, work}
use Rattle.machine.specs.Closing.{totals_of, scales_of, matrix_in, closed}
use Rattle.promises.specs.Run.{v0_of, graph_in, solving_at}
use Rattle.promises.specs.Shows.{Shows, HoldsBlock, HoldsOutput, ShowsSeed}
use Rattle.promises.proofs.Lenses.{output_l, partials_l, output-block, still_output, still_partials}
use Rattle.promises.proofs.RowLocal.{centred_local, scaled_local}
use Rattle.promises.proofs.Acts.{in_place}
use Rattle.promises.proofs.After.{places-after, total_after, totals-at}
use Rattle.promises.proofs.Fits.{Fit}
use Rattle.promises.proofs.Here.{Sure, asked_ready, Idle, tally, here, Fine, fine_sound, Leads, at, worked, on, known, Standing, K}
use Rattle.promises.proofs.Column.{partials_local}
use Rattle.promises.proofs.Ritz.{totals-length}
use Rattle.promises.proofs.Rounds.{Begun, Solves}

module _ (A : Arith) (d : ℕ) (params : Params) (g : Lists A) (U : Sure A d params g) where
  abbrev a : Asked
  a = asked_of A d params g

  abbrev n : ℕ
  n = length g.starts - 1

  abbrev k : ℕ
  k = width d

  abbrev C : ℕ
  C = chunks (length g.starts - 1)

  abbrev ready : AskedReady a
  ready = asked_ready A d params g U

  abbrev v₀ : Vector A
  v₀ = v0_of A d params g

  abbrev Stands : ℕ → Block A → Lent A → Type 0
  Stands = Standing A d params g U

  -- output that keeps n rows of d numbers, in memory that is long enough
  record Out (v : Block A) (m : Lent A) : Type 0 where
    lent : LentReady A a m
    held : HoldsOutput A d params g v m

  -- ---- a stage that writes the output
  out_after : (w : Lent A → Block A) (v : Block A) (m : Lent A) → Local (output_l A) (own_place n d) A.none (λ h x. number_at n d (w x)) → ((i c : ℕ) → i < n → c < d → w m i c ≡ v i c) → LentReady A a m
      → Out v (whole (fill_op (output_l A) (own_place n d) A.none (λ h x. number_at n d (w x))) C m)
  out_after w v m loc e L = record {
    lent = subst (λ (x : Lent A). LentReady A a x) (sym (whole_is (output_l A) (own_place n d) A.none (λ h x. number_at n d (w x)) C m))
        (still_output A a _ m (whole_length (output_l A) (own_place n d) A.none (λ h x. number_at n d (w x)) C m) L);
    held = λ i c p q. places-after A a ready d U.dims-least (output_l A) w loc m L.lists.output i c p q ∙ e i c p q;
  }

  -- ---- a stage that writes the partials keeps it
  out_kept : (own : ℕ → ℕ → Bool) (val : ℕ → Lent A → ℕ → A.F) (v : Block A) (m : Lent A) → Out v m → Out v (whole (fill_op (partials_l A) own A.none val) C m)
  out_kept own val v m O =
      subst (λ (x : Lent A). Out v x) (sym (whole_is (partials_l A) own A.none val C m))
      (record { lent = still_partials A a _ m (whole_length (partials_l A) own A.none val C m) O.lent; held = O.held })

  -- the totals of f over the output's columns
  out_totals : (f : A.F → A.F) (v : Block A) (m : Lent A) → Out v m → (c : ℕ) → c < d
      → vector_of A.none (totals_of A a d (whole (λ h x. on_partials A a d (λ q i. f (held_output A a x i q)) h x) C m).partials) c ≡ chunked_sum A n (λ i. f (v i c))
  unfolding fill_op
  out_totals f v m O c l =
      totals-at A a ready d _ c (omega (arith, U.dims-most)) l
      ∙ total_after A a ready d (omega (arith, square-least k (omega arith))) (λ x q i. f (held_output A a x i q)) (partials_local A d params g U d (λ x q i. f (held_output A a x i q)) (λ x y. refl)) m O.lent c l
      ∙ chunked_cong A n (λ i. f (held_output A a m i c)) (λ i. f (v i c)) (λ i p. ap f (O.held i c p l))

  -- ---- the seed's blocks
  abbrev S : Solving A
  S = solving_at A d params g params.rounds

  abbrev G : embedding.Graph A
  G = graph_in A g

  rotated_cong : (w : Idle A d params g U) (v : Block A) → ((i c : ℕ) → i < n → c < k → v i c ≡ S.basis.block i c) → Solves A d params g U params.rounds w → (i c : ℕ) → i < n → c < d
      → rotated A k v (matrix_in A k w.vectors) w.order i c ≡ rotated A k S.basis.block S.vectors S.order i c
  unfolding rotated
  rotated_cong w v e T i c p q =
      sum_cong A _ _ 0 k (λ j u t. ap₂ A.mul (e i j p t)
      (T.vectors j (get_or w.order c 0) t (w.ordered c (omega (arith, U.dims-most))) ∙ ap (S.vectors j) (T.order c (omega arith))))

  rotate_made : (p : Progress A) (w : Idle A d params g U) (m : Lent A) → Stands p.current S.basis.block m → Solves A d params g U params.rounds w
      → Out (eigenmap A d params G) (whole (λ h x. rotate_work A a p w.vectors w.order h x) C m)
  unfolding fill_op eigenmap unscaled solution solved solving_at
  rotate_made p w m T E =
      out_after (λ x. unscaled A (vector_of A.none x.inverse) (rotated A k (held_block A a p.current x) (matrix_in A k w.vectors) w.order)) (eigenmap A d params G) m
      (λ h l x e t i o q. ap (λ (y : List A.F). number_at n d (unscaled A (vector_of A.none x.inverse) (rotated A k (block_of A.none n k y) (matrix_in A k w.vectors) w.order)) i) (output-block A p.current l x))
      (λ i c l q. ap₂ A.mul (unfold solving_at in rotated_cong w (held_block A a p.current m) T.block E i c l q) (T.graph.inverse i l)) T.lent

  centre_made : (totals : List A.F) (m : Lent A) → Out (eigenmap A d params G) m → ((c : ℕ) → c < d → vector_of A.none totals c ≡ column_sum A n (eigenmap A d params G) c)
      → Out (centred_map A d params G) (whole (λ h x. centre_work A a totals h x) C m)
  unfolding fill_op centred_map centred
  centre_made totals m O e =
      out_after (λ x. centred A n (vector_of A.none totals) (held_output A a x)) (centred_map A d params G) m
      (in_place A n d U.dims-least (output_l A) (λ x. centred A n (vector_of A.none totals)) (λ x. unfold centred in centred_local A d n (vector_of A.none totals)) (λ l x. refl))
      (λ i c p q. ap₂ (λ (x y : A.F). A.sub x (A.div y (A.whole n))) (O.held i c p q) (e c q)) O.lent

  scale_made : (totals : List A.F) (m : Lent A) → Out (centred_map A d params G) m → ((c : ℕ) → c < d → vector_of A.none totals c ≡ scales A d params G c)
      → Out (seed_at A d params G) (whole (λ h x. scale_work A a totals h x) C m)
  unfolding fill_op seed_at scaled
  scale_made totals m O e =
      out_after (λ x. scaled A (vector_of A.none totals) (held_output A a x)) (seed_at A d params G) m
      (in_place A n d U.dims-least (output_l A) (λ x. scaled A (vector_of A.none totals)) (λ x. unfold scaled in scaled_local A d (vector_of A.none totals)) (λ l x. refl))
      (λ i c p q. ap₂ A.mul (O.held i c p q) (e c q)) O.lent

  scales_made : (partials : List A.F) → ((c : ℕ) → c < d → vector_of A.none (totals_of A a d partials) c ≡ square_sum A n (centred_map A d params G) c)
      → (c : ℕ) → c < d → vector_of A.none (scales_of A a partials) c ≡ scales A d params G c
  unfolding scales_of scales
  scales_made partials e c l =
      fill_in 0 d _ (totals_of A a d partials) c A.none (omega arith) l (omega (arith, totals-length A d params g U d partials, U.dims-most))
      ∙ ap (λ (x : A.F). scale_of A (A.seed_std params.seed_std) (spread A n x)) (e c l)

  -- ---- the stages
  module _ (r cur : ℕ) (al : A.F) (p : ℕ) (w : Idle A d params g U) (m : Lent A) (re : suc r ≡ params.rounds) (al-ok : alpha_sound A al ≡ true) (pe : p ≡ params.rounds * (params.degree + 1))
      (B : Begun A d params g U params.rounds cur m) (E : Solves A d params g U params.rounds w) where
    abbrev goes : ℕ → Idle A d params g U → State A
    goes st x = here A d params g U st r 0 0 0 cur cur S.bound al p S.basis.refreshed S.basis.zeroed x

    fine : Fine A d params g U r 0 0 0 cur cur S.bound al p S.basis.refreshed S.basis.zeroed
    fine = record {
      round = omega arith;
      pass = omega (arith, U.numbers.degree-least);
      column = omega arith;
      attempt = omega arith;
      current = B.current;
      previous = B.current;
      bound = B.bound;
      alpha = al-ok;
      passes = omega arith;
      refreshed = B.refreshed;
      zeroed = B.zeroed;
    }

    counted_end : tally A d params g U p S.basis.refreshed S.basis.zeroed ≡ embedding.counts A d params G
    unfolding embedding.counts solution solved solving_at
    counted_end = ap (λ (x : ℕ). tally A d params g U x S.basis.refreshed S.basis.zeroed) pe

    pub last-from : Leads A d params g U 5 (at A d params g U (goes 15 w) m) (λ b. ShowsSeed A d params g b.state b.mem)
    unfolding work closed column_sum square_sum fill_op
    last-from =
        on A d params g U 15 r 0 0 0 cur cur S.bound al p S.basis.refreshed S.basis.zeroed w m _ _ (omega arith) (omega arith) fine B.stands.lent (λ z. absurd (false≢true z))
        (record { graph = B.stands.graph; current = B.stands.block; vectors = E.vectors; order = E.order; products = B.products })
        (on A d params g U 16 r 0 0 0 cur cur S.bound al p S.basis.refreshed S.basis.zeroed w x₁ _ _ (omega arith) (omega arith) fine O₁.lent (λ z. absurd (false≢true z)) O₁.held
        (on A d params g U 17 r 0 0 0 cur cur S.bound al p S.basis.refreshed S.basis.zeroed w₂ x₂ _ _ (omega arith) (omega arith) fine O₂.lent (λ z. absurd (false≢true z)) (record { output = O₂.held; totals = t₂ })
        (on A d params g U 18 r 0 0 0 cur cur S.bound al p S.basis.refreshed S.basis.zeroed w₂ x₃ _ _ (omega arith) (omega arith) fine O₃.lent (λ z. absurd (false≢true z)) O₃.held
        (on A d params g U 19 r 0 0 0 cur cur S.bound al p S.basis.refreshed S.basis.zeroed w₄ x₄ _ _ (omega arith) (omega arith) fine O₄.lent (λ z. absurd (false≢true z)) (record { output = O₄.held; totals = t₄ })
        (ends_now (K A d params g U) (Fit A d params g) (Shows A d params g) (at A d params g U (goes 20 w₄) x₅) _ refl
        (record {
          asks = refl;
          state = fine_sound A d params g U 20 r 0 0 0 cur cur S.bound al p S.basis.refreshed S.basis.zeroed w₄ (omega arith) fine;
          begun = omega arith;
          last = omega arith;
          lent = O₅.lent;
          edges = λ z. absurd (false≢true z);
        }) shows shows)))))
      where
        x₁ : Lent A
        x₁ = worked A d params g U (goes 15 w) m

        O₁ : Out (eigenmap A d params G) x₁
        O₁ = rotate_made (goes 15 w).progress w m B.stands E

        x₂ : Lent A
        x₂ = worked A d params g U (goes 16 w) x₁

        O₂ : Out (eigenmap A d params G) x₂
        O₂ = out_kept _ _ (eigenmap A d params G) x₁ O₁

        w₂ : Idle A d params g U
        w₂ = record { before = w.before; norm = w.norm; totals = totals_of A a d x₂.partials; matrix = w.matrix; vectors = w.vectors; order = w.order; ordered = w.ordered }

        t₂ : (c : ℕ) → c < d → vector_of A.none w₂.totals c ≡ column_sum A n (eigenmap A d params G) c
        t₂ = out_totals (λ x. x) (eigenmap A d params G) x₁ O₁

        x₃ : Lent A
        x₃ = worked A d params g U (goes 17 w₂) x₂

        O₃ : Out (centred_map A d params G) x₃
        O₃ = centre_made w₂.totals x₂ O₂ t₂

        x₄ : Lent A
        x₄ = worked A d params g U (goes 18 w₂) x₃

        O₄ : Out (centred_map A d params G) x₄
        O₄ = out_kept _ _ (centred_map A d params G) x₃ O₃

        w₄ : Idle A d params g U
        w₄ = record { before = w.before; norm = w.norm; totals = scales_of A a x₄.partials; matrix = w.matrix; vectors = w.vectors; order = w.order; ordered = w.ordered }

        t₄ : (c : ℕ) → c < d → vector_of A.none w₄.totals c ≡ scales A d params G c
        t₄ = scales_made x₄.partials (out_totals (square A) (centred_map A d params G) x₃ O₃)

        x₅ : Lent A
        x₅ = worked A d params g U (goes 19 w₄) x₄

        O₅ : Out (seed_at A d params G) x₅
        O₅ = scale_made w₄.totals x₄ O₄ t₄

        shows : ShowsSeed A d params g (goes 20 w₄) x₅
        shows = record { seed = O₅.held; counts = counted_end }
