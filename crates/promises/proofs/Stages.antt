-- The way from the opening to the end, and how many stages it has: document 01's number. Assumes nothing.
use mathlib.Core.Path.{◌≡◌, refl, sym, ap, ap₂, ◌∙◌, subst}
use mathlib.Core.Bool.{Bool, true, false}
use mathlib.Core.List.{List}
use Prim.Native.Nat.{ℕ, zero, suc, ◌+◌, ◌-◌, ◌*◌, ◌≤◌, ◌<◌}
use native.Mathlib.Nat.{suc-mul}
use native.Mathlib.Omega.{arith}
use lib.ListN.{length, get_or}
use Rattle.definition.specs.Arith.{Arith}
use Rattle.definition.specs.ChebyshevRayleighRitz.{Solving, solved, first_alpha, rounds_from, begun, filtered_basis, ritz_step, round_step, round_basis}
use Rattle.definition.specs.ChunkedColumnReduce.{Vector, Block}
use Rattle.definition.specs.Numbers.{Params, width, chunks}
use Rattle.definition.specs.OrthonormalizeBlock.{Basis, Ending, kept, refreshed, zeroed, attempt_ending, raised_refreshed, ended, attempt, tried_again, column_step, columns_from, orthonormalize_block}
use Rattle.definition.specs.SpectralEmbedding.{solution, counts}
use Rattle.held.specs.Calls.{Base}
use Rattle.machine.specs.State.{Asked, asked_of, Lists, State, Lent, opened_state}
use Rattle.machine.specs.Ready.{AskedReady, LentReady}
use Rattle.promises.specs.Run.{v0_of, graph_in, solving_at, basis_at}
use Rattle.promises.specs.Shows.{ShowsSeed}
use Rattle.promises.specs.Promises.{stages_of}
use Rattle.promises.proofs.Here.{Sure, asked_ready, Leads, at, Standing, K}
use Rattle.promises.proofs.Columns.{first_ending, column_stages, columns_stages, basis-next, not_again}
use Rattle.promises.proofs.Filter.{more}
use Rattle.promises.proofs.Ritz.{solving_next}
use Rattle.promises.proofs.Rounds.{round_stages, rounds_stages, rounds-from}
use Rattle.promises.proofs.Setup.{setup_from}
use Rattle.promises.proofs.Last.{last-from}

more-is : (q rest : ℕ) → more q rest ≡ q + rest
more-is zero rest = omega arith
more-is (suc q) rest = omega (arith, more-is q rest)

-- an end that is not refreshed leaves the count
unraised : (A : Arith) (e : Ending A) → (e ≡ refreshed → ⊥) → (x : ℕ) → raised_refreshed A e x ≡ x
unfolding raised_refreshed
unraised A (kept norm) ne x = refl
unraised A refreshed ne x = absurd (ne refl)
unraised A zeroed ne x = refl

module _ (A : Arith) (d : ℕ) (params : Params) (g : Lists A) (U : Sure A d params g) where
  abbrev a : Asked
  a = asked_of A d params g

  abbrev n : ℕ
  n = length g.starts - 1

  abbrev k : ℕ
  k = width d

  abbrev C : ℕ
  C = chunks (length g.starts - 1)

  abbrev ready : AskedReady a
  ready = asked_ready A d params g U

  abbrev v₀ : Vector A
  v₀ = v0_of A d params g

  abbrev Stands : ℕ → Block A → Lent A → Type 0
  Stands = Standing A d params g U

  -- ---- counting: a column takes seven stages, and seven more for a refresh
  step_takes : (r c rest : ℕ) (s : Basis A) (e : Ending A)
      → column_stages A d params g U e rest + 7 * s.refreshed ≡ 7 + rest + 7 * (tried_again A n k v₀ r e c (ended A n k v₀ r e c s)).refreshed
  unfolding tried_again attempt ended raised_refreshed attempt_ending
  step_takes r c rest s (kept norm) = omega arith
  step_takes r c rest s refreshed =
      let e = attempt_ending A n v₀ true c (ended A n k v₀ r refreshed c s).block in
      let u : raised_refreshed A e (s.refreshed + 1) ≡ s.refreshed + 1 = unraised A e (λ z. not_again A n k v₀ r _ _ (unfold attempt_ending in z)) (s.refreshed + 1) in
      omega (arith, u)
  step_takes r c rest s zeroed = omega arith

  abbrev R : ℕ → ℕ → ℕ
  R r c = (basis_at A d params g r c).refreshed

  column_takes : (r c rest : ℕ) → column_stages A d params g U (first_ending A d params g U r c) rest + 7 * R r c ≡ 7 + rest + 7 * R r (suc c)
  unfolding column_step attempt
  column_takes r c rest =
      step_takes r c rest (basis_at A d params g r c) (first_ending A d params g U r c)
      ∙ ap (λ (s : Basis A). 7 + rest + 7 * s.refreshed) (sym (unfold column_step attempt in basis-next A d params g U r c))

  columns-take : (r m c rest : ℕ) → columns_stages A d params g U r m c rest + 7 * R r c ≡ 7 * m + rest + 7 * R r (c + m)
  unfolding columns_stages
  columns-take r zero c rest = omega (arith, ap (R r) (let e : c + 0 ≡ c = omega arith in e))
  columns-take r (suc m) c rest =
      omega (
        arith,
        column_takes r c (columns_stages A d params g U r m (suc c) rest),
        columns-take r m (suc c) rest,
        ap (R r) (let e : suc c + m ≡ c + suc m = omega arith in e),
      )

  abbrev F : ℕ → ℕ
  F r = (solving_at A d params g r).basis.refreshed

  -- what a round begins with, and ends with
  basis-first : (r : ℕ) → R r 0 ≡ F r
  unfolding basis_at columns_from filtered_basis
  basis-first r = refl

  basis-last : (r : ℕ) → R r k ≡ F (suc r)
  unfolding basis_at round_step ritz_step round_basis orthonormalize_block
  basis-last r = sym (ap (λ (s : Solving A). s.basis.refreshed) (solving_next A d params g U r))

  round_takes : (r rest : ℕ) → round_stages A d params g U r rest + 7 * F r ≡ params.degree + 2 + 7 * k + rest + 7 * F (suc r)
  round_takes r rest =
      omega (
        arith,
        U.numbers.degree-least,
        more-is (params.degree - 1) (columns_stages A d params g U r k 0 (suc (suc rest))),
        columns-take r k 0 (suc (suc rest)),
        ap (R r) (let e : 0 + k ≡ k = omega arith in e),
        basis-first r,
        basis-last r,
      )

  rounds-take : (q r rest : ℕ) → rounds_stages A d params g U q r rest + 7 * F r ≡ suc q * (params.degree + 2 + 7 * k) + rest + 7 * F (r + suc q)
  unfolding rounds_stages
  rounds-take zero r rest = omega (arith, round_takes r rest, ap F (let e : suc r ≡ r + 1 = omega arith in e))
  rounds-take (suc q) r rest =
      omega (
        arith,
        round_takes r (rounds_stages A d params g U q (suc r) rest),
        rounds-take q (suc r) rest,
        suc-mul (suc q) (params.degree + 2 + 7 * k),
        ap F (let e : suc r + suc q ≡ r + suc (suc q) = omega arith in e),
      )

  abbrev pub stages : ℕ
  stages = suc (suc (suc (suc (rounds_stages A d params g U (params.rounds - 1) 0 5))))

  none_first : F 0 ≡ 0
  unfolding solving_at rounds_from begun
  none_first = refl

  solution-is : F params.rounds ≡ (counts A d params (graph_in A g)).refreshed
  unfolding counts solution solved solving_at
  solution-is = refl

  pub stages_are : stages ≡ stages_of A d params g
  unfolding stages_of
  stages_are =
      let e : suc (params.rounds - 1) ≡ params.rounds = omega (arith, U.numbers.rounds-least) in
      let z : 0 + suc (params.rounds - 1) ≡ params.rounds = omega (arith, U.numbers.rounds-least) in
      omega (arith, rounds-take (params.rounds - 1) 0 5, none_first, ap (λ (x : ℕ). x * (params.degree + 2 + 7 * k)) e, ap F z, solution-is)

  -- ---- the way
  pub meets : (m : Lent A) → LentReady A a m → Leads A d params g U stages (at A d params g U (opened_state A d params g) m) (λ b. ShowsSeed A d params g b.state b.mem)
  unfolding solving_at rounds_from begun
  meets m L =
      setup_from A d params g U m _ _ L
      (λ w m' B. unfold solving_at rounds_from begun in rounds-from A d params g U _ (params.rounds - 1) 0 0 (first_alpha A A.bound_first) 0 w m' 5 (omega (arith, U.numbers.rounds-least)) refl (omega arith) B
      (λ r cur al p w m re ok pe B E. last-from A d params g U r cur al p w m re ok pe B E))
