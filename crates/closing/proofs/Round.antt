-- A round's end, put together from what each step of it leaves. Assumes nothing.
use mathlib.Core.Path.{◌≡◌, ap, ◌∙◌}
use mathlib.Core.List.{List}
use Prim.Native.Nat.{ℕ, ◌*◌}
use Rattle.definition.specs.Arith.{Arith}
use Rattle.machine.specs.State.{Progress, State, wide}
use Rattle.machine.specs.Closing.{totals_of, symmetric_in, eigen_matrix, eigen_vectors, order_in, after_products, after_round}

module _ (A : Arith) (s : State A) where
  abbrev made : Progress A → List A.F → List A.F → List A.F → List ℕ → State A
  made p l m v o = record { asked = s.asked; progress = p; counts = s.counts; totals = l; matrix = m; vectors = v; order = o }

  abbrev next : List A.F → List ℕ → Progress A
  next m o = after_products A s.asked m o s.progress

  -- with the products l, from the symmetric matrix c
  abbrev solved : List A.F → List A.F → State A
  solved l c =
      let m = eigen_matrix A (wide s.asked) c in
      let o = order_in A (wide s.asked) m in
      made (next m o) l m (eigen_vectors A (wide s.asked) c) o

  pub round_made : (partials : List A.F) {p : Progress A} {l c m v : List A.F} {o : List ℕ} → let k = wide s.asked in
      l ≡ totals_of A s.asked (k * k) partials → c ≡ symmetric_in A k l → m ≡ eigen_matrix A k c → v ≡ eigen_vectors A k c → o ≡ order_in A k m → p ≡ next m o
      → made p l m v o ≡ after_round A s partials
  unfolding after_round
  round_made partials {p} {l} {c} {m} {v} {o} products means matrix vectors order progress =
      let k = wide s.asked in
      ap (λ (z : Progress A). made z l m v o) progress
      ∙ ap (λ (z : List ℕ). made (next m z) l m v z) order
      ∙ ap (λ (z : List A.F). made (next z (order_in A k z)) l z v (order_in A k z)) matrix
      ∙ ap (λ (z : List A.F). made (next (eigen_matrix A k c) (order_in A k (eigen_matrix A k c))) l (eigen_matrix A k c) z (order_in A k (eigen_matrix A k c))) vectors
      ∙ ap (solved l) means
      ∙ ap (λ (z : List A.F). solved z (symmetric_in A k z)) products
