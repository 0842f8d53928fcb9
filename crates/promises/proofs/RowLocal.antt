-- What is done to a block in place looks at one row at a time. Assumes nothing.
use mathlib.Core.Path.{◌≡◌, refl, sym, ap, ap₂, ◌∙◌}
use mathlib.Core.Bool.{Bool, true, false, cond}
use Prim.Native.Nat.{ℕ, ◌+◌, ◌≤◌, ◌<◌}
use native.Mathlib.Omega.{arith}
use lib.Dec.{eqb}
use Rattle.definition.specs.Arith.{Arith}
use Rattle.definition.specs.ChunkedColumnReduce.{Vector, Block, add_up}
use Rattle.definition.specs.OrthonormalizeBlock.{with_column, delta, subtracted, Ending, kept, refreshed, zeroed, fresh_index, written}
use Rattle.definition.specs.SpectralEmbedding.{centred, scaled}
use Rattle.definition.proofs.Sums.{add_cong}

module _ (A : Arith) (k : ℕ) where
  -- rows i of v and w agree in the first k columns
  abbrev pub SameRow : Block A → Block A → ℕ → Type 0
  SameRow v w i = (c : ℕ) → c < k → v i c ≡ w i c

  abbrev pub RowLocal : (Block A → Block A) → Type 0
  RowLocal f = (v w : Block A) (i : ℕ) → SameRow v w i → SameRow (f v) (f w) i

  column_cong : (c : ℕ) (x y : A.F) (v w : Block A) (i d : ℕ) → x ≡ y → v i d ≡ w i d → cond (eqb d c) x (v i d) ≡ cond (eqb d c) y (w i d)
  column_cong c x y v w i d p q = ap₂ (λ (s t : A.F). cond (eqb d c) s t) p q

  pub delta_cong : (dots e : ℕ → A.F) (x y : A.F) (row row' : ℕ → A.F) (c : ℕ) → c < k → ((p : ℕ) → p ≤ c → dots p ≡ e p) → x ≡ y → ((p : ℕ) → p < k → row p ≡ row' p)
      → delta A dots x row c ≡ delta A e y row' c
  unfolding delta
  delta_cong dots e x y row row' c q d z r =
      ap (λ (s : A.F). add_up A s (λ p. A.mul (dots p) (row p)) 0 c) (ap₂ A.mul (d c (omega arith)) z)
      ∙ add_cong A (A.mul (e c) y) (λ p. A.mul (dots p) (row p)) (λ p. A.mul (e p) (row' p)) 0 c
      (λ p l u. ap₂ A.mul (d p (omega arith)) (r p (omega arith)))

  pub subtracted_local : (dots : ℕ → A.F) (v0 : Vector A) (c : ℕ) → c < k → RowLocal (λ v. subtracted A dots v0 v c)
  unfolding subtracted
  subtracted_local dots v0 c q v w i r d l =
      column_cong c (A.sub (v i c) (delta A dots (v0 i) (v i) c)) (A.sub (w i c) (delta A dots (v0 i) (w i) c)) v w i d
      (ap₂ A.sub (r c q) (delta_cong dots dots (v0 i) (v0 i) (v i) (w i) c q (λ p u. refl) refl r)) (r d l)

  pub written_local : (n round c : ℕ) (e : Ending A) → c < k → RowLocal (written A n k round c e)
  unfolding written
  written_local n round c (kept norm) q v w i r d l = column_cong c (A.div (v i c) norm) (A.div (w i c) norm) v w i d (ap (λ (x : A.F). A.div x norm) (r c q)) (r d l)
  written_local n round c refreshed q v w i r d l =
      column_cong c (A.start (fresh_index n k round c i)) (A.start (fresh_index n k round c i)) v w i d refl (r d l)
  written_local n round c zeroed q v w i r d l = column_cong c A.zero A.zero v w i d refl (r d l)

  pub centred_local : (n : ℕ) (sums : ℕ → A.F) → RowLocal (centred A n sums)
  unfolding centred
  centred_local n sums v w i r d l = ap (λ (x : A.F). A.sub x (A.div (sums d) (A.whole n))) (r d l)

  pub scaled_local : (scales : ℕ → A.F) → RowLocal (scaled A scales)
  unfolding scaled
  scaled_local scales v w i r d l = ap (λ (x : A.F). A.mul x (scales d)) (r d l)
