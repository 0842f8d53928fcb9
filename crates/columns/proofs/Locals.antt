-- What is computed of a row looks at no other number than the row's. Assumes nothing.
use mathlib.Core.Path.{◌≡◌, ap, ◌∙◌}
use Prim.Native.Nat.{ℕ, ◌≤◌, ◌<◌}
use native.Mathlib.Omega.{arith}
use mathlib.Core.List.{List}
use lib.ListN.{get_or}
use Rattle.definition.specs.Arith.{Arith}
use Rattle.definition.specs.ChunkedColumnReduce.{Block}
use Rattle.definition.specs.JacobiEigen.{Matrix}
use Rattle.definition.specs.OrthonormalizeBlock.{delta}
use Rattle.definition.specs.ChebyshevRayleighRitz.{rotated}
use Rattle.definition.proofs.Sums.{add_cong, sum_cong}

module _ (A : Arith) where
  -- a delta looks at the columns before c
  pub delta_cong : (dots : ℕ → A.F) (own : A.F) (row line : ℕ → A.F) (c : ℕ) → ((p : ℕ) → p < c → row p ≡ line p) → delta A dots own row c ≡ delta A dots own line c
  unfolding delta
  delta_cong dots own row line c h =
      add_cong A (A.mul (dots c) own) (λ p. A.mul (dots p) (row p)) (λ p. A.mul (dots p) (line p)) 0 c (λ p s t. ap (A.mul (dots p)) (h p (omega arith)))

  -- and what it leaves of column c at column c too
  pub left_cong : (dots : ℕ → A.F) (own : A.F) (row line : ℕ → A.F) (c : ℕ) → ((p : ℕ) → p ≤ c → row p ≡ line p)
      → A.sub (row c) (delta A dots own row c) ≡ A.sub (line c) (delta A dots own line c)
  left_cong dots own row line c h =
      ap (λ (x : A.F). A.sub x (delta A dots own row c)) (h c (omega arith))
      ∙ ap (A.sub (line c)) (delta_cong dots own row line c (λ p q. h p (omega arith)))

  -- a rotated row looks at its own k numbers
  pub rotated_cong : (k : ℕ) (v w : Block A) (vectors : Matrix A) (order : List ℕ) (i j d : ℕ) → ((p : ℕ) → p < k → v i p ≡ w j p)
      → rotated A k v vectors order i d ≡ rotated A k w vectors order j d
  unfolding rotated
  rotated_cong k v w vectors order i j d h =
      sum_cong A (λ p. A.mul (v i p) (vectors p (get_or order d 0))) (λ p. A.mul (w j p) (vectors p (get_or order d 0))) 0 k
      (λ p s t. ap (λ (x : A.F). A.mul x (vectors p (get_or order d 0))) (h p t))
