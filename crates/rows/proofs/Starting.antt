-- The start block's numbers, by the place that keeps them. Assumes nothing.
use mathlib.Core.Path.{◌≡◌, sym, ap}
use Prim.Native.Nat.{ℕ, ◌+◌, ◌*◌}
use native.Mathlib.Nat.{div-add-mod'}
use Rattle.definition.specs.Arith.{Arith}
use Rattle.definition.specs.ChebyshevRayleighRitz.{start_block}
use Rattle.definition.specs.Memory.{place, row_at, column_at, number_at}
use Rattle.definition.proofs.Blocks.{place-first}

-- the start block's numbers stand in the order of their indices
pub start-at : (A : Arith) (n k first p : ℕ) → A.start (first * k + p) ≡ number_at n k (start_block A k) (place n k first 0 + p)
unfolding number_at row_at column_at start_block
start-at A n k first p = rw (place-first n k first) (ap A.start (sym (div-add-mod' (first * k + p) k)))
