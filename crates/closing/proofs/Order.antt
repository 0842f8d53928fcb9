-- The Ritz places in their array: each of the first k is below k.
use mathlib.Core.Path.{◌≡◌}
use mathlib.Core.List.{List, ◌++◌}
use Prim.Native.Nat.{ℕ, ◌<◌}
use native.Mathlib.Omega.{arith}
use lib.ListN.{length, get_or, get_or-append}
use lib.Ieee.{Float, binary64}
use Rattle.definition.specs.Arith.{ieee64}
use Rattle.definition.specs.Arrange.{arranged_by}
use Rattle.definition.specs.ChebyshevRayleighRitz.{ritz_order}
use Rattle.definition.proofs.Arranged.{arrange-length}
use Rattle.definition.proofs.RitzOrder.{ritz-below}

order-length : (k : ℕ) (value : ℕ → Float) → length (ritz_order ieee64 k value) ≡ k
unfolding ritz_order arranged_by
order-length k value = arrange-length _ k

-- with anything behind them
pub order_below : (k : ℕ) (value : ℕ → Float) (rest order : List ℕ) (j : ℕ) → order ≡ ritz_order ieee64 k value ++ rest → j < k → get_or order j 0 < k
order_below k value rest order j e h =
    rw (e, get_or-append (ritz_order ieee64 k value) rest 0 j (omega (arith, order-length k value))) (ritz-below binary64 k value j h)
