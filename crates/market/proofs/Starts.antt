-- Where rows in file order start: the first at 0, each where the one before it ends. Assumes nothing.
use mathlib.Core.List.{List}
use mathlib.Core.Path.{◌≡◌, refl, ap}
use Prim.Native.Nat.{ℕ, zero, suc, ◌+◌, ◌≤◌}
use native.Mathlib.Omega.{arith}
use lib.ListN.{length, length-append}
use Rattle.definition.proofs.Fill.{split}
use Rattle.market.specs.Market.{Entry}
use Rattle.market.specs.Passes.{neighbours, gathered_up_to, gathered_start}

module _ (es : List Entry) where
  pub start_first : gathered_start es 0 ≡ 0
  unfolding gathered_start gathered_up_to
  start_first = refl

  pub start-next : (i : ℕ) → gathered_start es (suc i) ≡ gathered_start es i + length (neighbours i es)
  unfolding gathered_start gathered_up_to
  start-next i = length-append (gathered_up_to es i) (neighbours i es)

  pub start-most : (i j : ℕ) → i ≤ j → gathered_start es i ≤ gathered_start es j
  start-most i zero h = let e : i ≡ 0 = omega arith in omega (arith, ap (gathered_start es) e)
  start-most i (suc j) h =
      split i (suc j)
      (λ l. let m = start-most i j (omega arith) in omega (arith, start-next j))
      (λ g. let e : i ≡ suc j = omega arith in omega (arith, ap (gathered_start es) e))
