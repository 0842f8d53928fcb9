-- The next bound: raised to the least bound, then lowered to the largest. Assumes nothing.
use Rattle.std.proofs.Common.{◌≡◌, Bool, true, false, cond, refl}
use lib.Ieee.{Float, of_bits, lt}
use Rattle.definition.specs.Arith.{ieee64}
use Rattle.definition.specs.ChebyshevRayleighRitz.{next_bound}
use Rattle.numbers.specs.Answers.{raised, lowered}

pub raised-lowered : (x : Float) → lowered ieee64 (raised ieee64 x ieee64.bound_least) ieee64.bound_most ≡ next_bound ieee64 x
unfolding next_bound of_bits lt
raised-lowered x = go (lt ieee64.bound_least x)
  where
    go : (b : Bool) → lowered ieee64 (cond b x ieee64.bound_least) ieee64.bound_most ≡ cond b (lowered ieee64 x ieee64.bound_most) ieee64.bound_least
    go true = refl
    go false = refl
