-- Case by case of the pattern.
use Rattle.std.proofs.Common.{◌<◌, ◌^◌, T, not, sym, ◌∙◌, subst, ⊎_elim, arith}
use lib.Ieee.{binary64, fits, is_nan, of_bits, to_bits}
use Rattle.numbers.proofs.Values.{nan-root, infinity_root, zero-root, minus_zero-root, minus_bits, finite-bits, finite_pattern, bits-root}
use Rattle.numbers.proofs.root.Goals as goal
use Rattle.numbers.proofs.root.Goals.{Start}

held : (c : Start) → T (fits binary64 c.args.x)
held c = subst T (sym c.well_formed.0.1) tt

pub returns-then-is_nan : goal.returns-then-is_nan
returns-then-is_nan c = nan-root c.args.x (sym c.is_nan.ensures.value ∙ c.if-is_nan.true)

pub returns-then-bits-eq0 : goal.returns-then-bits-eq0
returns-then-bits-eq0 c =
    let x = c.args.x in
    let f = held (goal.at.returns-then-bits-eq0 c).Start in
    ⊎_elim (zero-root x f) (⊎_elim (λ w. infinity_root x f w.1) (λ w. minus_zero-root x f w.2)) c.then-bits-eq0.either

pub returns-then-bits-gt9223372036854775808 : goal.returns-then-bits-gt9223372036854775808
unfolding of_bits
returns-then-bits-gt9223372036854775808 c = minus_bits c.args.x (held (goal.at.returns-then-bits-gt9223372036854775808 c).Start) c.if-bits-gt9223372036854775808.true

pub root_bits-requires : goal.root_bits-requires
root_bits-requires c =
    let x = c.args.x in
    let l : to_bits binary64 x < 2 ^ 63 = omega arith in
    let n : T (not (is_nan x)) = rw (← c.is_nan.ensures.value, c.if-is_nan.false) tt in
    let f = finite-bits x (held (goal.at.root_bits-requires c).Start) n l in
    omega arith

pub float_from_bits-result : goal.float_from_bits-result
float_from_bits-result c = finite_pattern c.root_bits.result c.root_bits.ensures.finite

pub returns : goal.returns
returns c = bits-root c.args.x (held (goal.at.returns c).Start) c.root_bits.result c.root_bits.ensures
