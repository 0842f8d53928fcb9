use mathlib.Core.Path.{◌≡◌, ap}
use mathlib.Core.List.{[], ◌∷◌}
use Prim.Native.Nat.{ℕ, ◌+◌, ◌*◌, ◌≤◌}
use native.Mathlib.Nat.{mul-le-mul}
use native.Mathlib.Omega.{arith}
use Rattle.definition.specs.Numbers.{chunks, lent_sizes}
use Rattle.input.proofs.request.lent_sizes.Goals as goal

-- k is at most 15, and the most rows have 256 chunks
widest : (d : ℕ) → d ≤ 7 → d + 8 ≤ 15
widest d h = omega arith

most-chunks : (n r : ℕ) → n ≤ 1_048_576 → r ≡ chunks n → r ≤ 256
unfolding chunks
most-chunks n r h e = omega arith

pub overflow_mul-block : goal.overflow_mul-block
overflow_mul-block c = omega (arith, mul-le-mul c.requires.rows (widest _ c.requires.dims))

pub overflow_mul-partials : goal.overflow_mul-partials
overflow_mul-partials c = omega (arith, mul-le-mul (most-chunks _ _ c.requires.rows c.chunk_count-chunks.ensures) (widest _ c.requires.dims))

pub overflow_mul-partials-2 : goal.overflow_mul-partials-2
overflow_mul-partials-2 c = omega (arith, mul-le-mul (mul-le-mul (most-chunks _ _ c.requires.rows c.chunk_count-chunks.ensures) (widest _ c.requires.dims)) (widest _ c.requires.dims))

pub overflow_mul-output : goal.overflow_mul-output
overflow_mul-output c = omega (arith, mul-le-mul c.requires.rows c.requires.dims)

pub overflow_mul-ritz_record : goal.overflow_mul-ritz_record
overflow_mul-ritz_record c = omega (arith, mul-le-mul c.requires.rounds-few (widest _ c.requires.dims))

pub returns : goal.returns
unfolding lent_sizes
returns c =
    let n = c.args.n in let m = c.args.m in let d = c.args.d in let r = c.args.rounds in
    ap (λ (h : ℕ). n ∷ n ∷ m ∷ m ∷ n * (d + 8) ∷ n * (d + 8) ∷ n * (d + 8) ∷ h * (d + 8) * (d + 8) ∷ h ∷ n * d ∷ r * (d + 8 + 1) ∷ []) c.chunk_count-chunks.ensures
