use mathlib.Core.Path.{ap, sym, ◌∙◌}
use native.Mathlib.Omega.{arith}
use Rattle.digits.specs.Digits.{every, is_hex, hex_from}
use Rattle.digits.proofs.Scans.{hex-start, hex-step-every, hex-step-value, hex-step-wrong, hex-room, hex_told, hex-not_told, hex-wrong, hex-done}
use Rattle.digits.proofs.Bytes.{value-small}
use Rattle.digits.proofs.Hexes.{room-more}
use Rattle.digits.proofs.hex_bits.Goals as goal

pub loop-k-init : goal.loop-k-init
loop-k-init c = (omega arith, omega arith, ap (every is_hex) (hex-start c.args.bytes.now c.args.from), ap (hex_from 0) (hex-start c.args.bytes.now c.args.from))

pub returns-in_err-digit : goal.returns-in_err-digit
returns-in_err-digit c =
    let no = hex-not_told _ (sym c.hex_value.ensures ∙ c.in_err-digit.was) in
    c.from_residual.ensures ∙ hex-wrong _ _ (c.loop-k.invariant.2 ∙ hex-step-wrong _ _ _ c.requires c.loop-k-test.true no)

pub overflow_mul-value : goal.overflow_mul-value
overflow_mul-value c = omega (arith, hex-room c.loop-k.k c.loop-k.value 0 c.loop-k-test.true c.loop-k.invariant.1 (omega arith))

pub overflow_add-value : goal.overflow_add-value
overflow_add-value c =
    let told = hex_told _ _ (sym c.hex_value.ensures ∙ c.in_ok-digit.was) in
    omega (arith, hex-room c.loop-k.k c.loop-k.value c.in_ok-digit.digit c.loop-k-test.true c.loop-k.invariant.1 (omega (arith, value-small _ told.0, told.1)))

pub loop-k-preserved : goal.loop-k-preserved
loop-k-preserved c =
    let at = c.loop-k.invariant in
    let told = hex_told _ _ (sym c.hex_value.ensures ∙ c.in_ok-digit.was) in (
      omega arith,
      room-more _ _ _ at.1 (omega (arith, value-small _ told.0, told.1)),
      at.2 ∙ hex-step-every _ _ _ c.requires c.loop-k-test.true told.0,
      at.3 ∙ hex-step-value _ _ _ c.requires c.loop-k-test.true _ _ told.1,
    )

pub returns : goal.returns
returns c = hex-done _ _ _ _ c.requires c.loop-k.invariant.0 c.loop-k-test.false c.loop-k.invariant.2 c.loop-k.invariant.3
