use native.Mathlib.Omega.{arith}
use borrow.Author.Tests.{not-false}
use Rattle.scanning.specs.Said.{stop_told}
use Rattle.matrix_market.proofs.Bodies.{tested_right}
use Rattle.matrix_market.proofs.test_body.Goals as goal

-- the test for a repeat is not cited by its name, so that a false one is refused as false
pub returns : goal.returns
returns c =
    let a = c.args in
    let s = c.scan-scanned in
    let again = c.repeat_line-again in
    tested_right a.text.now a.from a.n a.m a.first (stop_told s.result) s.ensures.is again.result again.ensures (omega arith)
    (not-false _ c.if-not-scanned.false) c.requires.within s.ensures.few s.ensures.doubled
