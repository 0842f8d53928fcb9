use native.Mathlib.Omega.{arith}
use borrow.Author.Tests.{ltb-true, ltb-false}
use Rattle.repeated.proofs.Filling.{filling_none, filling_done, filling_hit, filling_on}
use Rattle.repeated.proofs.fill.Goals as goal

pub loop-r-init : goal.loop-r-init
loop-r-init c = filling_none _ _ _ _ _ c.requires.3 c.requires.0 c.requires.1 c.requires.2

pub read_line-r-requires : goal.read_line-r-requires
read_line-r-requires c = omega (arith, ltb-true)

pub among-requires : goal.among-requires
among-requires c = (omega (arith, c.requires.0), c.loop-r.invariant.block)

pub returns-then-among : goal.returns-then-among
returns-then-among c = filling_hit _ _ _ _ _ _ _ c.loop-r.invariant c.read_line-r.result c.read_line-r.ensures (omega (arith, ltb-true)) c.among.ensures c.if-among.true

pub keep-requires : goal.keep-requires
keep-requires c = omega (arith, c.loop-r-test.true)

pub overflow_add-line : goal.overflow_add-line
overflow_add-line c = omega (arith, c.read_line-r.ensures, c.loop-r.invariant)

pub loop-r-smaller : goal.loop-r-smaller
loop-r-smaller c = omega (arith, c.read_line-r.ensures, c.loop-r.invariant)

pub loop-r-preserved : goal.loop-r-preserved
loop-r-preserved c =
    filling_on _ _ _ _ _ _ _ c.loop-r.invariant c.read_line-r.result c.read_line-r.ensures (omega (arith, ltb-true)) c.among.ensures _
    c.if-among.false c.keep.ensures

pub returns-else-line-limit : goal.returns-else-line-limit
returns-else-line-limit c = filling_done _ _ _ _ _ _ _ c.loop-r.invariant (λ p q r. omega (arith, ltb-false)) c.requires.0

pub returns-else-at-text : goal.returns-else-at-text
returns-else-at-text c = filling_done _ _ _ _ _ _ _ c.loop-r.invariant (λ p q r. omega (arith, ltb-false)) c.requires.0

pub returns-after-loop-r : goal.returns-after-loop-r
returns-after-loop-r c = filling_done _ _ _ _ _ _ _ c.loop-r.invariant (λ p q r. omega arith) c.requires.0
