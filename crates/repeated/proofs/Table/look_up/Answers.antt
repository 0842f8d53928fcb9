use mathlib.Core.Path.{sym, ap, ◌∙◌}
use mathlib.Core.Bool.{false≢true}
use native.Mathlib.Omega.{arith}
use Rattle.lines.specs.Lines.{holds}
use Rattle.repeated.proofs.Chains.{look-start, look-on, look-falls, look_none}
use Rattle.repeated.proofs.Table.look_up.Goals as goal

pub loop-i-init : goal.loop-i-init
loop-i-init c =
    let e = c.hash-h.ensures in
    look-start _ _ _ _ _ c.self.invariant _ e.0 e.1

pub returns-then-i-eq0 : goal.returns-then-i-eq0
returns-then-i-eq0 c =
    λ e. sym (ap (holds c.args.key) c.self.view_is)
    ∙ look_none _ _ _ _ _ c.self.invariant _ (look-on _ _ _ _ _ c.self.invariant c.loop-i.i c.loop-i.invariant c.loop-i-test.true) c.if-i-eq0.true

pub loop-i-smaller : goal.loop-i-smaller
loop-i-smaller c = look-falls _ _ _ _ _ c.self.invariant c.loop-i.i c.loop-i.invariant c.if-i-eq0.false

pub loop-i-preserved : goal.loop-i-preserved
loop-i-preserved c = look-on _ _ _ _ _ c.self.invariant c.loop-i.i c.loop-i.invariant c.loop-i-test.true

pub returns : goal.returns
returns c = λ e. absurd (false≢true (sym e))
