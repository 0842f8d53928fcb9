use mathlib.Core.Path.{sym, ap, ◌∙◌}
use native.Mathlib.Omega.{arith}
use lib.ListN.{length}
use Rattle.lines.specs.Parts.{line_goes_on}
use Rattle.lines.proofs.Runs.{run_off, at_on, at_nil}
use Rattle.lines.proofs.Ends.{goes_nil}
use Rattle.lines.proofs.line_end.Goals as goal

pub returns-then-not-line_goes_on : goal.returns-then-not-line_goes_on
returns-then-not-line_goes_on c = omega (arith, c.loop-i.invariant, ap length (run_off line_goes_on _ (sym c.line_goes_on.ensures ∙ c.if-not-line_goes_on.true)))

pub loop-i-preserved : goal.loop-i-preserved
loop-i-preserved c = omega (arith, c.loop-i.invariant, ap length (at_on line_goes_on _ _ c.loop-i-test.true (sym c.line_goes_on.ensures ∙ c.if-not-line_goes_on.false)))

pub returns : goal.returns
returns c = omega (arith, ap length (at_nil line_goes_on c.args.text.now c.loop-i.i goes_nil c.loop-i-test.false))
