use mathlib.Core.Path.{refl}
use native.Mathlib.Omega.{arith}
use borrow.Author.Tests.{lt-ltb, le-ltb, le-leb, lt-leb}
use lib.ListN.{length}
use Rattle.machine.specs.Ranges.{lists_enough}
use Rattle.guard.proofs.Chains.{failed, passed}
use Rattle.guard.proofs.rows.lists_enough.Goals as goal

pub returns-then-a-graph-2 : goal.returns-then-a-graph-2
unfolding lists_enough
returns-then-a-graph-2 c =
    let s = c.args in
    passed refl (lt-ltb s.a.rows (length s.graph.starts.now) (omega arith)) (passed refl (le-leb s.a.entries (length s.graph.columns.now) (omega arith)) refl)

pub returns-else-a-graph-2 : goal.returns-else-a-graph-2
unfolding lists_enough
returns-else-a-graph-2 c =
    let s = c.args in
    passed refl (lt-ltb s.a.rows (length s.graph.starts.now) (omega arith)) (failed refl _ (lt-leb s.a.entries (length s.graph.columns.now) (omega arith)))

pub returns-else-a-graph : goal.returns-else-a-graph
unfolding lists_enough
returns-else-a-graph c =
    let s = c.args in
    failed refl _ (le-ltb s.a.rows (length s.graph.starts.now) (omega arith))
