use mathlib.Core.Path.{ap, ◌∙◌}
use mathlib.Core.Bool.{Bool, ◌||◌}
use Prim.Native.Nat.{ℕ}
use borrow.Author.Tests.{lt-ltb, le-ltb}
use lib.Dec.{ltb}
use lib.ListN.{length}
use Rattle.definition.specs.Numbers.{rows_most, entries_most}
use Rattle.definition.specs.Refusals.{given, test_limits}
use Rattle.input.proofs.Flags.{or_decided, or_open}
use Rattle.input.proofs.request.test_limits.Goals as goal
use Rattle.input.proofs.request.test_limits.Goals.{then-n-gt-ROWS_MOST, else-n-gt-ROWS_MOST}

pub returns : goal.returns
unfolding test_limits
returns c =
    let many = ltb entries_most (length c.args.graph.columns.now) in
    c.refuse_if.ensures
    ∙ ap (λ (b : Bool). given b 3 0) (elim c.if-n-gt-ROWS_MOST.branch [ then-n-gt-ROWS_MOST w ↦ or_decided many (lt-ltb _ _ w.if-n-gt-ROWS_MOST.true) w.refuse_if-is | else-n-gt-ROWS_MOST w ↦ or_open many (le-ltb _ _ w.if-n-gt-ROWS_MOST.false) w.refuse_if-is ])
    ∙ ap (λ (n : ℕ). given (ltb rows_most n || many) 3 0) c.row_count-n.ensures
